-- Believed: Reply.
-- Laws: Replies.
pub mod Reply
pub mod Replies
