-- Believed: Words, Answer, Means.
-- Laws: Showing, Rows, Promise, Lines, Meanings.
pub mod Words
pub mod Answer
pub mod Showing
pub mod Rows
pub mod Promise
pub mod Means
pub mod Lines
pub mod Meanings
