-- Believed: Text.
-- Laws: Words, Pieces, Same, Lines, Joined, Numbers.
pub mod Text
pub mod Words
pub mod Pieces
pub mod Same
pub mod Lines
pub mod Joined
pub mod Numbers
