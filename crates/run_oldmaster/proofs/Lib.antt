-- Laws: Read.
pub mod Read
