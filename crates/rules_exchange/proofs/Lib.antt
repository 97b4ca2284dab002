-- Laws: Listed, Exchange.
pub mod Listed
pub mod Exchange
