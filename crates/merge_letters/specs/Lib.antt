-- Definitions: Letters.
-- Laws: Known, Table.
pub mod Letters
pub mod Known
pub mod Table
