-- Believed: Source, Printed.
-- Laws: Reads, Printing.
pub mod Source
pub mod Printed
pub mod Reads
pub mod Printing
