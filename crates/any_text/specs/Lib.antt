-- Believed: Decimal, Lines, Put, Line, Printed.
-- Laws: Digits, Widths, Puts, Spacing, Lined, Printing, Sample.
pub mod Decimal
pub mod Lines
pub mod Put
pub mod Digits
pub mod Widths
pub mod Puts
pub mod Line
pub mod Printed
pub mod Spacing
pub mod Lined
pub mod Printing
pub mod Sample
