-- Believed: Compare, Compared.
-- Laws: Left, Obstacles, Walk, Refusing.
pub mod Compare
pub mod Left
pub mod Obstacles
pub mod Walk
pub mod Compared
pub mod Refusing
