pub mod Held
pub mod Openings
pub mod Settling
