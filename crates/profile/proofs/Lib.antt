pub mod White
pub mod Compared
pub mod Slots
