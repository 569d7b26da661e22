pub mod Fuel
pub mod Turns
pub mod Looks
pub mod Texts
