pub mod Noting
pub mod Slots
