pub mod Steps
pub mod Entries
pub mod Turns
pub mod Ids
