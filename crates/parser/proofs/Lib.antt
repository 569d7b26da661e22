pub mod Readings
pub mod Running
pub mod Answering
