pub mod Testing
pub mod Passed
