pub mod Lines
pub mod Writer
pub mod Writes
