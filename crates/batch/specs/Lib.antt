pub mod Batch
pub mod Names
pub mod Texts
pub mod Skips
