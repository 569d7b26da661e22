pub mod Repeated
pub mod Within
pub mod Writing
