pub mod Laws
pub mod Rows
pub mod Endings
pub mod Example
