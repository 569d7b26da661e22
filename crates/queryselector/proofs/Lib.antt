pub mod Steps
pub mod Written
pub mod Returns
pub mod Public
