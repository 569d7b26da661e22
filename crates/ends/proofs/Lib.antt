pub mod Order
pub mod Rounds
pub mod Rows
pub mod Columns
pub mod Counting
pub mod Placing
pub mod Whole
