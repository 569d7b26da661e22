pub mod Records
pub mod Questions
pub mod Printed
