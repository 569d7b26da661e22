pub mod Separators
