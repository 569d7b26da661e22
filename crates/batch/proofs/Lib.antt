pub mod Handles
pub mod Three
pub mod Words
pub mod Cleared
pub mod Fitting
pub mod Joined
pub mod Skipping
