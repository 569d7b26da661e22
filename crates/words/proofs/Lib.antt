pub mod Fits
pub mod Gaps
pub mod Walk
