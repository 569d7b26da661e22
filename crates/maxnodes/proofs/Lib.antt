pub mod Bound
pub mod Attained
pub mod Filling
pub mod Examples
