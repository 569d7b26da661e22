pub mod Several
pub mod Within
