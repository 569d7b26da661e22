pub mod Row
pub mod Document
