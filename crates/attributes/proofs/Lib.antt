pub mod Notes
pub mod Slotted
pub mod Words
pub mod Noted
pub mod Reading
pub mod Alike
