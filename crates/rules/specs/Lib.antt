-- The rules of the papers: what a reader must believe.
pub mod Ascii
pub mod Bytes
pub mod Scan
pub mod Lists
pub mod Attributes
pub mod Names
pub mod Lexer
pub mod Reader
pub mod Table
pub mod Sound
pub mod Profile
pub mod Lookup
pub mod Words
pub mod Text
pub mod Finds
pub mod Selector
pub mod Chain
pub mod Query
pub mod Refusals
pub mod Answers
pub mod Batch
-- The words that the theorems need beside them.
pub mod Descends
-- Examples as questions and answers, and the checked pages.
pub mod Questions
pub mod Pages
-- Words for proofs and inner contracts, no rules.
pub mod Facts
pub mod Buffers
pub mod Places
