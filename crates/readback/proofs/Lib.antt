-- What is proved on bytes, in reading order: texts, decimals and contents, the rows that may follow one another, read-back and its
-- converse, which texts are tables and which are refused in document 01's words, trees, tidy, the parts told for contents, and the lines of
-- a ledger.
pub mod Splitting
pub mod Decimals
pub mod Contents
pub mod Following
pub mod Faults
pub mod LineFaults
pub mod Accepting
pub mod ReadBack
pub mod Canonical
pub mod ReadableText
pub mod UnreadableText
pub mod TreesBack
pub mod Tidying
pub mod Parts
pub mod Entries
