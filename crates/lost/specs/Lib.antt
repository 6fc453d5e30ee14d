-- Lost edits.
pub mod Lost
