-- Edits and kept facts, read off the answers of tables that lie side by side.
pub mod Branches
pub mod Least
pub mod Positions
pub mod Memory
