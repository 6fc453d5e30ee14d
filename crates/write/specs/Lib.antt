-- A table in memory with its contents in texts, and what writing it does.
pub mod Stored
pub mod Writing
