-- The ledger of a table in memory, and the lengths of what is written.
pub mod Entries
pub mod Sums
