-- How a merge ends once the merged table lies in memory.
pub mod Packed
