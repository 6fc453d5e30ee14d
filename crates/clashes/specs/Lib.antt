-- The least places of 21, 22 and 23.
pub mod Clashes
