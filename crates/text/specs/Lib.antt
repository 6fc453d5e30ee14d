-- What the leaf calls of reading answer.
pub mod Reads
