-- What is told of one line, and its parts.
pub mod Told
pub mod Parts
