-- The demonstration's files and its output.
pub mod Counted
pub mod Printed
pub mod Files
