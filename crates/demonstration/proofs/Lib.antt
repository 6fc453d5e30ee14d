-- The demonstration: the files that are read, the lengths that are told, and what is put into the buffer.
pub mod Filling
pub mod Lengths
pub mod Shows
