-- Where nothing can be lost; and that what is found lost is what the rules call so.
pub mod Unmarked
pub mod Positions
pub mod Finding
