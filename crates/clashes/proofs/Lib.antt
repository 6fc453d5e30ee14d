-- Where nothing clashes; and that the least places that are found are those of the rules.
pub mod Unmarked
pub mod Finding
