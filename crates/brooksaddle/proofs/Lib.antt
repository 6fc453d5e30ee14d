-- What the calls tell once a table was read, and once all were.
pub mod Told
pub mod Merging
