-- What reading a table, and what reading all of them, answers and leaves in memory.
pub mod Read
pub mod All
