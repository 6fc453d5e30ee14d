-- Edits, clashes and kept facts of positions. What the code's questions come to; the edits by the tables that have them; then that what
-- is read off the tables' answers is what the rules say of their facts: the clashes of 22 and 23, the kept facts, and the least places;
-- last, that no edit shows at a record that stands as in old.
pub mod Branches
pub mod Ways
pub mod Telling
pub mod Clashing
pub mod Keeping
pub mod Best
pub mod Leasts
pub mod Tables
pub mod Unmoved
