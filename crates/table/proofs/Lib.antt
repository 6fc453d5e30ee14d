-- Reading a table: what is known at a line, how a line is judged, what a good one adds, the ways through the code; what the answer says of
-- the text; and all tables in turn.
pub mod Reading
pub mod Growing
pub mod Steps
pub mod Answers
pub mod Turns
