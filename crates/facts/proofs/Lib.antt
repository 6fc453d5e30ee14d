-- One table in memory. Tables side by side; what the facts of the lines are as one list of numbers, and what stores come to; then lists
-- that hang together, and what one line more does to them; then that memory holds a table, from no line on, and that it answers exactly as
-- the table's facts say.
pub mod Sides
pub mod Rows
pub mod Laying
pub mod Strings
pub mod Views
pub mod Shown
pub mod OneMore
pub mod Adding
pub mod Fresh
