-- Climbing as the code goes, and what it finds in memory that holds a table.
pub mod Climbs
pub mod Greatest
