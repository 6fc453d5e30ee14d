-- What the writer's proofs rest on: parts of the texts, one turn of writing a record or a list, and the tree that memory's links lay
-- down.
pub mod Parts
pub mod Turns
pub mod Laying
