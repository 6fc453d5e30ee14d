-- The merged tree laid down as one more table.
pub mod Laying
pub mod Memory
