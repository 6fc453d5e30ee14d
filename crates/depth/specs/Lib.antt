-- Depth by climbing.
pub mod Climbing
