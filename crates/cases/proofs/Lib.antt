-- The parts of the cases.
pub mod FirstPart
