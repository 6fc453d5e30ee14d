-- The judgement of 21 to 25.
pub mod Judged
