-- What the writing calls rest on: bytes put one after another, a part copied, digits put last one first.
pub mod Puts
pub mod Copies
pub mod Digits
