-- Bytes put into a lent buffer.
pub mod Put
