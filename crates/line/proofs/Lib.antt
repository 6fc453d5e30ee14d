-- What reading a line rests on: plain bytes passed over, good bytes in groups, the fields of a content, the parts of a line, its faults;
-- and what a caller may conclude from what is told.
pub mod PlainBytes
pub mod Places
pub mod GoodBytes
pub mod Scanning
pub mod Cutting
pub mod Parting
pub mod Judging
pub mod Telling
