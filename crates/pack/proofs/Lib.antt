-- The end of a merge: by numbers alone, and with the table that memory holds.
pub mod Rooms
pub mod Packing
