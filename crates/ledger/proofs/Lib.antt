-- Laws of the ledger: its lines, how they are written one after the other, its length, summed over the lines of memory, and that these
-- are the table's records where they stand in written order.
pub mod Lines
pub mod Going
pub mod Summing
pub mod Ordered
pub mod Lengths
