-- One table in memory: how it lies there, when it is held there, what is asked of it, and when its lines stand in written order.
pub mod Memory
pub mod Table
pub mod Inputs
pub mod Holds
pub mod Asked
pub mod Order
