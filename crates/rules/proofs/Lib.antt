-- What is proved of the definitions by computing, or in a line or two.
pub mod Lettered
pub mod Examples
pub mod Told
pub mod Origins
pub mod Settled
