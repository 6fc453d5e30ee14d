-- The demands, over the texts handed in and the bytes written. Begin with OnTheCall; OnRefusal has the codes that merge tells, OnLedger and
-- OnOrigins what its ledger says. OnCheck, OnTidy and OnContent state the other calls.
pub mod Packing
pub mod Reading
pub mod Coded
pub mod Swapping
pub mod Demand1
pub mod Demand2
pub mod Demand3
pub mod Unread
pub mod Room
pub mod Clashes
pub mod LackOfRoom
pub mod Bounds
pub mod Lengths
pub mod OnOrigins
pub mod OnTheCall
pub mod OnCheck
pub mod OnRefusal
pub mod OnTidy
pub mod OnContent
pub mod NumberLines
pub mod OnLedger
pub mod Printed
pub mod Ranges
pub mod TidyTwice
