-- Document 01 as definitions that compute: what a reader of Brooksaddle must believe. Its sections stand here:
--     The table as text             Limits, Text, Line, Table, Tree, Written
--     Calls and what comes back     Codes, Calls, Promises
--     Facts and edits               Marks, Facts, Merge; its conditions once more, as types: Conditions
--     The ledger                    Ledger
--     Demonstration                 `shown` in Calls; its example in proofs/Examples
--     Lettered trees                proofs/Lettered
--     Slips to rule out             must-fail/
--     Promises                      Promises, proofs/Settled
-- and what the three demands speak of stands in Demands and Room. ReadableText and UnreadableText say in document 01's own words, with its
-- numbers and nothing on how a text is read, what a table is and what is none. Lists and Quoted are words that the others use.
pub mod Limits
pub mod Codes
pub mod Kinds
pub mod Lists
pub mod Quoted
pub mod Marks
pub mod Text
pub mod Line
pub mod Table
pub mod Tree
pub mod Facts
pub mod Merge
pub mod Written
pub mod Ledger
pub mod Calls
pub mod Promises
pub mod Demands
pub mod Conditions
pub mod Room
pub mod ReadableText
pub mod UnreadableText
