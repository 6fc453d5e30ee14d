-- Facts, trees and the merge. Lists and facts of any kind, then disagreement, trees and the walk; then demand 3 over facts; then
-- tables: each is a tree with exactly its facts, their merge is refused exactly as Conditions says, and demand 3 holds of them.
pub mod Lists
pub mod Sets
pub mod Marks
pub mod Kept
pub mod Disagreeing
pub mod OneTable
pub mod Trees
pub mod Once
pub mod Walk
pub mod Reached
pub mod Answering
pub mod Accepting
pub mod Order
pub mod TableTree
pub mod RowsBack
pub mod SameRows
pub mod Deepest
pub mod LineByLine
pub mod Clashing
pub mod Meeting
pub mod Refusing
pub mod Naming
pub mod Demand3
