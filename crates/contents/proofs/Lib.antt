-- Edits, clashes and kept contents. What the code's questions come to, and what the marks of lines say; then that what is read off the
-- tables is what the rules say of their facts: the clash of 21, the kept content, its origin, and the lost contents of 25; last, that
-- memory tells the tables' contents.
pub mod Comparing
pub mod Asking
pub mod Sources
pub mod Marking
pub mod Folding
pub mod Clashing
pub mod Keeping
pub mod Origins
pub mod Losing
pub mod Tables
