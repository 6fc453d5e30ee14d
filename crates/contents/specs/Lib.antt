-- Contents of the tables side by side: edits, clashes, where the kept content lies, and the marks of lines.
pub mod Contents
pub mod Memory
pub mod Marks
pub mod Tables
