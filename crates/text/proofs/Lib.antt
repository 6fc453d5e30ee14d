-- What the leaf calls' loops rest on: the places of a text, runs of plain bytes, decimals, ends of lines, one of some texts.
pub mod Places
pub mod Runs
pub mod Decimals
pub mod Endings
pub mod Texts
