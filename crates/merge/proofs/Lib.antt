-- That the merge of tables in memory is that of the rules.
pub mod Merging
