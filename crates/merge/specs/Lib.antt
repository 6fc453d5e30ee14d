-- What merging tables that were read does.
pub mod Merging
