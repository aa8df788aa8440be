pub mod Entries
pub mod History
pub mod Limits
pub mod Step
pub mod NewValue
