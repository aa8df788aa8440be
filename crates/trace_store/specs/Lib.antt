pub mod Changes
pub mod Kept
pub mod Ranges
pub mod Stored
