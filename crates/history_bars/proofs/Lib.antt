mod Lookups
pub mod Steps
pub mod Occurring
mod Overlaps
