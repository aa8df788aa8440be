pub mod Beside
pub mod Counts
pub mod Histories
pub mod Merges
pub mod Places
pub mod Steps
