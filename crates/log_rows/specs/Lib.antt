pub mod Logs
pub mod Swaps
