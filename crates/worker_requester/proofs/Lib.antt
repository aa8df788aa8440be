pub mod Steps
pub mod Waits
