pub mod Calls
pub mod Credit
pub mod Flushed
pub mod Windows
pub mod Content
pub mod Refusals
pub mod Steps
