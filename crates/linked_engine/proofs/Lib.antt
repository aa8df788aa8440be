pub mod Checking
pub mod Groups
pub mod Numbered
pub mod Reading
pub mod Recorded
pub mod Traced
