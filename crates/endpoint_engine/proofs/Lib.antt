pub mod Calls
pub mod Reading
pub mod Telling
pub mod Traced
