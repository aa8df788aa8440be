pub mod LogView
pub mod Steps
pub mod Recordings
