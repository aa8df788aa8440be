pub mod Blocks
pub mod Recordings
