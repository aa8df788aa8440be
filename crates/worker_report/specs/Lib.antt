pub mod Halts
pub mod OneRun
