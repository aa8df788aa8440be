pub mod Names
pub mod Watched
pub mod Monitoring
pub mod Texts
pub mod Heads
pub mod Runs
