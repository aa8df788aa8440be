pub mod Prefixing
pub mod Keeping
pub mod Runs
pub mod Verdicts
pub mod Watching
