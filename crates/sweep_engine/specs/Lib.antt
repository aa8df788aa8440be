pub mod Ranges
pub mod Pipe
pub mod Sweep
