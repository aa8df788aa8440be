pub mod Texts
pub mod Recorded
pub mod Lines
pub mod Traces
