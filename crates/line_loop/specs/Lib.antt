pub mod Run
pub mod Engine
pub mod Faults
