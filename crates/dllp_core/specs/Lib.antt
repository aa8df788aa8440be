pub mod Layout
pub mod Faults
