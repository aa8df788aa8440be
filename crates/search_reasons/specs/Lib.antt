pub mod Reasons
pub mod Lines
