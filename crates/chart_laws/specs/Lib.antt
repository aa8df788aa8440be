pub mod Arrows
pub mod Happened
