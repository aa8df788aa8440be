mod AsBox
mod Kept
pub mod Traced
pub mod Turns
