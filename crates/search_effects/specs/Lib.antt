pub mod Effects
pub mod Saved
