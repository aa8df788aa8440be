pub mod LinkedView
pub mod Linked
pub mod Runs
pub mod Settling
