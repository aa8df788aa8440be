pub mod Scripts
pub mod Fated
