pub mod Sizes
pub mod Device
