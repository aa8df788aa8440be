pub mod Parts
pub mod Stays
pub mod Growth
