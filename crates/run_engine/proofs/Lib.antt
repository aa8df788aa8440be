mod Additions
mod Countings
pub mod Plans
