pub mod Turns
pub mod Offered
