pub mod Running
pub mod Crews
pub mod Begun
pub mod Jobs
pub mod Tasks
