pub mod Runs
pub mod Requests
