pub mod Codes
pub mod LinkCodes
