pub mod Following
pub mod Refused
