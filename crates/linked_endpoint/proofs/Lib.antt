pub mod Waiting
pub mod Joined
pub mod Few
pub mod Turns
pub mod Settling
pub mod Accepting
