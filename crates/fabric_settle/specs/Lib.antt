pub mod Doing
pub mod Keeping
pub mod Reached
pub mod Hops
pub mod Happenings
pub mod Rounds
pub mod Rest
