pub mod Joined
pub mod Newcomers
pub mod Possible
pub mod Counted
pub mod Emptied
pub mod Lists
pub mod Opened
pub mod Shelved
