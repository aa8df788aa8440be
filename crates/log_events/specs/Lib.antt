pub mod Counts
pub mod Formed
pub mod Joined
pub mod Completing
pub mod Asked
