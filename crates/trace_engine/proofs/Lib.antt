mod Judging
mod Rewritten
pub mod Clocked
pub mod Reasons
pub mod Ended
