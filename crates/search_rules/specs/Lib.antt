pub mod Rules
pub mod Junk
pub mod Alike
pub mod Answered
pub mod Idle
