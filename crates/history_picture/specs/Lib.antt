pub mod Points
pub mod Notes
pub mod Legend
pub mod Picture
pub mod Shown
