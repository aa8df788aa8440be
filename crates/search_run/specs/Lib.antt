pub mod Trails
pub mod StackView
pub mod Marks
pub mod Stacked
pub mod Ends
pub mod Frames
pub mod Outcomes
pub mod Watched
