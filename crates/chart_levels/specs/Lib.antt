pub mod StepLineView
pub mod Levels
pub mod Strips
pub mod Pages
