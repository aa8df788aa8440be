pub mod Scenes
pub mod Spans
