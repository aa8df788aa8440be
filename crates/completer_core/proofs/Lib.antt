pub mod Spans
pub mod Shapes
pub mod Spelled
