pub mod Line
pub mod LineFacts
pub mod Lines
