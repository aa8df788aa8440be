pub mod Lines
pub mod Runs
pub mod CompleterView
pub mod Tlp
