pub mod Credits
pub mod Texts
pub mod Crcs
pub mod Lines
pub mod Traces
