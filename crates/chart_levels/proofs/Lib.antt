pub mod Values
pub mod Steps
pub mod Mixed
pub mod Last
