pub mod Runs
pub mod Grammar
pub mod Canon
pub mod Operations
pub mod Ranges
mod Room
