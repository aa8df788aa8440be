pub mod Options
pub mod Step
pub mod Script
