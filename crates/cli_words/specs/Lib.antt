pub mod Links
pub mod Options
pub mod Refusals
pub mod Faults
