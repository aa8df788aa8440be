pub mod Faults
pub mod Joins
pub mod Linearizable
pub mod Carries
pub mod Views
pub mod Closes
pub mod Opens
