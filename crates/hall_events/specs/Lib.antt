pub mod Holds
pub mod Desks
pub mod Refusals
pub mod Acts
pub mod Ends
pub mod Works
pub mod Ways
