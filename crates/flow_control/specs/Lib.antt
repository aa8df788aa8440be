pub mod Account
pub mod Credits
pub mod Limits
pub mod Needs
pub mod Arrivals
pub mod Ordering
pub mod Queue
