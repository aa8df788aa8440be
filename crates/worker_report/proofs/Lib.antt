pub mod Ends
pub mod Reordered
pub mod Seats
pub mod Explained
