pub mod Script
pub mod Arrivals
pub mod Candidates
pub mod Choice
