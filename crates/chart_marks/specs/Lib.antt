pub mod Look
pub mod Marks
