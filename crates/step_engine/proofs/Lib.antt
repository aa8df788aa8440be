pub mod Traced
pub mod ToldLines
