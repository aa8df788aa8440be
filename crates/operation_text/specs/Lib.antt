pub mod Words
pub mod Numbers
pub mod Operations
pub mod Texts
