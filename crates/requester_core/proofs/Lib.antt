pub mod Requests
pub mod Tags
pub mod Numbers
