pub mod WithFault
pub mod Free
