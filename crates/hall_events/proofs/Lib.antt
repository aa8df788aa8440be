pub mod Mapped
pub mod Holding
pub mod Refused
pub mod Linking
pub mod Forwarding
