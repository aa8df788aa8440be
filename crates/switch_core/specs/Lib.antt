pub mod Faults
pub mod Forwarding
pub mod RouteFaults
pub mod Routing
