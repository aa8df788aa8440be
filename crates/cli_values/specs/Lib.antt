pub mod Endpoints
pub mod Granularities
pub mod Lanes
pub mod Links
pub mod Seeds
