pub mod Blocks
pub mod EndpointView
pub mod Runs
pub mod Steps
pub mod Classes
pub mod DescriptorView
