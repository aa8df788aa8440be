pub mod Look
pub mod Legend
pub mod Shapes
