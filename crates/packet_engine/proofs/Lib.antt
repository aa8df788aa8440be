pub mod RunLemmas
pub mod RequestLemmas
pub mod Simulation
pub mod TextLemmas
