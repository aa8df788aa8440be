pub mod KeptLemmas
pub mod RunLemmas
