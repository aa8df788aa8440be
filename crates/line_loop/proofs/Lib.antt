pub mod KnownLemmas
pub mod LineLemmas
