pub mod Lists
pub mod TrailLemmas
pub mod StackLemmas
pub mod FrameLemmas
