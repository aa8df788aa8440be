mod KnownLemmas
mod KeepingLemmas
mod KeptLemmas
mod MemoryLemmas
mod NoneLemmas
mod SizeLemmas
mod LookLemmas
mod AnsweredLemmas
mod CoreLemmas
mod FlawLemmas
pub mod TellableLemmas
