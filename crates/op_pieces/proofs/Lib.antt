pub mod Effects
pub mod CutLemmas
pub mod PieceLemmas
pub mod Runs
pub mod Blocks
