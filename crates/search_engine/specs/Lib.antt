pub mod Bounded
pub mod Search
pub mod Flaws
pub mod Findings
pub mod Drawn
pub mod Kept
