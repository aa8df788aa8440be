pub mod Prefixes
pub mod Answers
pub mod Contradictions
pub mod Expected
pub mod Runs
pub mod Prepared
pub mod Looks
