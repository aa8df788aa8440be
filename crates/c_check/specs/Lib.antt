pub mod Verdict
pub mod SearchVerdict
