pub mod Window
pub mod PartRuns
pub mod Tables
pub mod MarkLemmas
