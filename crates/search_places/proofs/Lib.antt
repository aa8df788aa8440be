pub mod Lists
pub mod Rising
pub mod Tables
pub mod UndoLemmas
pub mod Knowing
pub mod Readiness
