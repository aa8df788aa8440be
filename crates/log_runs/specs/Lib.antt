pub mod EventView
pub mod Explainable
pub mod Headers
pub mod Histories
pub mod LogView
pub mod Runs
pub mod Tasks
