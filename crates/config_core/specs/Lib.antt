pub mod Changes
pub mod Registers
pub mod RegistersView
pub mod SetupView
pub mod Canonical
pub mod Fault
pub mod Layout
