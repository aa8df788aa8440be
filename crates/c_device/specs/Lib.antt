pub mod Calls
pub mod Slot
pub mod Call
