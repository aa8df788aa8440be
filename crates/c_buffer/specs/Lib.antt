pub mod Buffer
pub mod Slot
