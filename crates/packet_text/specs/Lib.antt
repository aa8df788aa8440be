pub mod Packets
pub mod Texts
pub mod Forms
pub mod Lines
pub mod Faults
