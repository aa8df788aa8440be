pub mod Bits
pub mod Kept
pub mod Table
pub mod Writes
pub mod Canon
pub mod Reading
