pub mod Clocks
pub mod Endings
pub mod Found
pub mod Dead
pub mod Swapped
