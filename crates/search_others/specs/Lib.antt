pub mod OthersView
pub mod Known
pub mod Spared
pub mod Nothing
pub mod Passing
