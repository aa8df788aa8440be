pub mod Sizes
pub mod Layout
pub mod Words
pub mod Titles
pub mod PageView
