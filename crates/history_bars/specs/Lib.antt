pub mod Layout
pub mod Words
pub mod Marks
pub mod Said
pub mod Signs
pub mod Bars
pub mod Apart
