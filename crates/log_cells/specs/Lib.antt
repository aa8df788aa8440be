pub mod Places
pub mod Parts
pub mod CellsView
pub mod Cells
pub mod Marks
