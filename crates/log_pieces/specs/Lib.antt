pub mod Pieces
pub mod InPieces
pub mod RowView
