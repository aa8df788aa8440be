pub mod Pending
pub mod PlaceView
pub mod Places
pub mod Ready
pub mod Undo
pub mod Known
