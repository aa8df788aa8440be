pub mod Beginning
pub mod Rows
pub mod Dealing
pub mod Starting
pub mod Returning
