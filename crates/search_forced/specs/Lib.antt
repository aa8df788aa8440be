pub mod Catalogs
pub mod Scenes
pub mod Groups
