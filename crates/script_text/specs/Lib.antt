pub mod Forms
pub mod Names
pub mod Texts
pub mod LineTexts
pub mod Spelled
