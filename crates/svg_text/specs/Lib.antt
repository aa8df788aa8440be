pub mod Xml
pub mod Shapes
