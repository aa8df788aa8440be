pub mod Forms
pub mod LogReaderView
pub mod Told
pub mod ToldSubmissions
