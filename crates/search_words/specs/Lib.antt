pub mod Lists
pub mod ListsView
pub mod Words
pub mod WordsView
pub mod Counts
