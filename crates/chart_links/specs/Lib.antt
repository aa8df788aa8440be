pub mod Window
pub mod CourseView
pub mod Lanes
pub mod News
pub mod ChartView
pub mod Levels
