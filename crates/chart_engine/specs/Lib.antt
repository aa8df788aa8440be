pub mod ChartWitnessView
pub mod Chart
pub mod Events
