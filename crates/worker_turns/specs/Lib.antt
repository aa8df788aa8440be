pub mod TurnsView
