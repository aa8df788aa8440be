mod Reading
mod Sweeping
