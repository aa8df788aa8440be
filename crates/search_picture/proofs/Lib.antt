mod Steps
mod Drawings
