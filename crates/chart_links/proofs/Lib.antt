mod Lines
mod Rows
