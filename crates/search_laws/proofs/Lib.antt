mod Spelled
mod Pieces
mod Told
mod Found
