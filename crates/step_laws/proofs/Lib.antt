mod Spelled
mod Requests
mod Load
mod Made
mod Requesters
mod Lines
mod Kept
mod Through
