mod Forms
mod Kept
mod Calls
