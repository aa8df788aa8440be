pub mod Accounts
pub mod Replays
pub mod Wires
