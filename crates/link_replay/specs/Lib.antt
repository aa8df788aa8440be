pub mod CargoView
pub mod Refusals
pub mod Runs
pub mod SenderView
pub mod ReceiverView
pub mod ReceiverRuns
