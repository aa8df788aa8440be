pub mod Answers
pub mod Request
pub mod RequesterView
pub mod Faults
pub mod Runs
pub use Rattle.tlp_core.specs.TlpView
pub use Rattle.tlp_core.specs.Operation
