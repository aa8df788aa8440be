pub mod Span
pub mod Completion
pub mod Serving
pub use Rattle.tlp_core.specs.TlpView
pub use Rattle.tlp_core.specs.Operation
pub use Rattle.seq_memory.specs.Step
pub use Rattle.seq_memory.specs.History
