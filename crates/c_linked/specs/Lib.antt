pub mod SessionView
pub mod Traces
pub mod Making
pub mod Calls
pub use Rattle.c_buffer.specs.Buffer
pub use Rattle.endpoint_log.specs.Recordings
pub use Rattle.linked_endpoint.specs.Runs
