pub mod Failures
pub mod Calls
pub use Rattle.c_buffer.specs.Buffer
pub use Rattle.monitor_ports.specs.Monitoring
