pub mod SessionView
pub mod Calls
pub mod Texts
pub use Rattle.c_buffer.specs.Buffer
pub use Rattle.endpoint_core.specs.Steps
