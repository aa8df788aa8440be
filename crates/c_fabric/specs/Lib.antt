pub mod SessionView
pub mod Calls
pub mod Scripts
pub use Rattle.c_buffer.specs.Buffer
