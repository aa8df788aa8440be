pub mod Forms
pub mod TraceReaderView
pub mod Texts
pub mod TraceRewriterView
pub mod Rewritten
pub mod Tellable
