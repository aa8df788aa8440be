pub mod Names
pub mod Forms
pub mod Grammar
pub mod Step
pub mod RecordReaderView
pub mod Endings
pub mod ReadingFacts
