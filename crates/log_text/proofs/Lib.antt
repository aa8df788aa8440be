pub mod FaultLemmas
pub mod SeenLemmas
pub mod ToldLemmas
pub mod Replies
pub mod Spelled
pub mod Tellings
