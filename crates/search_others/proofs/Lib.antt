pub mod OthersOf
pub mod ApartLemmas
pub mod Suiting
pub mod NothingLemmas
pub mod DueLemmas
pub mod PassLemmas
