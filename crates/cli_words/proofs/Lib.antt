pub mod GrammarLemmas
pub mod RefusalsAskNothing
pub mod RequestsAsked
pub mod SeedLemmas
