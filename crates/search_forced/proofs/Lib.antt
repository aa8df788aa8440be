pub mod Lists
pub mod RuleLemmas
pub mod GroupLemmas
