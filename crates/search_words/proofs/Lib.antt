pub mod EventLemmas
pub mod ListLemmas
pub mod NearLemmas
pub mod WordLemmas
pub mod RoleLemmas
pub mod Running
pub mod TallyLemmas
