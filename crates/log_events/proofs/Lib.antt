pub mod CountLemmas
pub mod EventLemmas
pub mod Heading
pub mod JoinLemmas
pub mod Filling
