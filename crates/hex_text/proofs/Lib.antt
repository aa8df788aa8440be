pub mod HexLemmas
pub mod TextLemmas
