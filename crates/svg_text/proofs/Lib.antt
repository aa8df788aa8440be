mod Chains
mod Escapes
mod ShapeLemmas
