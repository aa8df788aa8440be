mod DigitLemmas
mod LineLemmas
