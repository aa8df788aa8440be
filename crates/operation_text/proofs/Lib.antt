mod WordLemmas
mod DigitLemmas
mod OnePassLemmas
mod FewBytesLemmas
mod ReadBackLemmas
mod OpLemmas
