mod TellLemmas
mod LineLemmas
