mod AnswerLemmas
mod FirstLemmas
mod SceneLemmas
