use Rattle.std.proofs.Common.{◌⊎◌, inl, inr}
use Rattle.search_rules.specs.Rules.{NeverBrings, Yields}
use Rattle.search_words.specs.Words.{IsNear}
use Rattle.search_words.proofs.NearLemmas.{brings_or, yields_or, by_name}
use Rattle.search_words.proofs.near.near_needed.Goals as goal

pub returns-in-Some-clause-brings : goal.returns-in-Some-clause-brings
returns-in-Some-clause-brings c = λ b from to names.
    elim (brings_or c.args.log.now c.args.words.now c.requires.words c.what_takes_a_reply_away_yields.ensures.brings c.what_takes_a_reply_away_yields.ensures.order b c.args.q c.args.stretch.word c.in-Some.value c.in-Some.ensures.needs names c.requires.word) as (λ z. IsNear c.near_by_left.result b ⊎ NeverBrings c.args.log.now b c.args.q) [
      | inl near ↦ inl (c.near_by_left.ensures b from to near)
      | inr spares ↦ inr spares
    ]

pub returns-in-Some-clause-yields : goal.returns-in-Some-clause-yields
returns-in-Some-clause-yields c = λ b from to names.
    elim (yields_or c.args.log.now c.args.words.now c.requires.words c.what_takes_a_reply_away_yields.ensures.brings c.what_takes_a_reply_away_yields.ensures.order b c.args.q c.args.stretch.word c.in-Some.value c.in-Some.ensures.needs names c.requires.word) as (λ z. IsNear c.near_by_left.result b ⊎ Yields c.args.log.now b c.args.q) [
      | inl near ↦ inl (c.near_by_left.ensures b from to near)
      | inr spares ↦ inr spares
    ]

pub returns-in-None-clause-brings : goal.returns-in-None-clause-brings
returns-in-None-clause-brings c = λ b from to names. inl (c.near_by_name.ensures b from to (by_name c.args.log.now c.args.words.now c.requires.words b c.args.stretch.word names c.requires.word))

pub returns-in-None-clause-yields : goal.returns-in-None-clause-yields
returns-in-None-clause-yields c = λ b from to names. inl (c.near_by_name.ensures b from to (by_name c.args.log.now c.args.words.now c.requires.words b c.args.stretch.word names c.requires.word))
