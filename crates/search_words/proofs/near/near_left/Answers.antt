use Rattle.std.proofs.Common.{◌⊎◌, inl, inr}
use Rattle.search_rules.specs.Rules.{LeavesJunkAt}
use Rattle.search_words.specs.Words.{IsNear}
use Rattle.search_words.proofs.NearLemmas.{left_or, by_name}
use Rattle.search_words.proofs.near.near_left.Goals as goal

pub returns-in-Some : goal.returns-in-Some
returns-in-Some c = λ b from to names.
    elim (left_or c.args.log.now c.args.words.now c.requires.words b c.args.g c.args.stretch.word c.in-Some.value c.in-Some.ensures.leaves names c.requires.word) as (λ z. IsNear c.near_by_need.result b ⊎ LeavesJunkAt c.args.log.now b c.args.g c.args.stretch.word) [
      | inl need ↦ inl (c.near_by_need.ensures.need b from to need)
      | inr junk ↦ inr junk
    ]

pub returns-in-None : goal.returns-in-None
returns-in-None c = λ b from to names. inl (c.near_by_name.ensures b from to (by_name c.args.log.now c.args.words.now c.requires.words b c.args.stretch.word names c.requires.word))
