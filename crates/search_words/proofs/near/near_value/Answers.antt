use Rattle.std.proofs.Common.{◌⊎◌, ℕ, inl, inr, sym, subst}
use Rattle.search_words.specs.Words.{MayNeed, IsNear, IsOutAt}
use Rattle.search_words.proofs.NearLemmas.{out_or}
use Rattle.search_words.proofs.near.near_value.Goals as goal

pub returns : goal.returns
returns c = λ b from to names.
    elim (out_or c.args.log.now c.args.words.now c.requires.words b c.args.stretch.word c.args.value names c.requires.word) as (λ z. IsNear c.near_by_need.result b ⊎ IsOutAt c.args.log.now b c.args.stretch.word c.args.value) [
      | inl (inl need) ↦ inl (c.near_by_need.ensures.need b from to (subst (λ (v : ℕ). MayNeed c.args.words.now c.args.stretch.word v b) (sym c.from.ensures) need))
      | inl (inr listed) ↦ inl (c.near_by_need.ensures.careless b (c.careless_at-careless.ensures b from to listed))
      | inr out ↦ inr out
    ]
