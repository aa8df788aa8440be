use Rattle.std.proofs.Common.{◌⊎◌, inl, inr, sym, subst}
use Rattle.search_words.specs.Words.{IsNear}
use Rattle.search_others.specs.declared.junk.Junk.{Junk}
use Rattle.search_others.specs.Nothing.{IsNothing}
use Rattle.search_others.proofs.junk.near_of.Goals as goal

pub returns-in-Standing : goal.returns-in-Standing
returns-in-Standing c = λ b from to names.
    elim (c.near_junk.ensures b from to names) as (λ z. IsNear c.near_junk.result b ⊎ IsNothing c.args.log.now c.args.bytes.now c.args.junk c.args.stretch.word b) [
      | inl near ↦ inl near
      | inr nothing ↦ inr (subst (λ (k : Junk). IsNothing c.args.log.now c.args.bytes.now k c.args.stretch.word b) (sym c.in-Standing.is) (λ distinct out. nothing))
    ]

pub returns-in-LeftBy : goal.returns-in-LeftBy
returns-in-LeftBy c = λ b from to names.
    elim (c.near_left.ensures b from to names) as (λ z. IsNear c.near_left.result b ⊎ IsNothing c.args.log.now c.args.bytes.now c.args.junk c.args.stretch.word b) [
      | inl near ↦ inl near
      | inr nothing ↦ inr (subst (λ (k : Junk). IsNothing c.args.log.now c.args.bytes.now k c.args.stretch.word b) (sym c.in-LeftBy.is) nothing)
    ]
