use Rattle.std.proofs.Common.{◌⊎◌, inl, inr, sym, subst}
use Rattle.search_words.specs.Words.{IsNear}
use Rattle.search_others.specs.declared.others.Asked.{Asked}
use Rattle.search_others.specs.Spared.{Spares}
use Rattle.search_others.proofs.others.near_of.Goals as goal

pub returns-in-Lost : goal.returns-in-Lost
returns-in-Lost c = λ b from to names.
    elim (c.near_needed.ensures.brings b from to names) as (λ z. IsNear c.near_needed.result b ⊎ Spares c.args.log.now c.args.bytes.now c.args.question.of c.args.question.asked b) [
      | inl near ↦ inl near
      | inr spares ↦ inr (subst (λ (k : Asked). Spares c.args.log.now c.args.bytes.now c.args.question.of k b) (sym c.in-Lost.is) spares)
    ]

pub returns-in-Last : goal.returns-in-Last
returns-in-Last c = λ b from to names.
    elim (c.near_needed-in-Last.ensures.brings b from to names) as (λ z. IsNear c.near_needed-in-Last.result b ⊎ Spares c.args.log.now c.args.bytes.now c.args.question.of c.args.question.asked b) [
      | inl near ↦ inl near
      | inr brings ↦ elim (c.near_needed-in-Last.ensures.yields b from to names) as (λ z. IsNear c.near_needed-in-Last.result b ⊎ Spares c.args.log.now c.args.bytes.now c.args.question.of c.args.question.asked b) [
        | inl near ↦ inl near
        | inr yields ↦ inr (subst (λ (k : Asked). Spares c.args.log.now c.args.bytes.now c.args.question.of k b) (sym c.in-Last.is) (brings, yields))
      ]
    ]

pub returns-in-First : goal.returns-in-First
returns-in-First c = λ b from to names.
    elim (c.near_there.ensures.first b from to names) as (λ z. IsNear c.near_there.result b ⊎ Spares c.args.log.now c.args.bytes.now c.args.question.of c.args.question.asked b) [
      | inl near ↦ inl near
      | inr spares ↦ inr (subst (λ (k : Asked). Spares c.args.log.now c.args.bytes.now c.args.question.of k b) (sym c.in-First.is) spares)
    ]

pub returns-in-Byte : goal.returns-in-Byte
returns-in-Byte c = λ b from to names. inl (c.near_named.ensures b from to names)
