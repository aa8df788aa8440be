use Rattle.std.proofs.Common.{◌⊎◌, ◌/◌, ◌+◌, ◌≤◌, ◌<◌, ℕ, List, inl, inr, refl, sym, subst, arith}
use Rattle.search_words.specs.Words.{NamesWord}
use Rattle.search_others.specs.declared.others.Asked.{Asked}
use Rattle.search_others.specs.Spared.{Spares}
use Rattle.search_others.proofs.ApartLemmas.{apart_spares, beside_or_named}
use Rattle.search_others.proofs.others.words_of.Goals as goal

pub returns-else-word-size-clause-all : goal.returns-else-word-size-clause-all
returns-else-word-size-clause-all c = λ b.
    let log = c.args.log.now in
    let q = c.args.question.of in
    let need = c.in-Byte.need in
    elim (beside_or_named log b need.place (need.place / 4) refl)
    as (λ z. ((m : List ℕ) → Spares log m q c.args.question.asked b) ⊎ ((w : ℕ) × (need.place / 4 ≤ w) × (w < need.place / 4 + 1) × NamesWord log b w)) [
      | inl outside ↦ inl (λ m. subst (λ (k : Asked). Spares log m q k b) (sym c.in-Byte.is) (c.nothing_is_put_outside.ensures log b need.place need.value outside))
      | inr named ↦ inr (need.place / 4, omega arith, omega arith, named)
    ]

pub returns-in_ok-words-in_default : goal.returns-in_ok-words-in_default
returns-in_ok-words-in_default c = record {
  inside = c.in_ok-words-in_default.ensures.inside;
  all = λ b. elim (c.in_ok-words-in_default.ensures.all b) [
    | inl apart ↦ inl (λ m. apart_spares c.apart_requests_commute.ensures.answer c.apart_requests_commute.ensures.after c.args.log.now b c.args.question.of apart m c.args.question.asked c.in_default.not-Byte)
    | inr named ↦ inr named
  ];
}
