-- Requests that have no byte in common, and requests beside a byte.
use Rattle.std.proofs.Common.{◌≡◌, ◌∙◌, ◌⊎◌, inl, inr, ℕ, ◌+◌, ◌/◌, List, Some, None, Option, refl, sym, subst, arith}
use Rattle.std.specs.Prelude.{slice_get}
use Rattle.std.proofs.lemmas.Bool.{cases_lt}
use Rattle.tlp_core.specs.Ops.{Op}
use Rattle.tlp_core.specs.Operation.{address_of, count_of}
use Rattle.seq_memory.specs.Entries.{Reply}
use Rattle.seq_memory.specs.Step.{after, answer}
use Rattle.search_effects.specs.Effects.{AreApart}
use Rattle.log_runs.specs.EventView.{EventView}
use Rattle.log_runs.specs.EventView as events
use Rattle.log_runs.specs.LogView.{LogView}
use Rattle.log_runs.specs.Runs.{reply_of, bytes_after, acted_on}
use Rattle.search_rules.specs.Rules.{Suits, Ends, NeverBrings, Yields, AreApartThere, IsOutside}
use Rattle.search_words.specs.Words.{NamesWord}
use Rattle.search_rules.specs.declared.missing.Need.{Need}
use Rattle.search_others.specs.declared.others.Asked.{Asked}
use Rattle.search_others.specs.declared.others.Asked.TheVariants as asked
use Rattle.search_others.specs.Spared.{Spares}

-- ---- without a common byte

module _ (answers : (base block : ℕ) (m : List ℕ) (one other : Op) → AreApart one other → answer base block (after base block m one) other ≡ answer base block m other)
    (commute : (base block : ℕ) (m : List ℕ) (one other : Op) → AreApart one other → after base block (after base block m one) other ≡ after base block (after base block m other) one)
    (log : LogView) (b q : ℕ) (apart : AreApartThere log b q) where
  keeps : (m : List ℕ) (o p : Option EventView) → slice_get log.events b ≡ o → slice_get log.events q ≡ p → Suits log.extent (acted_on log.extent m o) p → Suits log.extent m p
  unfolding reply_of bytes_after acted_on
  keeps m (Some (events.Sub i one told)) (Some (events.Sub j other asked)) at there suits =
      λ r e. sym (answers log.extent.base log.extent.block m one other (apart i j one other told asked at there)) ∙ suits r e
  keeps m (Some (events.Sub i one told)) (Some (events.Due c)) at there suits = suits
  keeps m (Some (events.Sub i one told)) (Some events.Free) at there suits = suits
  keeps m (Some (events.Sub i one told)) None at there suits = suits
  keeps m (Some (events.Due c)) p at there suits = suits
  keeps m (Some events.Free) p at there suits = suits
  keeps m None p at there suits = suits

  pub apart_brings : NeverBrings log b q
  apart_brings m here suits = keeps m (slice_get log.events b) (slice_get log.events q) refl refl suits

  ends : (m : List ℕ) (o p : Option EventView) → slice_get log.events b ≡ o → slice_get log.events q ≡ p → Suits log.extent m o → Suits log.extent m p
      → Ends log.extent m (acted_on log.extent m o) o p
  unfolding reply_of bytes_after acted_on
  ends m (Some (events.Sub i one told)) (Some (events.Sub j other asked)) at there here too =
      let one_other : AreApart one other = apart i j one other told asked at there in
      let other_one : AreApart other one = elim one_other [
        | inl before ↦ inr before
        | inr behind ↦ inl behind
      ] in
      inr (
        λ r e. answers log.extent.base log.extent.block m one other one_other ∙ too r e,
        λ r e. answers log.extent.base log.extent.block m other one other_one ∙ here r e,
        commute log.extent.base log.extent.block m one other one_other,
      )
  ends m (Some (events.Sub i one told)) (Some (events.Due c)) at there here too = inr (too, here, refl)
  ends m (Some (events.Sub i one told)) (Some events.Free) at there here too = inr (too, here, refl)
  ends m (Some (events.Sub i one told)) None at there here too = inr (too, here, refl)
  ends m (Some (events.Due c)) p at there here too = inr (too, here, refl)
  ends m (Some events.Free) p at there here too = inr (too, here, refl)
  ends m None p at there here too = inr (too, here, refl)

  pub apart_yields : Yields log b q
  apart_yields m here too = ends m (slice_get log.events b) (slice_get log.events q) refl refl here too

  pub apart_spares : (m : List ℕ) (what : Asked) → ((need : Need) → what ≡ asked.Byte need → ⊥) → Spares log m q what b
  apart_spares m asked.Lost whole = apart_brings
  apart_spares m asked.Last whole = (apart_brings, apart_yields)
  apart_spares m asked.First whole = inl apart
  apart_spares m (asked.Byte need) whole = absurd (whole need refl)

-- ---- beside a byte

pub one_sub : (o : Option EventView) (i j : ℕ) (op w : Op) (told asked_of : Option Reply) → o ≡ Some (events.Sub i op told) → o ≡ Some (events.Sub j w asked_of) → op ≡ w
one_sub o i j op w told asked_of at there = let e : Some (events.Sub i op told) ≡ Some (events.Sub j w asked_of) = sym at ∙ there in cc

-- a request has none of the byte, or names its word
pub beside_or_named : (log : LogView) (b k w : ℕ) → w ≡ k / 4
    → ((i : ℕ) (op : Op) (told : Option Reply) → slice_get log.events b ≡ Some (events.Sub i op told) → IsOutside log.extent op k) ⊎ NamesWord log b w
beside_or_named log b k w word = at (slice_get log.events b) refl
  where
    outside : (i : ℕ) (op : Op) (told : Option Reply) → slice_get log.events b ≡ Some (events.Sub i op told) → IsOutside log.extent op k
        → (j : ℕ) (one : Op) (asked_of : Option Reply) → slice_get log.events b ≡ Some (events.Sub j one asked_of) → IsOutside log.extent one k
    outside i op told is out j one asked_of there = subst (λ z. IsOutside log.extent z k) (one_sub (slice_get log.events b) i j op one told asked_of is there) out

    at : (o : Option EventView) → slice_get log.events b ≡ o
        → ((i : ℕ) (op : Op) (told : Option Reply) → slice_get log.events b ≡ Some (events.Sub i op told) → IsOutside log.extent op k) ⊎ NamesWord log b w
    at (Some (events.Sub i op told)) is = elim (cases_lt (log.extent.base + k) (address_of op)) [
      | inl before ↦ inl (outside i op told is (inl before))
      | inr from ↦ elim (cases_lt (log.extent.base + k) (address_of op + count_of op)) [
        | inr past ↦ inl (outside i op told is (inr past))
        | inl within ↦ inr (i, op, told, is, inl (omega (arith, word, within), omega (arith, word, from)))
      ]
    ]
    at (Some (events.Due c)) is = inl (λ i op told there. let e : Some (events.Due c) ≡ Some (events.Sub i op told) = sym is ∙ there in cc)
    at (Some events.Free) is = inl (λ i op told there. let e : Some events.Free ≡ Some (events.Sub i op told) = sym is ∙ there in cc)
    at None is = inl (λ i op told there. let e : None ≡ Some (events.Sub i op told) = sym is ∙ there in cc)
