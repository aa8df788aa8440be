-- Requests that are left, at the words of a request.
use Rattle.std.proofs.Common.{◌≡◌, ◌∙◌, ◌⊎◌, inl, inr, ℕ, ◌+◌, ◌*◌, ◌<◌, ◌≤◌, true, false, List, Some, None, Option, length, refl, sym, ap, subst, arith}
use Rattle.std.specs.Prelude.{slice_get}
use Rattle.std.proofs.lemmas.Bool.{cases_lt}
use Rattle.std.proofs.lemmas.Option.{slice_get_within}
use Rattle.tlp_core.specs.Ops.{Op}
use Rattle.tlp_core.specs.Operation.{address_of, count_of}
use Rattle.seq_memory.specs.Entries.{Reply}
use Rattle.search_effects.specs.Effects.{AreApart}
use Rattle.log_runs.specs.EventView.{EventView}
use Rattle.log_runs.specs.EventView as events
use Rattle.log_runs.specs.LogView.{LogView}
use Rattle.search_places.specs.Pending.{has, submits}
use Rattle.search_places.specs.PlaceView.{PlaceView}
use Rattle.search_places.specs.Places.{IsPlace}
use Rattle.search_rules.specs.Junk.{word}
use Rattle.search_rules.specs.Rules.{Names}
use Rattle.search_words.specs.Words.{NamesWord}
use Rattle.search_others.specs.declared.junk.Junk.{Junk}
use Rattle.search_others.specs.declared.junk.Junk.TheVariants as junk
use Rattle.search_others.specs.Nothing.{IsNothing, Ignores}
use Rattle.search_others.proofs.ApartLemmas.{one_sub}

-- the request has no byte of the word
abbrev IsBeside : LogView → ℕ → ℕ → Type 0
IsBeside log b w = (i : ℕ) (one : Op) (told : Option Reply) → slice_get log.events b ≡ Some (events.Sub i one told) → AreApart one (word log.extent w)

beside_or_named : (log : LogView) (b w : ℕ) → IsBeside log b w ⊎ NamesWord log b w
beside_or_named log b w = at (slice_get log.events b) refl
  where
    beside : (i : ℕ) (op : Op) (told : Option Reply) → slice_get log.events b ≡ Some (events.Sub i op told) → AreApart op (word log.extent w) → IsBeside log b w
    beside i op told is apart j one asked there = subst (λ z. AreApart z (word log.extent w)) (one_sub (slice_get log.events b) i j op one told asked is there) apart

    at : (o : Option EventView) → slice_get log.events b ≡ o → IsBeside log b w ⊎ NamesWord log b w
    at (Some (events.Sub i op told)) is = elim (cases_lt (log.extent.base + 4 * w) (address_of op + count_of op)) [
      | inr before ↦ inl (beside i op told is (inl before))
      | inl reaches ↦ elim (cases_lt (address_of op) (log.extent.base + 4 * w + 4)) [
        | inr past ↦ inl (beside i op told is (inr (omega (arith, past))))
        | inl begins ↦ inr (i, op, told, is, inl (reaches, begins))
      ]
    ]
    at (Some (events.Due c)) is = inl (λ i op told there. let e : Some (events.Due c) ≡ Some (events.Sub i op told) = sym is ∙ there in cc)
    at (Some events.Free) is = inl (λ i op told there. let e : Some events.Free ≡ Some (events.Sub i op told) = sym is ∙ there in cc)
    at None is = inl (λ i op told there. let e : None ≡ Some (events.Sub i op told) = sym is ∙ there in cc)

nothing_beside : (log : LogView) (m : List ℕ) (k : Junk) (b w : ℕ) → IsBeside log b w → IsNothing log m k w b
nothing_beside log m (junk.Standing x) b w beside = λ distinct out i one told at. inl (beside i one told at)
nothing_beside log m (junk.LeftBy g) b w beside = λ i l one third told had at behind. inl (beside i one told at)

-- what those do at a word that name bytes of it, all do that are left
pub all_at_words : (log : LogView) (p : PlaceView) (k : Junk) (q first end from : ℕ)
    → ((b : ℕ) → IsPlace log p → b < p.state.event → submits (slice_get log.events b) ≡ true → slice_get p.state.acted b ≡ Some false → has p.pending b ≡ true)
    → IsPlace log p → ((b : ℕ) → has p.pending b ≡ true → from ≤ b) → from ≤ p.state.event
    → ((w : ℕ) → Names log q w → (first ≤ w) × (w < end))
    → ((w : ℕ) → first ≤ w → w < end → (b : ℕ) → from ≤ b → b < length log.events → NamesWord log b w → Ignores log p.state k w b)
    → (w : ℕ) → Names log q w → (b : ℕ) → Ignores log p.state k w b
all_at_words log p k q first end from who place least start own words w names b left = elim (beside_or_named log b w) [
  | inl beside ↦ nothing_beside log p.state.bytes k b w beside
  | inr named ↦
      let (low, high) = own w names in
      words w low high b (elim (cases_lt b p.state.event) as (λ z. from ≤ b) [
        | inr late ↦ omega (arith, start, late)
        | inl passed ↦
            let (i, op, told, at, touches) = named in
            least b (who b place passed (ap submits at) left)
      ]) (omega (arith, slice_get_within p.state.acted b false left, place.table.len)) named left
]
