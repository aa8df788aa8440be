-- All others that could act before a request.
use Rattle.std.proofs.Common.{◌≡◌, ◌∙◌, ◌⊎◌, inl, inr, ℕ, ◌+◌, ◌<◌, ◌≤◌, true, false, List, Some, length, get_or, sym, ap, subst, arith}
use Rattle.std.specs.Prelude.{slice_get}
use Rattle.std.proofs.lemmas.Bool.{cases_eq, cases_lt}
use Rattle.std.proofs.lemmas.Option.{slice_get_within, get_or_from_slice_get}
use Rattle.log_runs.specs.LogView.{LogView}
use Rattle.search_words.specs.Lists.{InList}
use Rattle.search_words.specs.Words.{NamesWord}
use Rattle.search_places.specs.Pending.{has, submits}
use Rattle.search_places.specs.PlaceView.{PlaceView}
use Rattle.search_places.specs.Places.{IsPlace}
use Rattle.search_others.specs.declared.others.Question.{Question}
use Rattle.search_others.specs.Spared.{Spares, Holds}

-- the numbers of a list, one after the other
pub list_next : (P : ℕ → Type 0) (xs : List ℕ) (n : ℕ) → P (get_or xs n 0) → ((b i : ℕ) → i < n → slice_get xs i ≡ Some b → P b) → (b i : ℕ) → i < n + 1 → slice_get xs i ≡ Some b → P b
list_next P xs n here before b i l at = elim (cases_eq n i) [
  | inl same ↦ subst P (ap (λ k. get_or xs k 0) same ∙ get_or_from_slice_get xs i b 0 at) here
  | inr distinct ↦ before b i (omega (arith, l, distinct)) at
]

pub list_end : (P : ℕ → Type 0) (xs : List ℕ) (n : ℕ) → length xs ≤ n → ((b i : ℕ) → i < n → slice_get xs i ≡ Some b → P b) → (b : ℕ) → InList xs b → P b
list_end P xs n l all b (i, at) = all b i (omega (arith, slice_get_within xs i b at, l)) at

-- the words, one after the other
pub word_next : (P : ℕ → Type 0) (first word : ℕ) → ((w : ℕ) → first ≤ w → w < word → P w) → P word → (w : ℕ) → first ≤ w → w < word + 1 → P w
word_next P first word before now w low high = elim (cases_eq w word) [
  | inl same ↦ subst P (sym same) now
  | inr other ↦ before w low (omega (arith, high, other))
]

-- what holds by each word holds of all
pub by_words : (log : LogView) (p : PlaceView) (k : Question) (first end from : ℕ)
    → ((b : ℕ) → IsPlace log p → b < p.state.event → submits (slice_get log.events b) ≡ true → slice_get p.state.acted b ≡ Some false → has p.pending b ≡ true)
    → IsPlace log p → ((b : ℕ) → has p.pending b ≡ true → from ≤ b) → from ≤ p.state.event
    → ((b : ℕ) → ((m : List ℕ) → Spares log m k.of k.asked b) ⊎ ((w : ℕ) × (first ≤ w) × (w < end) × NamesWord log b w))
    → ((w : ℕ) → first ≤ w → w < end → (b : ℕ) → from ≤ b → b < k.before → NamesWord log b w → Holds log p.state k b)
    → (b : ℕ) → b < k.before → Holds log p.state k b
by_words log p k first end from who place least start all words b early distinct left = elim (all b) [
  | inl spares ↦ spares p.state.bytes
  | inr (w, low, high, named) ↦ words w low high b (elim (cases_lt b p.state.event) as (λ z. from ≤ b) [
    | inr late ↦ omega (arith, start, late)
    | inl passed ↦
        let (i, op, told, at, touches) = named in
        least b (who b place passed (ap submits at) left)
  ]) early named distinct left
]
