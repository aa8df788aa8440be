-- Requests that pass over what another leaves.
use Rattle.std.proofs.Common.{◌≡◌, ◌∙◌, ◌⊎◌, inl, inr, ℕ, ◌<◌, ◌≤◌, true, false, List, Some, None, Option, length, sym, ap, subst}
use Rattle.std.specs.Prelude.{slice_get}
use Rattle.std.proofs.lemmas.Option.{same_Some}
use Rattle.tlp_core.specs.Ops.{Op}
use Rattle.seq_memory.specs.Entries.{Reply}
use Rattle.seq_memory.specs.Limits.{Extent}
use Rattle.seq_memory.specs.Step.{after, answer}
use Rattle.search_effects.specs.Effects.{Agrees, AreSameAt}
use Rattle.log_runs.specs.declared.log.Event.{Event}
use Rattle.log_runs.specs.declared.log.Event.TheVariants as lent
use Rattle.log_runs.specs.EventView.{EventView, event_of}
use Rattle.log_runs.specs.EventView as events
use Rattle.log_runs.specs.LogView.{LogView}
use Rattle.log_runs.specs.Runs.{State, acted_on, bytes_after}
use Rattle.search_rules.specs.Junk.{IsJunk, LeavesJunk}
use Rattle.search_rules.specs.Idle.{IsUndue, IsIdle, PassesOver}
use Rattle.search_rules.specs.Rules.{AreApartThere}
use Rattle.search_words.specs.Lists.{InList}
use Rattle.search_words.specs.declared.near.Near.{Near}
use Rattle.search_words.specs.Words.{IsNear, NamesWord}
use Rattle.search_places.specs.Pending.{has, submits}
use Rattle.search_places.specs.PlaceView.{PlaceView}
use Rattle.search_places.specs.Places.{IsPlace}
use Rattle.search_others.specs.declared.idle.Idler.{Idler}
use Rattle.search_others.specs.Passing.{PassesBehind, Passes, IsIdler}
use Rattle.search_others.proofs.ApartLemmas.{one_sub}

-- what holds of each list holds of those that are near
pub near_all : (P : ℕ → Type 0) (near : Near) → ((b : ℕ) → InList near.wide.now b → P b) → ((b : ℕ) → InList near.unknown.now b → P b)
    → ((b : ℕ) → InList near.known.now b → P b) → ((b : ℕ) → InList near.careless.now b → P b) → (b : ℕ) → IsNear near b → P b
near_all P near wide unknown known careless b (inl at) = wide b at
near_all P near wide unknown known careless b (inr (inl at)) = unknown b at
near_all P near wide unknown known careless b (inr (inr (inl at))) = known b at
near_all P near wide unknown known careless b (inr (inr (inr at))) = careless b at

-- who has no byte of the request passes over it
pub pass_apart : (log : LogView) (s : State) (x : Idler) (q : ℕ) → IsIdler log x → AreApartThere log q x.b → Passes log s x q
pass_apart log s x q (j, asked, there) apart = λ distinct left. inl (λ i one told at. inl (apart i j one x.made.op.now told asked at there))

-- what holds by each word holds of all that were submitted
pub pass_by_words : (log : LogView) (p : PlaceView) (x : Idler) (first end from : ℕ)
    → ((b : ℕ) → IsPlace log p → b < p.state.event → submits (slice_get log.events b) ≡ true → slice_get p.state.acted b ≡ Some false → has p.pending b ≡ true)
    → IsPlace log p → ((b : ℕ) → has p.pending b ≡ true → from ≤ b) → IsIdler log x
    → ((b : ℕ) → AreApartThere log b x.b ⊎ ((w : ℕ) × (first ≤ w) × (w < end) × NamesWord log b w))
    → ((w : ℕ) → first ≤ w → w < end → (b : ℕ) → from ≤ b → b < p.state.event → NamesWord log b w → Passes log p.state x b)
    → (b : ℕ) → b < p.state.event → Passes log p.state x b
pass_by_words log p x first end from who place least own all words b early distinct left = elim (all b) [
  | inl apart ↦ pass_apart log p.state x b own apart distinct left
  | inr (w, low, high, named) ↦
      let (i, op, told, at, touches) = named in
      words w low high b (least b (who b place early (ap submits at) left)) early named distinct left
]

acts_by : (x : Extent) (m : List ℕ) (i : ℕ) (op : Op) (told : Option Reply) (o : Option EventView) → o ≡ Some (events.Sub i op told) → acted_on x m o ≡ after x.base x.block m op
unfolding acted_on bytes_after
acts_by x m i op told o e = ap (acted_on x m) e

pub sub_at : (es : List EventView) (b : ℕ) (r : Event) (i : ℕ) (op : Op) (told : Option Reply) → r ≡ lent.Sub i op told → Some (event_of r) ≡ slice_get es b
    → slice_get es b ≡ Some (events.Sub i op told)
sub_at es b r i op told is read = sym read ∙ ap (λ e. Some (event_of e)) is

pub answer_same : (x : Extent) (base block : ℕ) (m n : List ℕ) (op : Op) → base ≡ x.base → block ≡ x.block → m ≡ n → answer base block m op ≡ answer x.base x.block n op
answer_same x base block m n op ea eb em = ap (λ z. answer z block m op) ea ∙ ap (λ z. answer x.base z m op) eb ∙ ap (λ z. answer x.base x.block z op) em

-- ---- the request itself

module _ (log : LogView) (s : State) (b i : ℕ) (op : Op) (told : Option Reply) (made : Reply) (at : slice_get log.events b ≡ Some (events.Sub i op told)) (undue : IsUndue log s.event b)
    (size : length s.bytes ≡ log.extent.size) (answered : made ≡ answer log.extent.base log.extent.block s.bytes op) where
  same_op : op ≡ undue.op
  same_op = one_sub (slice_get log.events b) i undue.requester op undue.op told None at undue.submitted

  agrees : Agrees log.extent.base log.extent.block s.bytes op (Some made)
  agrees r e = sym answered ∙ same_Some made r e

  left_here : acted_on log.extent s.bytes (slice_get log.events b) ≡ after log.extent.base log.extent.block s.bytes op
  left_here = acts_by log.extent s.bytes i op told (slice_get log.events b) at

  pub idle_quiet : ((base : ℕ) (m : List ℕ) → Agrees base log.extent.block m op (Some made) → after base log.extent.block m op ≡ m) → IsIdle log s b
  idle_quiet quiet = record { undue = undue; size = size; others = inl (left_here ∙ quiet log.extent.base s.bytes agrees) }

  junk_here : (one : Op) (had : Option Reply) → LeavesJunk log.extent one had op op (Some made) → IsJunk log.extent (acted_on log.extent s.bytes (slice_get log.events b)) one had op
  junk_here one had (inl apart) = inl apart
  junk_here one had (inr (inl overlooks)) = inr (inl overlooks)
  junk_here one had (inr (inr misses)) = inr (inr (λ n same agreed. misses s.bytes n size agrees (subst (λ m. AreSameAt log.extent.base op m n) left_here same) agreed))

  over_here : (q : ℕ) → PassesBehind log s.event op made q → PassesOver log s.event (acted_on log.extent s.bytes (slice_get log.events b)) op q
  over_here q (inl junk) = inl (λ j one had there. junk_here one had (junk j one had there))
  over_here q (inr (u, rests)) = inr (u, λ n long same. rests s.bytes n size agrees (subst (λ m. AreSameAt log.extent.base op m n) left_here same))

  pub idle_passed : ((q : ℕ) → q < s.event → (b ≡ q → ⊥) → slice_get s.acted q ≡ Some false → PassesBehind log s.event op made q) → IsIdle log s b
  idle_passed all = record {
    undue = undue;
    size = size;
    others = inr (λ q early distinct left. subst (λ z. PassesOver log s.event (acted_on log.extent s.bytes (slice_get log.events b)) z q) same_op (over_here q (all q early distinct left)));
  }
