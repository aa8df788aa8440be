-- A byte that a request needs or leaves.
use Rattle.std.proofs.Common.{◌≡◌, ◌∙◌, ◌⊎◌, ℕ, ◌+◌, ◌<◌, ◌≤◌, List, Some, None, Option, refl, sym, ap, subst}
use Rattle.std.specs.Prelude.{slice_get, slice_index, IfSome}
use Rattle.tlp_core.specs.Ops.{Op}
use Rattle.tlp_core.specs.Operation.{address_of, count_of}
use Rattle.seq_memory.specs.Entries.{Reply}
use Rattle.seq_memory.specs.Limits.{Extent}
use Rattle.seq_memory.specs.Step.{after, answer}
use Rattle.search_effects.specs.Effects.{Agrees}
use Rattle.log_runs.specs.EventView.{EventView}
use Rattle.log_runs.specs.EventView as events
use Rattle.log_runs.specs.LogView.{LogView}
use Rattle.log_runs.specs.Runs.{reply_of, bytes_after, acted_on}
use Rattle.search_rules.specs.Rules.{Answers, Suits, NeedsByte, NeverPuts, IsOutside}
use Rattle.search_rules.specs.declared.missing.Need.{Need}
use Rattle.search_rules.proofs.PairLemmas.{idle}

abbrev pub Outside : Type 0
Outside = (base block k : ℕ) (m : List ℕ) (op : Op) → (base + k < address_of op) ⊎ (address_of op + count_of op ≤ base + k) → slice_index (after base block m op) k ≡ slice_index m k

module _ (others : Outside) where
  stays : (x : Extent) (k v : ℕ) (o : Option EventView) → ((i : ℕ) (op : Op) (told : Option Reply) → o ≡ Some (events.Sub i op told) → IsOutside x op k)
      → (m : List ℕ) → slice_index (acted_on x m o) k ≡ v → slice_index m k ≡ v
  unfolding acted_on bytes_after
  stays x k v (Some (events.Sub i op told)) out m there = sym (others x.base x.block k m op (out i op told refl)) ∙ there
  stays x k v (Some (events.Due b)) out m there = there
  stays x k v (Some events.Free) out m there = there
  stays x k v None out m there = there

  pub outside_stays : (log : LogView) (b k v : ℕ) → ((i : ℕ) (op : Op) (told : Option Reply) → slice_get log.events b ≡ Some (events.Sub i op told) → IsOutside log.extent op k) → NeverPuts log b k v
  outside_stays log b k v out m agrees there = stays log.extent k v (slice_get log.events b) out m there

pub idle_puts : (log : LogView) (b k v : ℕ) → ((i : ℕ) (op : Op) (told : Option Reply) → slice_get log.events b ≡ Some (events.Sub i op told) → ⊥) → NeverPuts log b k v
idle_puts log b k v none m agrees there = ap (λ n. slice_index n k) (sym (idle log.extent (slice_get log.events b) none m)) ∙ there

pub puts_at : (log : LogView) (b k v i : ℕ) (one : Op) (told : Option Reply) → slice_get log.events b ≡ Some (events.Sub i one told)
    → ((m : List ℕ) → Answers log.extent m one told → slice_index (bytes_after log.extent m one) k ≡ v → slice_index m k ≡ v) → NeverPuts log b k v
unfolding acted_on
puts_at log b k v i one told at never m agrees there =
    never m (subst (Suits log.extent m) at agrees) (subst (λ o. slice_index (acted_on log.extent m o) k ≡ v) at there)

-- by the operation
abbrev pub KeepsByte : ℕ → Op → Option Reply → ℕ → ℕ → Type 0
KeepsByte block one told address v =
    (base k : ℕ) (m : List ℕ) → base + k ≡ address → Agrees base block m one told → slice_index (after base block m one) k ≡ v → slice_index m k ≡ v

pub puts_by : (x : Extent) (block address k v : ℕ) (one : Op) (told : Option Reply) → block ≡ x.block → x.base + k ≡ address → KeepsByte block one told address v
    → (m : List ℕ) → Answers x m one told → slice_index (bytes_after x m one) k ≡ v → slice_index m k ≡ v
unfolding reply_of bytes_after
puts_by x block address k v one told eb ea keeps m agrees there =
    let here : KeepsByte x.block one told address v = subst (λ n. KeepsByte n one told address v) eb keeps in
    here x.base k m ea agrees there

pub needs_at : (log : LogView) (q k v i base : ℕ) (op : Op) (told : Option Reply) → base ≡ log.extent.base → slice_get log.events q ≡ Some (events.Sub i op told)
    → ((block : ℕ) (m : List ℕ) → Agrees base block m op told → slice_index m k ≡ v) → NeedsByte log q k v
unfolding reply_of
needs_at log q k v i base op told eb at needs m there =
    let here : (block : ℕ) (n : List ℕ) → Agrees log.extent.base block n op told → slice_index n k ≡ v =
    subst (λ z. (block : ℕ) (n : List ℕ) → Agrees z block n op told → slice_index n k ≡ v) eb needs in
    here log.extent.block m (subst (Suits log.extent m) at there)

pub needs_some : (log : LogView) (q i base : ℕ) (op : Op) (told : Option Reply) → base ≡ log.extent.base → slice_get log.events q ≡ Some (events.Sub i op told) → (o : Option Need)
    → IfSome o (λ n. (block : ℕ) (m : List ℕ) → Agrees base block m op told → slice_index m n.place ≡ n.value) → IfSome o (λ n. NeedsByte log q n.place n.value)
needs_some log q i base op told eb at (Some n) needs = needs_at log q n.place n.value i base op told eb at needs
needs_some log q i base op told eb at None needs = tt

pub need_by : (base : ℕ) (op : Op) (told : Option Reply) (reply : Reply) → told ≡ Some reply → (o : Option Need)
    → IfSome o (λ n. (block : ℕ) (m : List ℕ) → answer base block m op ≡ reply → slice_index m n.place ≡ n.value)
    → IfSome o (λ n. (block : ℕ) (m : List ℕ) → Agrees base block m op told → slice_index m n.place ≡ n.value)
need_by base op told reply is (Some n) needs = λ block m agrees. needs block m (agrees reply is)
need_by base op told reply is None needs = tt

pub placed_some : (log : LogView) (q at i base : ℕ) (op : Op) (told : Option Reply) → base ≡ log.extent.base → slice_get log.events q ≡ Some (events.Sub i op told) → (o : Option Need)
    → IfSome o (λ n. base + n.place ≡ address_of op + at)
    → IfSome o (λ n. (j : ℕ) × (one : Op) × (had : Option Reply) × (slice_get log.events q ≡ Some (events.Sub j one had)) × (log.extent.base + n.place ≡ address_of one + at))
placed_some log q at i base op told eb there (Some n) place = (i, op, told, there, ap (λ z. z + n.place) (sym eb) ∙ place)
placed_some log q at i base op told eb there None place = tt
