-- What bytes are to an operation, by the tests of two operations.
use Rattle.std.proofs.Common.{◌≡◌, ◌∙◌, ℕ, ◌+◌, ◌≤◌, List, Some, None, Option, length, sym, ap, subst, arith}
use Rattle.std.specs.Prelude.{slice_get}
use Rattle.tlp_core.specs.Ops.{Op}
use Rattle.tlp_core.specs.Operation.{address_of, count_of}
use Rattle.seq_memory.specs.Entries.{Reply}
use Rattle.seq_memory.specs.Limits.{Extent}
use Rattle.seq_memory.specs.Step.{refusal, after, answer}
use Rattle.search_effects.specs.Effects.{Agrees, AreSameAt}
use Rattle.log_runs.specs.EventView.{EventView}
use Rattle.log_runs.specs.EventView as events
use Rattle.log_runs.specs.LogView.{LogView}
use Rattle.search_rules.specs.Junk.{word, HasAddresses, MissesThere, MissesLeft, IsJunk, LeavesJunk}
use Rattle.search_rules.specs.Rules.{IsJunkAt, LeavesJunkAt, IsWithin}

pub there_by : (x : Extent) (base : ℕ) (m : List ℕ) (one other : Op) (told : Option Reply) → base ≡ x.base
    → ((block : ℕ) (n : List ℕ) → AreSameAt base other m n → Agrees base block n one told → ⊥) → MissesThere x m one told other
there_by x base m one other told ea misses =
    let here : (c : ℕ) (n : List ℕ) → AreSameAt x.base other m n → Agrees x.base c n one told → ⊥ =
    subst (λ z. (c : ℕ) (n : List ℕ) → AreSameAt z other m n → Agrees z c n one told → ⊥) ea misses in
    here x.block

pub left_by : (x : Extent) (block : ℕ) (one third : Op) (told had : Option Reply) (reply : Reply) → block ≡ x.block → told ≡ Some reply → refusal x.base x.size x.block third ≡ None
    → ((base : ℕ) (k n : List ℕ) → refusal base (length k) block third ≡ None → Agrees base block k third had → AreSameAt base third (after base block k third) n → answer base block n one ≡ reply → ⊥)
    → MissesLeft x one told third third had
left_by x block one third told had reply eb is served misses k n size agrees same suited =
    let here : (d : ℕ) (k n : List ℕ) → refusal d (length k) x.block third ≡ None → Agrees d x.block k third had → AreSameAt d third (after d x.block k third) n → answer d x.block n one ≡ reply → ⊥ =
    subst (λ z. (d : ℕ) (k n : List ℕ) → refusal d (length k) z third ≡ None → Agrees d z k third had → AreSameAt d third (after d z k third) n → answer d z n one ≡ reply → ⊥) eb misses in
    here x.base k n (ap (λ z. refusal x.base z x.block third) size ∙ served) agrees same (suited reply is)

pub left_among : (x : Extent) (one other third : Op) (told had : Option Reply) → address_of other ≤ address_of third → address_of third + count_of third ≤ address_of other + count_of other
    → MissesLeft x one told third third had → MissesLeft x one told other third had
left_among x one other third told had low high misses k n size agrees same =
    misses k n size agrees (λ p front back. same p (omega (arith, low, front)) (omega (arith, high, back)))

-- ---- a place has one submission

pub one_op : (o : Option EventView) (i j : ℕ) (op w : Op) (told asked : Option Reply) → o ≡ Some (events.Sub i op told) → o ≡ Some (events.Sub j w asked) → op ≡ w
one_op o i j op w told asked at there = let e : Some (events.Sub i op told) ≡ Some (events.Sub j w asked) = sym at ∙ there in cc

pub one_reply : (o : Option EventView) (i j : ℕ) (op w : Op) (told asked : Option Reply) → o ≡ Some (events.Sub i op told) → o ≡ Some (events.Sub j w asked) → told ≡ asked
one_reply o i j op w told asked at there = let e : Some (events.Sub i op told) ≡ Some (events.Sub j w asked) = sym at ∙ there in cc

pub junk_at : (log : LogView) (m : List ℕ) (b w i : ℕ) (one : Op) (told : Option Reply) → slice_get log.events b ≡ Some (events.Sub i one told)
    → IsJunk log.extent m one told (word log.extent w) → IsJunkAt log m b w
junk_at log m b w i one told seen junk i2 one2 told2 at =
    let x = log.extent in
    subst (λ z. IsJunk x m one2 z (word x w)) (one_reply (slice_get log.events b) i i2 one one2 told told2 seen at)
    (subst (λ z. IsJunk x m z told (word x w)) (one_op (slice_get log.events b) i i2 one one2 told told2 seen at) junk)

pub leaves_at : (log : LogView) (b g w i : ℕ) (one : Op) (told : Option Reply) → slice_get log.events b ≡ Some (events.Sub i one told)
    → ((l : ℕ) × (third : Op) × (had : Option Reply) × (slice_get log.events g ≡ Some (events.Sub l third had)) × LeavesJunk log.extent one told (word log.extent w) third had)
    → LeavesJunkAt log b g w
leaves_at log b g w i one told seen (l, third, had, behind, junk) i2 l2 one2 third2 told2 had2 at at3 =
    let x = log.extent in
    subst (λ z. LeavesJunk x one2 told2 (word x w) third2 z) (one_reply (slice_get log.events g) l l2 third third2 had had2 behind at3)
    (subst (λ z. LeavesJunk x one2 told2 (word x w) z had) (one_op (slice_get log.events g) l l2 third third2 had had2 behind at3)
    (subst (λ z. LeavesJunk x one2 z (word x w) third had) (one_reply (slice_get log.events b) i i2 one one2 told told2 seen at)
    (subst (λ z. LeavesJunk x z told (word x w) third had) (one_op (slice_get log.events b) i i2 one one2 told told2 seen at) junk)))

pub within_at : (log : LogView) (g q l : ℕ) (third : Op) (had : Option Reply) → slice_get log.events g ≡ Some (events.Sub l third had)
    → ((j : ℕ) × (other : Op) × (asked : Option Reply) × (slice_get log.events q ≡ Some (events.Sub j other asked)) × HasAddresses other third)
    → IsWithin log g q
within_at log g q l third had seen (j, other, asked, there, within) i2 j2 third2 other2 had2 asked2 at at2 =
    subst (λ z. HasAddresses z third2) (one_op (slice_get log.events q) j j2 other other2 asked asked2 there at2)
    (subst (λ z. HasAddresses other z) (one_op (slice_get log.events g) l i2 third third2 had had2 seen at) within)
