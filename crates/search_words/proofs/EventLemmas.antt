-- Events that a log lends, and what two requests are to each other.
use Rattle.std.proofs.Common.{◌≡◌, ◌∙◌, ◌⊎◌, inl, inr, ℕ, ◌+◌, ◌*◌, ◌-◌, ◌/◌, ◌%◌, ◌<◌, ◌≤◌, List, Some, None, Option, sym, ap, subst, arith}
use Rattle.std.specs.Prelude.{slice_get}
use Rattle.std.specs.Borrow.{Bor}
use Rattle.std.proofs.lemmas.Option.{same_Some}
use Rattle.tlp_core.specs.Ops.{Op}
use Rattle.tlp_core.specs.Operation.{address_of, count_of}
use Rattle.seq_memory.specs.Entries.{Reply}
use Rattle.seq_memory.specs.Step.{after, answer}
use Rattle.search_effects.specs.Effects.{Agrees, told_of}
use Rattle.log_runs.specs.declared.log.Event.{Event}
use Rattle.log_runs.specs.declared.log.Event.TheVariants as lent
use Rattle.log_runs.specs.EventView.{EventView, event_of}
use Rattle.log_runs.specs.EventView as events
use Rattle.log_runs.specs.LogView.{LogView}
use Rattle.search_rules.specs.Junk.{IsJunk, LeavesJunk, word}
use Rattle.search_rules.specs.Idle.{IsJunkBehind}
use Rattle.search_rules.specs.Rules.{IsJunkAt, LeavesJunkAt}

pub sub_at : (es : List EventView) (b : ℕ) (r : Event) (i : ℕ) (op : Op) (told : Option Reply) → r ≡ lent.Sub i op told → Some (event_of r) ≡ slice_get es b
    → slice_get es b ≡ Some (events.Sub i op told)
sub_at es b r i op told is read = sym read ∙ ap (λ e. Some (event_of e)) is

-- the same, with a reply that is lent
pub sub_told : (es : List EventView) (b : ℕ) (r : Event) (i : ℕ) (op : Op) (told : Option Reply) (reply : Option (Bor Reply)) → r ≡ lent.Sub i op told → Some (event_of r) ≡ slice_get es b → told_of reply ≡ told
    → slice_get es b ≡ Some (events.Sub i op (told_of reply))
sub_told es b r i op told reply is read e = sub_at es b r i op told is read ∙ ap (λ t. Some (events.Sub i op t)) (sym e)

-- ---- places

-- the words that a range touches
pub touched_within : (base a n w : ℕ) → base + 4 * w < a + n → a < base + 4 * w + 4 → ((a - base) / 4 ≤ w) × (w < (a - base) / 4 + ((a - base) % 4 + n + 3) / 4)
touched_within base a n w low high = (omega (arith, low, high), omega (arith, low, high))

abbrev pub address_at : Option EventView → ℕ
address_at (Some (events.Sub i op told)) = address_of op
address_at (Some (events.Due b)) = 0
address_at (Some events.Free) = 0
address_at None = 0

abbrev pub count_at : Option EventView → ℕ
count_at (Some (events.Sub i op told)) = count_of op
count_at (Some (events.Due b)) = 0
count_at (Some events.Free) = 0
count_at None = 0

-- ---- a place has one submission

pub one_op : (o : Option EventView) (i j : ℕ) (op w : Op) (told asked : Option Reply) → o ≡ Some (events.Sub i op told) → o ≡ Some (events.Sub j w asked) → op ≡ w
one_op o i j op w told asked at there = let e : Some (events.Sub i op told) ≡ Some (events.Sub j w asked) = sym at ∙ there in cc

pub one_reply : (o : Option EventView) (i j : ℕ) (op w : Op) (told asked : Option Reply) → o ≡ Some (events.Sub i op told) → o ≡ Some (events.Sub j w asked) → told ≡ asked
one_reply o i j op w told asked at there = let e : Some (events.Sub i op told) ≡ Some (events.Sub j w asked) = sym at ∙ there in cc

pub junk_at : (log : LogView) (m : List ℕ) (b w i : ℕ) (one : Op) (told : Option Reply) → slice_get log.events b ≡ Some (events.Sub i one told)
    → IsJunk log.extent m one told (word log.extent w) → IsJunkAt log m b w
junk_at log m b w i one told seen junk i2 one2 told2 at =
    let x = log.extent in
    subst (λ z. IsJunk x m one2 z (word x w)) (one_reply (slice_get log.events b) i i2 one one2 told told2 seen at)
    (subst (λ z. IsJunk x m z told (word x w)) (one_op (slice_get log.events b) i i2 one one2 told told2 seen at) junk)

pub leaves_at : (log : LogView) (b g w i l : ℕ) (one third : Op) (told had : Option Reply) → slice_get log.events b ≡ Some (events.Sub i one told) → slice_get log.events g ≡ Some (events.Sub l third had)
    → LeavesJunk log.extent one told (word log.extent w) third had → LeavesJunkAt log b g w
leaves_at log b g w i l one third told had seen behind junk i2 l2 one2 third2 told2 had2 at at2 =
    let x = log.extent in
    subst (λ z. LeavesJunk x one2 told2 (word x w) third2 z) (one_reply (slice_get log.events g) l l2 third third2 had had2 behind at2)
    (subst (λ z. LeavesJunk x one2 told2 (word x w) z had) (one_op (slice_get log.events g) l l2 third third2 had had2 behind at2)
    (subst (λ z. LeavesJunk x one2 z (word x w) third had) (one_reply (slice_get log.events b) i i2 one one2 told told2 seen at)
    (subst (λ z. LeavesJunk x z told (word x w) third had) (one_op (slice_get log.events b) i i2 one one2 told told2 seen at) junk)))

pub behind_at : (log : LogView) (b i : ℕ) (one third : Op) (told : Option Reply) (made : Reply) → slice_get log.events b ≡ Some (events.Sub i one told)
    → LeavesJunk log.extent one told third third (Some made) → IsJunkBehind log third made b
behind_at log b i one third told made seen junk i2 one2 told2 at =
    let x = log.extent in
    subst (λ z. LeavesJunk x one2 z third third (Some made)) (one_reply (slice_get log.events b) i i2 one one2 told told2 seen at)
    (subst (λ z. LeavesJunk x z told third third (Some made)) (one_op (slice_get log.events b) i i2 one one2 told told2 seen at) junk)

-- ---- replies

-- one reply is all that was answered
pub way_of : (base block : ℕ) (m : List ℕ) (one op : Op) (told asked : Option Reply) (reply : Reply) → asked ≡ Some reply
    → ((answer base block (after base block m one) op ≡ reply → ⊥)
    ⊎ ((answer base block (after base block m one) op ≡ reply) × Agrees base block (after base block m op) one told
    × (after base block (after base block m one) op ≡ after base block (after base block m op) one)))
    → (Agrees base block (after base block m one) op asked → ⊥)
    ⊎ (Agrees base block (after base block m one) op asked × Agrees base block (after base block m op) one told
    × (after base block (after base block m one) op ≡ after base block (after base block m op) one))
way_of base block m one op told asked reply is (inl broken) = inl (λ there. broken (there reply is))
way_of base block m one op told asked reply is (inr (still, agrees, swap)) =
    inr ((λ r told_it. still ∙ same_Some reply r (sym is ∙ told_it)), agrees, swap)
