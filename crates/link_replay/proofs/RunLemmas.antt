-- What a receiver hands up, and how many Naks become due, over any list of calls.
use Rattle.std.proofs.Common.{◌≡◌, ℕ, ◌+◌, ◌%◌, ◌<◌, ◌≤◌, Bool, true, false, List, [], ◌∷◌, ◌++◌, length, refl, ◌∙◌, arith}
use Rattle.std.specs.Prelude.{if◌then◌else◌, ◌==◌, nat_le}
use Rattle.std.proofs.lemmas.Bool.Decides.{nat_tests}
use Rattle.seq12.specs.Numbers.{class_of, distance_of}
use Rattle.seq12.specs.declared.class.SequenceClass.{SequenceClass}
use Rattle.seq12.specs.declared.class.SequenceClass.TheVariants as classes
use Rattle.link_replay.specs.declared.receiver.NakScheduled.{NakScheduled}
use Rattle.link_replay.specs.declared.receiver.NakScheduled.TheVariants.{Clear, Due, Sent}
use Rattle.link_replay.specs.declared.receiver.Reception.{Reception}
use Rattle.link_replay.specs.declared.receiver.Reception.TheVariants.{Accept, Duplicate, NakNow, Quiet}
use Rattle.link_replay.specs.ReceiverView.{ReceiverView, discard_answer, answer_by, reception_of, next_after, nak_after, after_receive, nak_sent, after_acknowledge}
use Rattle.link_replay.specs.ReceiverRuns.{Call, Receive, Acknowledge, after_calls, handed_up_if, handed_up_in, naks_if, naks_in, AreConsecutive}

-- ---- only the packet that is waited for is accepted

not_expected : (b : Bool) → ◌≡◌ {A = SequenceClass} (if b then classes.Duplicate else classes.Ahead) classes.Expected → ⊥
not_expected true e = cc
not_expected false e = cc

expected_at : (next got : ℕ) (same : Bool) → (got == next) ≡ same
    → ◌≡◌ {A = SequenceClass} (if same then classes.Expected else (if nat_le (distance_of next got) 2048 then classes.Duplicate else classes.Ahead)) classes.Expected
    → got ≡ next
expected_at next got true t e = grind (arith, nat_tests)
expected_at next got false t e = absurd (not_expected (nat_le (distance_of next got) 2048) e)

discard_accepts_none : (nak : NakScheduled) → discard_answer nak ≡ Accept → ⊥
discard_accepts_none Clear e = cc
discard_accepts_none Due e = cc
discard_accepts_none Sent e = cc

accepted_is_expected : (class : SequenceClass) (nak : NakScheduled) → answer_by class nak ≡ Accept → class ≡ classes.Expected
accepted_is_expected classes.Expected nak e = refl
accepted_is_expected classes.Duplicate nak e = absurd cc
accepted_is_expected classes.Ahead nak e = absurd (discard_accepts_none nak e)

accepted_is_next : (r : ReceiverView) (got : ℕ) (good : Bool) → reception_of r got good ≡ Accept → got ≡ r.next
accepted_is_next r got true e = expected_at r.next got (got == r.next) refl (accepted_is_expected (class_of r.next got) r.nak e)
accepted_is_next r got false e = absurd (discard_accepts_none r.nak e)

-- ---- what is handed up

consecutive_step : (first got : ℕ) (answer : Reception) (rest : List ℕ) → (answer ≡ Accept → got ≡ first)
    → AreConsecutive (next_after first answer) rest → AreConsecutive first (handed_up_if answer got ++ rest)
consecutive_step first got Accept rest h k = (h refl, k)
consecutive_step first got Duplicate rest h k = k
consecutive_step first got NakNow rest h k = k
consecutive_step first got Quiet rest h k = k

pub consecutive : (r : ReceiverView) (calls : List Call) → AreConsecutive r.next (handed_up_in r calls)
consecutive r [] = tt
consecutive r (Receive got good ∷ calls) =
    consecutive_step r.next got (reception_of r got good) (handed_up_in (after_receive r got good) calls)
    (accepted_is_next r got good) (consecutive (after_receive r got good) calls)
consecutive r (Acknowledge ∷ calls) = consecutive (after_acknowledge r) calls

in_range : (next : ℕ) (answer : Reception) → next < 4096 → next_after next answer < 4096
in_range next Accept h = omega arith
in_range next Duplicate h = h
in_range next NakNow h = h
in_range next Quiet h = h

advance_step : (next got : ℕ) (answer : Reception) (rest : List ℕ)
    → (next_after next answer + length rest) % 4096 ≡ (next + length (handed_up_if answer got ++ rest)) % 4096
advance_step next got Accept rest = omega arith
advance_step next got Duplicate rest = refl
advance_step next got NakNow rest = refl
advance_step next got Quiet rest = refl

pub advanced : (r : ReceiverView) (calls : List Call) → r.next < 4096
    → (after_calls r calls).next ≡ (r.next + length (handed_up_in r calls)) % 4096
advanced r [] h = omega arith
advanced r (Receive got good ∷ calls) h =
    advanced (after_receive r got good) calls (in_range r.next (reception_of r got good) h)
    ∙ advance_step r.next got (reception_of r got good) (handed_up_in (after_receive r got good) calls)
advanced r (Acknowledge ∷ calls) h = advanced (after_acknowledge r) calls h

-- ---- Naks

-- how many Naks can become due before a packet is accepted
abbrev naks_left : NakScheduled → ℕ
naks_left Clear = 1
naks_left Due = 0
naks_left Sent = 0

at_most_one : (nak : NakScheduled) → naks_left nak ≤ 1
at_most_one Clear = omega arith
at_most_one Due = omega arith
at_most_one Sent = omega arith

discard_asks_once : (nak : NakScheduled) → discard_answer nak ≡ NakNow → nak ≡ Clear
discard_asks_once Clear e = refl
discard_asks_once Due e = absurd cc
discard_asks_once Sent e = absurd cc

answer_asks_once : (class : SequenceClass) (nak : NakScheduled) → answer_by class nak ≡ NakNow → nak ≡ Clear
answer_asks_once classes.Expected nak e = absurd cc
answer_asks_once classes.Duplicate nak e = absurd cc
answer_asks_once classes.Ahead nak e = discard_asks_once nak e

asks_once : (r : ReceiverView) (got : ℕ) (good : Bool) → reception_of r got good ≡ NakNow → r.nak ≡ Clear
asks_once r got true e = answer_asks_once (class_of r.next got) r.nak e
asks_once r got false e = discard_asks_once r.nak e

nothing_more : (answer : Reception) (got : ℕ) (rest : List ℕ) → handed_up_if answer got ++ rest ≡ [] → rest ≡ []
nothing_more Accept got rest e = absurd cc
nothing_more Duplicate got rest e = e
nothing_more NakNow got rest e = e
nothing_more Quiet got rest e = e

naks_step : (nak : NakScheduled) (answer : Reception) (got n : ℕ) (rest : List ℕ) → handed_up_if answer got ++ rest ≡ []
    → (answer ≡ NakNow → nak ≡ Clear) → n ≤ naks_left (nak_after nak answer) → naks_if answer + n ≤ naks_left nak
naks_step nak Accept got n rest e h k = absurd cc
naks_step nak Duplicate got n rest e h k = omega arith
naks_step nak NakNow got n rest e h k = rw (h refl) (omega arith)
naks_step nak Quiet got n rest e h k = omega arith

-- sending the Nak leaves as many
few_after_acknowledge : (nak : NakScheduled) (n : ℕ) → n ≤ naks_left (nak_sent nak) → 0 + n ≤ naks_left nak
few_after_acknowledge Clear n h = omega arith
few_after_acknowledge Due n h = omega arith
few_after_acknowledge Sent n h = omega arith

few_naks : (r : ReceiverView) (calls : List Call) → handed_up_in r calls ≡ [] → naks_in r calls ≤ naks_left r.nak
few_naks r [] e = omega arith
few_naks r (Receive got good ∷ calls) e =
    let answer = reception_of r got good in
    let rest = handed_up_in (after_receive r got good) calls in
    naks_step r.nak answer got (naks_in (after_receive r got good) calls) rest e (asks_once r got good)
    (few_naks (after_receive r got good) calls (nothing_more answer got rest e))
few_naks r (Acknowledge ∷ calls) e = few_after_acknowledge r.nak (naks_in (after_acknowledge r) calls) (few_naks (after_acknowledge r) calls e)

pub one_nak : (r : ReceiverView) (calls : List Call) → handed_up_in r calls ≡ [] → naks_in r calls ≤ 1
one_nak r calls e = omega (arith, few_naks r calls e, at_most_one r.nak)
