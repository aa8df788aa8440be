-- Each call keeps the last accepted packets, and so does every list of calls.
use Rattle.std.proofs.Common.{◌≡◌, ℕ, ◌+◌, ◌-◌, ◌%◌, ◌<◌, ◌≤◌, Bool, true, false, List, [], ◌∷◌, ◌++◌, length, take, drop, Option, Some, None, refl, sym, ap, ◌∙◌, arith, append_assoc, length-append, length-drop, length-take}
use Rattle.std.specs.Prelude.{if◌then◌else◌, ◌==◌, nat_lt, nat_le, slice_get}
use Rattle.std.specs.Option.{option_map}
use Rattle.std.proofs.lemmas.Bool.Decides.{nat_tests}
use Rattle.std.proofs.lemmas.List.{append-nil, take-append-drop, get_or-append-add}
use Rattle.std.proofs.lemmas.Option.{slice_get_within, slice_get-get_or, get_or_from_slice_get}
use Rattle.seq12.specs.Numbers.{distance_of}
use Rattle.link_replay.specs.CargoView.{CargoView}
use Rattle.link_replay.specs.SenderView.{SenderView, fresh, number_at, next_number, sent_from, with_accepted, with_reserved, released, after_transmit, is_outstanding, acknowledged, from_oldest, trained}
use Rattle.link_replay.specs.Runs.{Call, Accept, Reserve, Release, Transmit, Ack, Nak, Timer, Retrained, IsCall, AreCalls, after_call, accepted_by, after_calls, accepted_in, KeepsTheLast}

-- ---- numbers

-- the number that an Ack names, by how many packets it drops
number_dropped : (n a g d : ℕ) → n < 4096 → a ≡ (g + 4095) % 4096 → d ≡ (n + 4096 - a) % 4096 → n ≡ (g + d + 4095) % 4096
number_dropped n a g d fits acked dist = omega arith

-- packet g + i of those accepted has the number of the kept packet i
pub number_of_place : (a g i : ℕ) → a ≡ (g + 4095) % 4096 → (a + 1 + i) % 4096 ≡ (g + i) % 4096
number_of_place a g i acked = omega arith

is_below : (n m : ℕ) → nat_lt n m ≡ true → n < m
is_below n m t = grind (arith, nat_tests)

is_at_most : (n m : ℕ) → nat_le n m ≡ true → n ≤ m
is_at_most n m t = grind (arith, nat_tests)

place_kept : (stopped : Bool) (place count : ℕ) → place ≤ count → (if stopped then place else (if nat_lt place count then place + 1 else place)) ≤ count
place_kept true place count h = h
place_kept false place count h = grind (arith, nat_tests)

counter_kept : (place replays : ℕ) → replays ≤ 3 → (if place == 0 then replays else (if replays == 3 then 0 else replays + 1)) ≤ 3
counter_kept place replays h = grind (arith, nat_tests)

counter_reset : (b : Bool) (replays : ℕ) → replays ≤ 3 → (if b then replays else 0) ≤ 3
counter_reset true replays h = h
counter_reset false replays h = omega arith

-- ---- each call

fresh_keeps : KeepsTheLast [] fresh
fresh_keeps = record { dropped = []; kept = refl; acked = refl; window = omega arith; place = omega arith; replays = omega arith }

accept_keeps : (xs : List CargoView) (s : SenderView) (cargo : CargoView) (room : Bool) → nat_lt (length s.kept) 2047 ≡ room → KeepsTheLast xs s
    → KeepsTheLast (xs ++ (if room then cargo ∷ [] else [])) (if room then with_accepted s cargo else s)
accept_keeps xs s cargo true has_room k =
    let below = is_below _ _ has_room in
    record {
      dropped = k.dropped;
      kept = ap (λ ys. ys ++ cargo ∷ []) k.kept ∙ append_assoc k.dropped s.kept (cargo ∷ []);
      acked = k.acked;
      window = omega (arith, length-append s.kept (cargo ∷ []));
      place = omega (arith, length-append s.kept (cargo ∷ []), k.place);
      replays = k.replays;
    }
accept_keeps xs s cargo false has_room k = rw append-nil k

from_oldest_keeps : (xs : List CargoView) (s : SenderView) → KeepsTheLast xs s → KeepsTheLast xs (from_oldest s)
from_oldest_keeps xs s k =
    record { dropped = k.dropped; kept = k.kept; acked = k.acked; window = k.window; place = omega arith; replays = counter_kept s.place s.replays k.replays }

acknowledged_keeps : (xs : List CargoView) (s : SenderView) (n : ℕ) → n < 4096 → distance_of n s.acked ≤ length s.kept → KeepsTheLast xs s → KeepsTheLast xs (acknowledged s n)
acknowledged_keeps xs s n fits outstanding k =
    let d = distance_of n s.acked in
    let count : length (k.dropped ++ take d s.kept) ≡ length k.dropped + d = omega (arith, length-append k.dropped (take d s.kept), length-take d s.kept) in
    record {
      dropped = k.dropped ++ take d s.kept;
      kept = k.kept ∙ sym (append_assoc k.dropped (take d s.kept) (drop d s.kept) ∙ ap (λ ys. k.dropped ++ ys) (take-append-drop d s.kept));
      acked = rw count (number_dropped n s.acked (length k.dropped) d fits k.acked refl);
      window = omega (arith, length-drop d s.kept, k.window);
      place = omega (arith, length-drop d s.kept, k.place);
      replays = counter_reset (d == 0) s.replays k.replays;
    }

ack_keeps : (xs : List CargoView) (s : SenderView) (n : ℕ) (named : Bool) → is_outstanding s n ≡ named → n < 4096 → KeepsTheLast xs s
    → KeepsTheLast xs (if named then acknowledged s n else s)
ack_keeps xs s n true outstanding fits k = acknowledged_keeps xs s n fits (is_at_most _ _ outstanding) k
ack_keeps xs s n false outstanding fits k = k

nak_keeps : (xs : List CargoView) (s : SenderView) (n : ℕ) (named : Bool) → is_outstanding s n ≡ named → n < 4096 → KeepsTheLast xs s
    → KeepsTheLast xs (if named then from_oldest (acknowledged s n) else s)
nak_keeps xs s n true outstanding fits k =
    from_oldest_keeps xs (acknowledged s n) (acknowledged_keeps xs s n fits (is_at_most _ _ outstanding) k)
nak_keeps xs s n false outstanding fits k = k

reserve_keeps : (xs : List CargoView) (s : SenderView) (room : Bool) → KeepsTheLast xs s → KeepsTheLast xs (if room then with_reserved s else s)
reserve_keeps xs s true k =
    record { dropped = k.dropped; kept = k.kept; acked = k.acked; window = k.window; place = k.place; replays = k.replays }
reserve_keeps xs s false k = k

released_keeps : (xs : List CargoView) (s : SenderView) → KeepsTheLast xs s → KeepsTheLast xs (released s)
released_keeps xs s k =
    record { dropped = k.dropped; kept = k.kept; acked = k.acked; window = k.window; place = k.place; replays = k.replays }

transmit_keeps : (xs : List CargoView) (s : SenderView) → KeepsTheLast xs s → KeepsTheLast xs (after_transmit s)
transmit_keeps xs s k =
    record {
      dropped = k.dropped;
      kept = k.kept;
      acked = k.acked;
      window = k.window;
      place = place_kept s.stopped s.place (length s.kept) k.place;
      replays = k.replays;
    }

trained_keeps : (xs : List CargoView) (s : SenderView) → KeepsTheLast xs s → KeepsTheLast xs (trained s)
trained_keeps xs s k =
    record { dropped = k.dropped; kept = k.kept; acked = k.acked; window = k.window; place = k.place; replays = k.replays }

call_keeps : (xs : List CargoView) (s : SenderView) (call : Call) → IsCall call → KeepsTheLast xs s → KeepsTheLast (xs ++ accepted_by s call) (after_call s call)
call_keeps xs s (Accept cargo) is k = accept_keeps xs s cargo (nat_lt (length s.kept) 2047) refl k
call_keeps xs s Reserve is k = rw append-nil (reserve_keeps xs s (nat_lt (length s.kept) 2047) k)
call_keeps xs s Release is k = rw append-nil (released_keeps xs s k)
call_keeps xs s Transmit is k = rw append-nil (transmit_keeps xs s k)
call_keeps xs s (Ack n) is k = rw append-nil (ack_keeps xs s n (is_outstanding s n) refl is k)
call_keeps xs s (Nak n) is k = rw append-nil (nak_keeps xs s n (is_outstanding s n) refl is k)
call_keeps xs s Timer is k = rw append-nil (from_oldest_keeps xs s k)
call_keeps xs s Retrained is k = rw append-nil (trained_keeps xs s k)

-- ---- lists of calls

calls_keep : (xs : List CargoView) (s : SenderView) (calls : List Call) → AreCalls calls → KeepsTheLast xs s → KeepsTheLast (xs ++ accepted_in s calls) (after_calls s calls)
calls_keep xs s [] are k = rw append-nil k
calls_keep xs s (call ∷ calls) are k =
    rw (← append_assoc xs (accepted_by s call) (accepted_in (after_call s call) calls))
    (calls_keep (xs ++ accepted_by s call) (after_call s call) calls are.1 (call_keeps xs s call are.0 k))

pub run_keeps : (calls : List Call) → AreCalls calls → KeepsTheLast (accepted_in fresh calls) (after_calls fresh calls)
run_keeps calls are = calls_keep [] fresh calls are fresh_keeps

-- NEXT_TRANSMIT_SEQ counts what was accepted
pub next_counts : (xs : List CargoView) (s : SenderView) → KeepsTheLast xs s → next_number s ≡ length xs % 4096
next_counts xs s k =
    number_of_place s.acked (length k.dropped) (length s.kept) k.acked
    ∙ ap (λ n. n % 4096) (sym (ap length k.kept ∙ length-append k.dropped s.kept))

-- ---- what is sent

sent_is : (number place : ℕ) (cargo : CargoView) (stopped : Bool) (got : Option CargoView)
    → ◌≡◌ {A = Option (ℕ × CargoView)} (option_map (λ c. (place, c)) (if stopped then None else got)) (Some (number, cargo)) → (got ≡ Some cargo) × (number ≡ place)
sent_is number place cargo true got e = absurd cc
sent_is number place cargo false None e = absurd cc
sent_is number place cargo false (Some c) e =
    let same : ◌≡◌ {A = ℕ × CargoView} (place, c) (number, cargo) = cc in
    (ap (λ (p : ℕ × CargoView). Some p.1) same, sym (ap (λ (p : ℕ × CargoView). p.0) same))

-- item i behind the dropped ones
item_behind : (xs ys : List CargoView) (i : ℕ) (c : CargoView) → slice_get ys i ≡ Some c → slice_get (xs ++ ys) (length xs + i) ≡ Some c
item_behind xs ys i c e =
    let within = slice_get_within ys i c e in
    let inside : length xs + i < length (xs ++ ys) = omega (arith, length-append xs ys, within) in
    slice_get-get_or (xs ++ ys) (length xs + i) c inside ∙ ap Some (get_or-append-add xs ys i c ∙ get_or_from_slice_get ys i c c e)

-- what is sent is one of the last accepted, under its own number
pub sent_is_kept : (xs : List CargoView) (s : SenderView) → KeepsTheLast xs s → (number : ℕ) (cargo : CargoView) → sent_from s ≡ Some (number, cargo)
    → (i : ℕ) × (slice_get xs i ≡ Some cargo) × (number ≡ i % 4096) × (length xs ≤ i + 2047)
sent_is_kept xs s k number cargo e =
    let sent = sent_is number (number_at s s.place) cargo s.stopped (slice_get s.kept s.place) e in (
      length k.dropped + s.place,
      ap (λ ys. slice_get ys (length k.dropped + s.place)) k.kept ∙ item_behind k.dropped s.kept s.place cargo sent.0,
      sent.1 ∙ number_of_place s.acked (length k.dropped) s.place k.acked,
      omega (arith, ap length k.kept, length-append k.dropped s.kept, k.window),
    )
