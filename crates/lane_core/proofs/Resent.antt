-- The packets that are kept go onto the wire, behind what is on it.
use Rattle.std.proofs.Common.{◌≡◌, ℕ, zero, suc, add-zero, ◌+◌, ◌%◌, ◌<◌, ◌≤◌, true, false, List, [], ◌∷◌, ◌++◌, length, drop, Some, None, refl, sym, ◌∙◌, ap, subst, arith}
use Rattle.std.specs.Prelude.{slice_get, nat_lt}
use Rattle.std.proofs.lemmas.List.{drop-drop, append-nil, append_assoc}
use Rattle.std.proofs.lemmas.Option.{slice_get_within}
use Rattle.std.proofs.lemmas.Bool.Decides.{nat_tests}
use Rattle.link_replay.specs.CargoView.{CargoView}
use Rattle.link_replay.specs.SenderView.{SenderView, number_at, next_item}
use Rattle.lane_core.specs.declared.packet.WirePacket.{WirePacket}
use Rattle.lane_core.specs.Steps.{LaneEndsView}
use Rattle.lane_core.specs.Calls.{Transmit, after_call}
use Rattle.lane_core.specs.Flushed.{times}
use Rattle.lane_core.proofs.Right.{slice_get-drop}
use Rattle.lane_core.proofs.Idle.{times_idle, sends_none}

-- ---- these packets under their numbers, from a place on

abbrev pub numbered : ℕ → ℕ → List CargoView → List WirePacket
numbered acked place [] = []
numbered acked place (c ∷ cs) = record { number = (acked + 1 + place) % 4096; cargo = c } ∷ numbered acked (place + 1) cs

-- what stays while packets go, and what they add to the wire
pub record Resent (e : LaneEndsView) (rest : List CargoView) (new : LaneEndsView) : Type 0 where
  pub forward : new.forward ≡ e.forward ++ numbered e.sender.sending.acked e.sender.sending.place rest
  pub acked : new.sender.sending.acked ≡ e.sender.sending.acked
  pub kept : new.sender.sending.kept ≡ e.sender.sending.kept
  pub back : new.back ≡ e.back

same_lane : (e : LaneEndsView) → Resent e [] e
same_lane e = record { forward = sym (append-nil e.forward); acked = refl; kept = refl; back = refl }

-- one packet goes
record SendsOne (e : LaneEndsView) (c : CargoView) (new : LaneEndsView) : Type 0 where
  place : new.sender.sending.place ≡ e.sender.sending.place + 1
  forward : new.forward ≡ e.forward ++ record { number = number_at e.sender.sending e.sender.sending.place; cargo = c } ∷ []

one_sent : (e : LaneEndsView) (c : CargoView) → e.sender.sending.stopped ≡ false → slice_get e.sender.sending.kept e.sender.sending.place ≡ Some c →
    SendsOne e c (after_call e Transmit)
one_sent e c s h =
    let inside : e.sender.sending.place < length e.sender.sending.kept = slice_get_within e.sender.sending.kept e.sender.sending.place c h in
    let less : nat_lt e.sender.sending.place (length e.sender.sending.kept) ≡ true = grind (arith, nat_tests, inside) in
    record { place = rw (s, less) refl; forward = rw (s, h) refl }

-- the first of the packets that are left
first_left : (xs rest : List CargoView) (i : ℕ) → drop i xs ≡ rest → slice_get xs i ≡ slice_get rest 0
first_left xs rest i h = ap (λ (k : ℕ). slice_get xs k) (sym (add-zero i)) ∙ sym (slice_get-drop xs i 0) ∙ ap (λ (ys : List CargoView). slice_get ys 0) h

none_left : (s : SenderView) → s.stopped ≡ false → drop s.place s.kept ≡ [] → next_item s ≡ None
none_left s t h = rw t (first_left s.kept [] s.place h)

later : (e : LaneEndsView) (c : CargoView) (cs : List CargoView) (mid new : LaneEndsView) → SendsOne e c mid → mid.sender.sending.acked ≡ e.sender.sending.acked → mid.sender.sending.kept ≡ e.sender.sending.kept →
    mid.back ≡ e.back → Resent mid cs new → Resent e (c ∷ cs) new
later e c cs mid new one a k b r =
    record {
      forward = r.forward ∙ rw (one.forward, one.place, a) (append_assoc e.forward _ (numbered e.sender.sending.acked (e.sender.sending.place + 1) cs));
      acked = r.acked ∙ a;
      kept = r.kept ∙ k;
      back = r.back ∙ b;
    }

pub all_sent : (n : ℕ) (e : LaneEndsView) (rest : List CargoView) → e.sender.sending.stopped ≡ false → drop e.sender.sending.place e.sender.sending.kept ≡ rest → length rest ≤ n →
    Resent e rest (times n e Transmit)
unfolding times
all_sent n e [] s h l = subst (λ (m : LaneEndsView). Resent e [] m) (sym (times_idle n e Transmit (sends_none e (none_left e.sender.sending s h)))) (same_lane e)
all_sent zero e (c ∷ cs) s h l = absurd (omega (arith, l))
all_sent (suc n) e (c ∷ cs) s h l =
    let one = one_sent e c s (first_left e.sender.sending.kept (c ∷ cs) e.sender.sending.place h) in
    let mid = after_call e Transmit in
    let rest : drop mid.sender.sending.place e.sender.sending.kept ≡ cs =
    ap (λ (k : ℕ). drop k e.sender.sending.kept) one.place ∙ sym (drop-drop 1 e.sender.sending.place e.sender.sending.kept) ∙ ap (λ (xs : List CargoView). drop 1 xs) h in
    later e c cs mid (times n mid Transmit) one refl refl refl (all_sent n mid cs s rest (omega (arith, l)))
