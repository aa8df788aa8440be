-- What was given out is among the unacknowledged packets.
use Rattle.std.proofs.Common.{ℕ, ◌-◌, ◌≤◌, Bool, true, false, length, sym, subst, arith}
use Rattle.std.specs.Prelude.{if◌then◌else◌}
use Rattle.std.proofs.lemmas.List.{length-drop}
use Rattle.seq12.specs.Numbers.{distance_of}
use Rattle.link_replay.specs.SenderView.{SenderView, is_outstanding, acknowledged, from_oldest}
use Rattle.lane_core.specs.declared.packet.Fate.TheVariants.{Good}
use Rattle.lane_core.specs.Steps.{SenderEndView, after_dllp}
use Rattle.port_core.specs.Outgoing.{ack_or_nak}

either : (b : Bool) (s t : SenderView) (n : ℕ) → n ≤ length s.kept → n ≤ length t.kept → n ≤ length (if b then s else t).kept
either true s t n h k = h
either false s t n h k = k

fewer : (n d m : ℕ) → n ≤ m → n - d ≤ m
fewer n d m h = omega (arith, h)

less : (n d m : ℕ) → n ≤ m → n - d ≤ m - d
less n d m h = omega (arith, h)

dropped : (s : SenderView) (number given : ℕ) → given ≤ length s.kept → given - distance_of number s.acked ≤ length (acknowledged s number).kept
dropped s number given h =
    subst (λ (m : ℕ). given - distance_of number s.acked ≤ m) (sym (length-drop (distance_of number s.acked) s.kept)) (less given (distance_of number s.acked) (length s.kept) h)

-- also behind an Ack or Nak
pub still_kept : (s : SenderEndView) (number given : ℕ) (is_nak : Bool) → given ≤ length s.sending.kept
    → given - distance_of number s.sending.acked ≤ length (after_dllp s (ack_or_nak number is_nak) Good).sending.kept
still_kept s number given true h =
    either (is_outstanding s.sending number) (from_oldest (acknowledged s.sending number)) s.sending _ (dropped s.sending number given h) (fewer given _ _ h)
still_kept s number given false h =
    either (is_outstanding s.sending number) (acknowledged s.sending number) s.sending _ (dropped s.sending number given h) (fewer given _ _ h)
