-- The credits of a port after any calls.
use Rattle.std.proofs.Common.{◌≡◌, ℕ, ◌+◌, ◌*◌, ◌/◌, ◌%◌, ◌^◌, ◌<◌, ◌≤◌, Bool, true, false, List, [], ◌∷◌, ◌++◌, length, drop, Option, Some, None, refl, sym, subst, ◌∙◌, arith}
use Rattle.std.specs.Prelude.{◌==◌, ◌&&◌, nat_le, nat_lt, slice_get, slice_index, if◌then◌else◌}
use Rattle.std.proofs.lemmas.List.{append-nil, get_or-drop}
use Rattle.tlp_core.specs.TlpView.{TlpView}
use Rattle.tlp_core.specs.Layout.{dw_count}
use Rattle.flow_control.specs.declared.needs.Need.{Need}
use Rattle.flow_control.specs.declared.ledger.CreditLedger.{CreditLedger}
use Rattle.flow_control.specs.declared.limits.LaneCredits.{LaneCredits}
use Rattle.flow_control.specs.Limits.{IsInLimits}
use Rattle.flow_control.specs.Needs.{need_of}
use Rattle.flow_control.specs.Credits.{after_received, after_freed}
use Rattle.link_replay.specs.declared.receiver.Reception.{Reception}
use Rattle.link_replay.specs.declared.receiver.Reception.TheVariants as receptions
use Rattle.link_crc.specs.declared.check.Check.{Check}
use Rattle.port_core.specs.declared.init.LinkState.{LinkState}
use Rattle.port_core.specs.declared.init.LinkState.TheVariants.{Inactive, Init1, Init2, Active}
use Rattle.port_core.specs.declared.dllp.LinkDllp.{LinkDllp}
use Rattle.port_core.specs.declared.fault.EnterRefusal.{EnterRefusal}
use Rattle.port_core.specs.declared.incoming.Received.TheVariants as arrivals
use Rattle.port_core.specs.declared.port.Choice.{Choice}
use Rattle.port_core.specs.declared.port.Choice.TheVariants as choices
use Rattle.port_core.specs.Init.{is_up}
use Rattle.port_core.specs.Needs.{fmt_of, is_with_data, class_at, units_at}
use Rattle.port_core.specs.Incoming.{need_in, tlp_in, would_overflow, overflow_of, counted, received_under, ledger_under, reception_on}
use Rattle.port_core.specs.Port.{PortView, new_port, risen, refusal_of, after_choice, choice_of, refreshed_in}
use Rattle.port_core.specs.Runs.{Call, Up, Down, Receive, ReceiveDllp, Free, Enter, Next, Refresh, Replay, Retrained, AreBytes, IsCall, AreCalls, Story, story_of, list_if, list_unless, holding_in, overflowing_in, without_held, with_entered, with_port, after_call, after_calls}
use Rattle.port_core.proofs.Dllps.{Keeps, keeps-dllp, IsSpelled}
use Rattle.port_core.proofs.Counts.{Counts, IsSmall, counts-new, counts-received, counts-over, counts-out}
use Rattle.port_core.proofs.Stories.{packet_by}

-- ---- what the bytes of a TLP take is small

dw-number : (x y : ℕ) → y < 256 → x / 2 ^ 0 % 2 ^ 2 * 256 + y ≤ 1023
dw-number x y h = omega (arith, h)

all-small : (b : Bool) (n : ℕ) → n ≤ 1023 → (if b then 1024 else n) ≤ 1024
all-small true n h = omega arith
all-small false n h = omega (arith, h)

units-small : (b : Bool) (n : ℕ) → n ≤ 1024 → (if b then (n + 3) / 4 else 0) ≤ 2047
units-small true n h = omega (arith, h)
units-small false n h = omega arith

made : (a b : Bool) (x need : Need) → (if a then None else (if b then Some x else None)) ≡ Some need → x ≡ need
made true b x need e = cc
made false true x need e = cc
made false false x need e = cc

behind : (n : ℕ) (bytes : List ℕ) → AreBytes bytes → AreBytes (drop n bytes)
behind n bytes h k = subst (λ (x : ℕ). x < 256) (sym (get_or-drop n bytes k 0)) (h (n + k))

small-need : (packet : List ℕ) (need : Need) → AreBytes packet → need_in packet ≡ Some need → IsSmall need
small-need packet need h e =
    let bytes = tlp_in packet in
    let x : Need = record { class = class_at bytes; header = 1; units = units_at bytes } in
    let n = slice_index bytes 2 / 2 ^ 0 % 2 ^ 2 * 256 + slice_index bytes 3 in
    let few = all-small (n == 0) n (dw-number (slice_index bytes 2) (slice_index bytes 3) (behind 2 packet h 3)) in
    subst IsSmall (made (nat_lt (length packet) 2) (nat_le 4 (length bytes) && nat_le (fmt_of bytes) 3) x need e)
    (omega arith, units-small (is_with_data bytes) (dw_count bytes) few)

-- ---- a story's credits

pub record IsLedger (ours : LaneCredits) (s : Story) : Type 0 where
  pub ours_is : s.port.ours ≡ ours
  pub counts : Counts ours s.port.incoming.ledger s.held s.freed

pub new-ledger : (ours : LaneCredits) → IsLedger ours (story_of (new_port ours))
new-ledger ours = record { ours_is = refl; counts = counts-new ours }

new-again : (ours now : LaneCredits) → now ≡ ours → IsLedger ours (story_of (new_port now))
new-again ours now e = subst (λ (x : LaneCredits). IsLedger ours (story_of (new_port x))) (sym e) (new-ledger ours)

risen-again : (ours now : LaneCredits) → now ≡ ours → IsLedger ours (story_of (risen now))
risen-again ours now e =
    subst (λ (x : LaneCredits). IsLedger ours (story_of (risen x))) (sym e) (record { ours_is = refl; counts = counts-new ours })

-- ---- a packet arrives

over-by : (w : Bool) (ours : LaneCredits) (l : CreditLedger) (held freed : List Need) (need : Need) → would_overflow l need ≡ w → IsInLimits ours → IsSmall need → Counts ours l held freed
    → Counts ours (if w then after_freed (after_received l need) need else after_received l need) (held ++ list_unless w need) (freed ++ list_if w need)
over-by true ours l held freed need e limits small k = rw (append-nil held) (counts-over ours l held freed need k)
over-by false ours l held freed need e limits small k = rw (append-nil freed) (counts-received ours l held freed need limits small e k)

accept-counts : (o : Option Need) (ours : LaneCredits) (l : CreditLedger) (held freed : List Need) → ((need : Need) → o ≡ Some need → IsSmall need) → IsInLimits ours → Counts ours l held freed
    → Counts ours (counted l o) (held ++ holding_in (arrivals.Accepted o (overflow_of l o))) (freed ++ overflowing_in (arrivals.Accepted o (overflow_of l o)))
accept-counts None ours l held freed small limits k = rw (append-nil held, append-nil freed) k
accept-counts (Some need) ours l held freed small limits k = over-by (would_overflow l need) ours l held freed need refl limits (small need refl) k

packet-counts : (r : Reception) (ours : LaneCredits) (l : CreditLedger) (packet : List ℕ) (held freed : List Need) → AreBytes packet → IsInLimits ours → Counts ours l held freed
    → Counts ours (ledger_under r l packet) (held ++ holding_in (received_under r l packet)) (freed ++ overflowing_in (received_under r l packet))
packet-counts receptions.Accept ours l packet held freed h limits k = accept-counts (need_in packet) ours l held freed (λ need e. small-need packet need h e) limits k
packet-counts receptions.Duplicate ours l packet held freed h limits k = rw (append-nil held, append-nil freed) k
packet-counts receptions.NakNow ours l packet held freed h limits k = rw (append-nil held, append-nil freed) k
packet-counts receptions.Quiet ours l packet held freed h limits k = rw (append-nil held, append-nil freed) k

packet-ledger : (b : Bool) (ours : LaneCredits) (s : Story) (packet : List ℕ) (check : Check) → AreBytes packet → IsInLimits ours → IsLedger ours s → IsLedger ours (packet_by b s packet check)
packet-ledger true ours s packet check h limits i =
    record {
      ours_is = i.ours_is;
      counts = packet-counts (reception_on s.port.incoming packet check) ours s.port.incoming.ledger packet s.held s.freed h limits i.counts;
    }
packet-ledger false ours s packet check h limits i = record { ours_is = i.ours_is; counts = rw (append-nil s.held, append-nil s.freed) i.counts }

-- ---- the other calls

freed-ledger : (o : Option Need) (ours : LaneCredits) (s : Story) (place : ℕ) → slice_get s.held place ≡ o → IsLedger ours s → IsLedger ours (without_held s place o)
freed-ledger None ours s place e i = i
freed-ledger (Some need) ours s place e i =
    record { ours_is = i.ours_is; counts = counts-out ours s.port.incoming.ledger s.held s.freed place need e i.counts }

entered-ledger : (o : Option EnterRefusal) (ours : LaneCredits) (s : Story) (t : TlpView) → IsLedger ours s → IsLedger ours (with_entered s t o)
entered-ledger (Some refusal) ours s t i = i
entered-ledger None ours s t i = record { ours_is = i.ours_is; counts = i.counts }

sent-ledger : (choice : Choice) (ours : LaneCredits) (s : Story) → IsLedger ours s → IsLedger ours (with_port s (after_choice s.port choice))
sent-ledger choices.Nothing ours s i = i
sent-ledger choices.Answer ours s i = record { ours_is = i.ours_is; counts = i.counts }
sent-ledger (choices.Init class) ours s i = record { ours_is = i.ours_is; counts = i.counts }
sent-ledger (choices.Update class) ours s i = record { ours_is = i.ours_is; counts = i.counts }
sent-ledger choices.Packet ours s i = record { ours_is = i.ours_is; counts = i.counts }

refreshed-ledger : (state : LinkState) (ours : LaneCredits) (s : Story) → IsLedger ours s → IsLedger ours (with_port s (refreshed_in state s.port))
refreshed-ledger Inactive ours s i = i
refreshed-ledger Init1 ours s i = record { ours_is = i.ours_is; counts = i.counts }
refreshed-ledger Init2 ours s i = record { ours_is = i.ours_is; counts = i.counts }
refreshed-ledger Active ours s i = record { ours_is = i.ours_is; counts = i.counts }

dllp-ledger : (ours : LaneCredits) (s : Story) (q : PortView) (dllps : List LinkDllp) → Keeps s.port q → IsLedger ours s
    → IsLedger ours (record s { port = q; heard = dllps })
dllp-ledger ours s q dllps k i =
    record { ours_is = k.ours ∙ i.ours_is; counts = subst (λ e. Counts ours e.ledger s.held s.freed) (sym k.incoming) i.counts }

call-ledger : IsSpelled → (ours : LaneCredits) (s : Story) (call : Call) → IsInLimits ours → IsCall call → IsLedger ours s → IsLedger ours (after_call s call)
call-ledger spelled ours s Up limits is i = risen-again ours s.port.ours i.ours_is
call-ledger spelled ours s Down limits is i = new-again ours s.port.ours i.ours_is
call-ledger spelled ours s (Receive packet check) limits is i = packet-ledger (is_up s.port.state) ours s packet check is limits i
call-ledger spelled ours s (ReceiveDllp bytes check) limits is i = dllp-ledger ours s _ _ (keeps-dllp spelled s.port bytes check is) i
call-ledger spelled ours s (Free place) limits is i = freed-ledger (slice_get s.held place) ours s place refl i
call-ledger spelled ours s (Enter t) limits is i = entered-ledger (refusal_of s.port (need_of t)) ours s t i
call-ledger spelled ours s Next limits is i = sent-ledger (choice_of s.port) ours s i
call-ledger spelled ours s Refresh limits is i = refreshed-ledger s.port.state ours s i
call-ledger spelled ours s Replay limits is i = record { ours_is = i.ours_is; counts = i.counts }
call-ledger spelled ours s Retrained limits is i = record { ours_is = i.ours_is; counts = i.counts }

pub calls-ledger : IsSpelled → (ours : LaneCredits) (s : Story) (calls : List Call) → IsInLimits ours → AreCalls calls → IsLedger ours s → IsLedger ours (after_calls s calls)
calls-ledger spelled ours s [] limits are i = i
calls-ledger spelled ours s (call ∷ calls) limits are i =
    calls-ledger spelled ours (after_call s call) calls limits are.1 (call-ledger spelled ours s call limits are.0 i)
