-- What holds of a port and of what happened since its link came up, after any calls.
use Rattle.std.proofs.Common.{◌≡◌, ℕ, Bool, true, false, List, [], ◌∷◌, ◌++◌, length, Option, Some, None, refl, sym, subst, arith}
use Rattle.std.specs.Prelude.{nat_le, nat_lt, slice_get, if◌then◌else◌}
use Rattle.std.proofs.lemmas.List.{append-nil}
use Rattle.std.proofs.lemmas.Bool.Decides.{nat_tests}
use Rattle.tlp_core.specs.TlpView.{TlpView}
use Rattle.flow_control.specs.declared.needs.Need.{Need}
use Rattle.flow_control.specs.declared.ledger.CreditLedger.{CreditLedger}
use Rattle.flow_control.specs.declared.limits.LaneCredits.{LaneCredits}
use Rattle.flow_control.specs.Needs.{need_of}
use Rattle.flow_control.specs.Credits.{gate_covers}
use Rattle.link_replay.specs.declared.receiver.Reception.{Reception}
use Rattle.link_replay.specs.declared.receiver.Reception.TheVariants as receptions
use Rattle.link_replay.specs.ReceiverRuns as received_runs
use Rattle.link_replay.specs.SenderView.{SenderView, with_accepted}
use Rattle.link_replay.specs.Runs as sent
use Rattle.lane_core.specs.Content.{cargo_of}
use Rattle.link_crc.specs.declared.check.Check.{Check}
use Rattle.port_core.specs.declared.init.LinkState.{LinkState}
use Rattle.port_core.specs.declared.init.LinkState.TheVariants.{Inactive, Init1, Init2, Active}
use Rattle.port_core.specs.declared.dllp.LinkDllp.{LinkDllp}
use Rattle.port_core.specs.declared.fault.EnterRefusal.{EnterRefusal}
use Rattle.port_core.specs.declared.fault.EnterRefusal.TheVariants as refusals
use Rattle.port_core.specs.declared.incoming.Received.TheVariants as arrivals
use Rattle.port_core.specs.declared.port.Choice.{Choice}
use Rattle.port_core.specs.declared.port.Choice.TheVariants as choices
use Rattle.port_core.specs.Init.{is_up}
use Rattle.port_core.specs.Incoming.{number_in, is_good, received_under, reception_on, received_on, after_packet}
use Rattle.port_core.specs.Dues.{due_received}
use Rattle.port_core.specs.Port.{PortView, new_port, risen, state_after, refusal_in, refusal_of, after_choice, choice_of, refreshed_in}
use Rattle.port_core.specs.Runs.{Call, Up, Down, Receive, ReceiveDllp, Free, Enter, Next, Refresh, Replay, Retrained, IsCall, AreCalls, Story, story_of, accepted_if, holding_in, overflowing_in, without_held, with_entered, with_port, after_call, after_calls}
use Rattle.port_core.proofs.Longer.{numbers_of, Receives, receives-nothing, receives-more, Sends, sends-nothing, sends-more, sends-on}
use Rattle.port_core.proofs.Dllps.{is_active, Keeps, keeps-dllp, IsSpelled}

pub record IsStory (s : Story) : Type 0 where
  pub receives : Receives s.port.incoming.receiving s.accepted
  pub sends : Sends s.port.sender.sending s.entered
  pub before : is_up s.port.state ≡ false → s.accepted ≡ []
  pub closed : is_active s.port.state ≡ false → s.entered ≡ []

-- a port that neither received nor sent anything
pub new-story : (ours : LaneCredits) → IsStory (story_of (new_port ours))
new-story ours = record { receives = receives-nothing; sends = sends-nothing; before = λ e. refl; closed = λ e. refl }

risen-story : (ours : LaneCredits) → IsStory (story_of (risen ours))
risen-story ours = record { receives = receives-nothing; sends = sends-nothing; before = λ e. refl; closed = λ e. refl }

-- a call that keeps what was accepted and entered
kept : (s : Story) (q : PortView) (dllps : List LinkDllp) → Keeps s.port q → IsStory s → IsStory (record s { port = q; heard = dllps })
kept s q dllps k i =
    record {
      receives = subst (λ e. Receives e.receiving s.accepted) (sym k.incoming) i.receives;
      sends = k.sends s.entered i.sends;
      before = λ e. i.before (k.up e);
      closed = λ e. i.closed (k.active e);
    }

-- ---- a packet arrives

numbers-under : (r : Reception) (l : CreditLedger) (packet : List ℕ)
    → numbers_of (accepted_if (received_under r l packet) packet) ≡ received_runs.handed_up_if r (number_in packet)
numbers-under receptions.Accept l packet = refl
numbers-under receptions.Duplicate l packet = refl
numbers-under receptions.NakNow l packet = refl
numbers-under receptions.Quiet l packet = refl

up-good : (good : Bool) (state : LinkState) → is_up (state_after state good) ≡ false → is_up state ≡ false
up-good false state h = h
up-good true Inactive h = refl
up-good true Init1 h = refl
up-good true Init2 h = cc
up-good true Active h = cc

active-good : (good : Bool) (state : LinkState) → is_active (state_after state good) ≡ false → is_active state ≡ false
active-good false state h = h
active-good true Inactive h = refl
active-good true Init1 h = refl
active-good true Init2 h = refl
active-good true Active h = cc

-- `after_call` of a packet, by whether the link is up
abbrev pub packet_by : Bool → Story → List ℕ → Check → Story
packet_by b s packet check =
    let r = if b then received_on s.port.incoming packet check else arrivals.Dropped in
    record {
      port =
          if b then
          record {
            ours = s.port.ours;
            state = state_after s.port.state (is_good packet check);
            peer = s.port.peer;
            sender = s.port.sender;
            given = s.port.given;
            incoming = after_packet s.port.incoming packet check;
            due = due_received s.port.ours s.port.due (received_on s.port.incoming packet check);
          }
          else s.port;
      accepted = s.accepted ++ accepted_if r packet;
      held = s.held ++ holding_in r;
      freed = s.freed ++ overflowing_in r;
      entered = s.entered;
      used = s.used;
      heard = s.heard;
    }

packet-story : (b : Bool) (s : Story) (packet : List ℕ) (check : Check) → is_up s.port.state ≡ b → IsStory s → IsStory (packet_by b s packet check)
packet-story true s packet check e i =
    record {
      receives =
          receives-more s.port.incoming.receiving s.accepted (accepted_if (received_on s.port.incoming packet check) packet)
          (received_runs.Receive (number_in packet) (is_good packet check)) i.receives
          (numbers-under (reception_on s.port.incoming packet check) s.port.incoming.ledger packet);
      sends = i.sends;
      before = λ h. cc (e, up-good (is_good packet check) s.port.state h);
      closed = λ h. i.closed (active-good (is_good packet check) s.port.state h);
    }
packet-story false s packet check e i =
    record {
      receives = rw (append-nil s.accepted) i.receives;
      sends = i.sends;
      before = λ h. rw (append-nil s.accepted) (i.before h);
      closed = i.closed;
    }

-- ---- credits go back

freed-story : (s : Story) (place : ℕ) (o : Option Need) → IsStory s → IsStory (without_held s place o)
freed-story s place None i = i
freed-story s place (Some need) i = record { receives = i.receives; sends = i.sends; before = i.before; closed = i.closed }

-- ---- a packet enters

not-closed : (state : LinkState) → state ≡ Active → is_active state ≡ false → ⊥
not-closed Inactive e x = cc
not-closed Init1 e x = cc
not-closed Init2 e x = cc
not-closed Active e x = cc

pub not-active : (state : LinkState) → (state ≡ Active → ⊥) → is_active state ≡ false
not-active Inactive ne = refl
not-active Init1 ne = refl
not-active Init2 ne = refl
not-active Active ne = absurd (ne refl)

by-window : (w : Bool) (kept : ℕ) → nat_le 2047 kept ≡ w → (if w then Some refusals.WindowFull else None) ≡ None → nat_lt kept 2047 ≡ true
by-window true kept e h = cc
by-window false kept e h = grind (arith, nat_tests)

free-window : (b : Bool) (kept : ℕ) (need : Need) → (if b then (if nat_le 2047 kept then Some refusals.WindowFull else None) else Some (refusals.NoCredits need.class)) ≡ None
    → nat_lt kept 2047 ≡ true
free-window true kept need h = by-window (nat_le 2047 kept) kept refl h
free-window false kept need h = cc

if-true : {A : Type 0} (b : Bool) (x y : A) → b ≡ true → (if b then x else y) ≡ x
if-true true x y e = refl
if-true false x y e = cc

entered-at : (state : LinkState) (s : Story) (t : TlpView) → s.port.state ≡ state → refusal_in state s.port.sender (need_of t) ≡ None → IsStory s
    → IsStory (with_entered s t None)
entered-at Inactive s t e h i = cc
entered-at Init1 s t e h i = cc
entered-at Init2 s t e h i = cc
entered-at Active s t e h i =
    let sending = s.port.sender.sending in
    let cargo = cargo_of t 0 in
    let lt = free-window (gate_covers s.port.sender.gate (need_of t)) (length sending.kept) (need_of t) h in
    record {
      receives = i.receives;
      sends =
          subst (λ (v : SenderView). Sends v (s.entered ++ cargo ∷ [])) (if-true (nat_lt (length sending.kept) 2047) (with_accepted sending cargo) sending lt)
          (sends-more sending s.entered (cargo ∷ []) (sent.Accept cargo) tt i.sends (if-true (nat_lt (length sending.kept) 2047) (cargo ∷ []) [] lt));
      before = i.before;
      closed = λ x. absurd (not-closed s.port.state e x);
    }

entered-story : (o : Option EnterRefusal) (s : Story) (t : TlpView) → refusal_of s.port (need_of t) ≡ o → IsStory s → IsStory (with_entered s t o)
entered-story (Some refusal) s t e i = i
entered-story None s t e i = entered-at s.port.state s t refl e i

-- ---- something is sent

sent-story : (choice : Choice) (s : Story) → IsStory s → IsStory (with_port s (after_choice s.port choice))
sent-story choices.Nothing s i = i
sent-story choices.Answer s i =
    record {
      receives = rw (sym (append-nil s.accepted)) (receives-more s.port.incoming.receiving s.accepted [] received_runs.Acknowledge i.receives refl);
      sends = i.sends;
      before = i.before;
      closed = i.closed;
    }
sent-story (choices.Init class) s i = record { receives = i.receives; sends = i.sends; before = i.before; closed = i.closed }
sent-story (choices.Update class) s i = record { receives = i.receives; sends = i.sends; before = i.before; closed = i.closed }
sent-story choices.Packet s i =
    record { receives = i.receives; sends = sends-on s.port.sender.sending s.entered sent.Transmit tt i.sends refl; before = i.before; closed = i.closed }

refreshed-story : (state : LinkState) (s : Story) → IsStory s → IsStory (with_port s (refreshed_in state s.port))
refreshed-story Inactive s i = i
refreshed-story Init1 s i = record { receives = i.receives; sends = i.sends; before = i.before; closed = i.closed }
refreshed-story Init2 s i = record { receives = i.receives; sends = i.sends; before = i.before; closed = i.closed }
refreshed-story Active s i = record { receives = i.receives; sends = i.sends; before = i.before; closed = i.closed }

-- ---- any call

call-story : IsSpelled → (s : Story) (call : Call) → IsCall call → IsStory s → IsStory (after_call s call)
call-story spelled s Up is i = risen-story s.port.ours
call-story spelled s Down is i = new-story s.port.ours
call-story spelled s (Receive packet check) is i = packet-story (is_up s.port.state) s packet check refl i
call-story spelled s (ReceiveDllp bytes check) is i = kept s _ _ (keeps-dllp spelled s.port bytes check is) i
call-story spelled s (Free place) is i = freed-story s place (slice_get s.held place) i
call-story spelled s (Enter t) is i = entered-story (refusal_of s.port (need_of t)) s t refl i
call-story spelled s Next is i = sent-story (choice_of s.port) s i
call-story spelled s Refresh is i = refreshed-story s.port.state s i
call-story spelled s Replay is i =
    record { receives = i.receives; sends = sends-on s.port.sender.sending s.entered sent.Timer tt i.sends refl; before = i.before; closed = i.closed }
call-story spelled s Retrained is i =
    record { receives = i.receives; sends = sends-on s.port.sender.sending s.entered sent.Retrained tt i.sends refl; before = i.before; closed = i.closed }

pub calls-story : IsSpelled → (s : Story) (calls : List Call) → AreCalls calls → IsStory s → IsStory (after_calls s calls)
calls-story spelled s [] are i = i
calls-story spelled s (call ∷ calls) are i = calls-story spelled (after_call s call) calls are.1 (call-story spelled s call are.0 i)
