-- What is recorded of a device behind its end of a link that is asked line by line.
use Rattle.std.proofs.Common.{◌≡◌, ◌∙◌, ℕ, zero, suc, ◌-◌, Bool, true, false, cond, List, [], ◌∷◌, Option, Some, None, option_map, Result, Ok, Err, refl, sym, ap, subst, arith}
use Rattle.std.specs.Prelude.{fold, codes, IsSome, bytes_eq, take, drop, nat_lt, length}
use Rattle.hex.specs.Hex.{decode_of}
use Rattle.hex.specs.declared.error.FromHexError.{FromHexError}
use Rattle.hex.proofs.HexLemmas.{decode_of-ok}
use Rattle.tlp_core.specs.Bits.{IsBytes}
use Rattle.tlp_core.specs.TlpView.{TlpView}
use Rattle.flow_control.specs.declared.limits.LaneCredits.{LaneCredits}
use Rattle.link_crc.specs.Checks.{lcrc_check_of, framed}
use Rattle.link_crc.specs.declared.check.Check.{Check}
use Rattle.port_core.specs.declared.fault.EnterRefusal.{EnterRefusal}
use Rattle.port_core.specs.declared.incoming.Received.{Received}
use Rattle.port_core.specs.declared.incoming.Received.TheVariants as arrivals
use Rattle.port_core.specs.Incoming.{tlp_in}
use Rattle.port_core.specs.Port.{PortView}
use Rattle.port_core.specs.Port as port
use Rattle.config_core.specs.SetupView.{SetupView}
use Rattle.endpoint_core.specs.Classes.{becomes}
use Rattle.endpoint_core.specs.EndpointView.{EndpointView}
use Rattle.endpoint_core.specs.Steps as device
use Rattle.endpoint_core.specs.Runs as devices
use Rattle.endpoint_log.specs.LogView.{LogView}
use Rattle.endpoint_log.specs.Steps.{new_log, came}
use Rattle.endpoint_log.specs.Steps as log
use Rattle.endpoint_laws.specs.Runs as laws
use Rattle.endpoint_laws.specs.Runs.{AreBytes}
use Rattle.linked_endpoint.specs.LinkedView.{LinkedView}
use Rattle.linked_endpoint.specs.Linked.{is_taken, after_arrival, may_act, acted, is_last, given_back, entered_with, refusal_of}
use Rattle.linked_endpoint.specs.Runs.{Call, Up, Down, Receive, ReceiveDllp, Act, Enter, Next, Refresh, Replay, Retrained, after_call, AreTurns, entered_unless}
use Rattle.linked_endpoint.specs.Settling.{logged, logged_all, settling}
use Rattle.hex_text.specs.Line.{digits_of}
use Rattle.hex_text.specs.Lines.{lines_of, bare, said, is_skipped}
use Rattle.line_loop.specs.Run.{Answer, Run, after_line, answer_to, new_run}
use Rattle.trace_text.specs.Texts.{trace_text}
use Rattle.endpoint_engine.specs.Recorded.{IsRecorded}
use Rattle.linked_engine.specs.declared.frames.Mark.{Mark}
use Rattle.linked_engine.specs.declared.frames.Mark.TheVariants as marks
use Rattle.linked_engine.specs.Crcs.{marked_packet, marked_dllp, without_last, dllp_check}
use Rattle.linked_engine.specs.Traces.{asked, trace_after}
use Rattle.linked_engine.specs.Lines.{LinkLines, nothing, no_line, called, did, settled, received, reset_by, answer_arrival, answer_checked, answer_packet_bytes, answer_packet, answer_hearing, answer_dllp_bytes, answer_dllp, answer_next, answer_up, answer_down, answer_refresh, answer_replay, answer_retrained, answer_state, answer_trace, answer_timer, answer_link, answer_word, is_packet, is_dllp, answer_line, link_responses, new_lines}

-- it is traced, and recorded
pub record IsTraced (s : SetupView) (u : LinkLines) : Type 0 where
  pub recording : LogView
  pub log : u.log ≡ Some recording
  pub is : IsRecorded s u.linked.endpoint recording

-- the law of what is recorded, call by call
pub record Law : Type 0 where
  pub first : (s : SetupView) → IsRecorded s (device.new_endpoint s) (new_log s)
  pub next : (s : SetupView) (e : EndpointView) (l : LogView) (call : devices.Call) → IsRecorded s e l → AreBytes (call ∷ []) → IsRecorded s (devices.after_call e call) (laws.logged e l call)
  pub turns : (l : LinkedView) → AreTurns (settling l)

-- ---- one call

-- the device is as it was
kept : (s : SetupView) (u v : LinkLines) → v.linked.endpoint ≡ u.linked.endpoint → v.log ≡ u.log → IsTraced s u → IsTraced s v
kept s u v e l i = record { recording = i.recording; log = l ∙ i.log; is = subst (λ (x : EndpointView). IsRecorded s x i.recording) (sym e) i.is }

-- the device has a call
more : Law → (s : SetupView) (u v : LinkLines) (c : devices.Call) → v.linked.endpoint ≡ devices.after_call u.linked.endpoint c → v.log ≡ option_map (λ (l : LogView). laws.logged u.linked.endpoint l c) u.log
    → AreBytes (c ∷ []) → IsTraced s u → IsTraced s v
more law s u v c e l bytes i = record {
  recording = laws.logged u.linked.endpoint i.recording c;
  log = l ∙ ap (option_map (λ (l : LogView). laws.logged u.linked.endpoint l c)) i.log;
  is = subst (λ (x : EndpointView). IsRecorded s x (laws.logged u.linked.endpoint i.recording c)) (sym e) (law.next s u.linked.endpoint i.recording c i.is bytes);
}

-- ---- requests act

back : (b : Bool) (l : LinkedView) → (cond b (given_back l) l).endpoint ≡ l.endpoint
back true l = refl
back false l = refl

as_it_was : (o : Option LogView) → option_map (λ (l : LogView). l) o ≡ o
as_it_was None = refl
as_it_was (Some l) = refl

twice : (f g : LogView → LogView) (o : Option LogView) → option_map g (option_map f o) ≡ option_map (λ (l : LogView). g (f l)) o
twice f g None = refl
twice f g (Some l) = refl

acted_traced : Law → (s : SetupView) (u v : LinkLines) (b : Bool) → v.linked.endpoint ≡ (cond b (acted u.linked) u.linked).endpoint
    → v.log ≡ option_map (λ (l : LogView). cond b (log.acted u.linked.endpoint l) l) u.log → IsTraced s u → IsTraced s v
acted_traced law s u v true e l i =
    more law s u v devices.Act
    (e ∙ back (is_last u.linked.endpoint) (record u.linked { endpoint = device.acted u.linked.endpoint; held = device.next_completion u.linked.endpoint })) l tt i
acted_traced law s u v false e l i = kept s u v e (l ∙ as_it_was u.log) i

enters : (t : Option TlpView) (l : LinkedView) → (entered_with l t).endpoint ≡ l.endpoint
enters None l = refl
enters (Some t) l = refl

may_enter : (o : Option EnterRefusal) (l : LinkedView) → (entered_unless o l).endpoint ≡ l.endpoint
may_enter None l = enters l.held l
may_enter (Some r) l = refl

-- calls, one after the other
then_did : (s : SetupView) (call : Call) (calls : List Call) (u : LinkLines) → IsTraced s (did (did u (call ∷ [])) calls) → IsTraced s (did u (call ∷ calls))
then_did s call calls u i = kept s (did (did u (call ∷ [])) calls) (did u (call ∷ calls)) refl (sym (twice (logged u.linked call) (logged_all (after_call u.linked call) calls) u.log)) i

turns_traced : Law → (s : SetupView) (calls : List Call) (u : LinkLines) → AreTurns calls → IsTraced s u → IsTraced s (did u calls)
turns_traced law s [] u are i = kept s u (did u []) refl (as_it_was u.log) i
turns_traced law s (Act ∷ calls) u are i = then_did s Act calls u (turns_traced law s calls (did u (Act ∷ [])) are.1 (acted_traced law s u (did u (Act ∷ [])) (may_act u.linked) refl refl i))
turns_traced law s (Enter ∷ calls) u are i =
    then_did s Enter calls u (turns_traced law s calls (did u (Enter ∷ [])) are.1 (kept s u (did u (Enter ∷ [])) (may_enter (refusal_of u.linked) u.linked) (as_it_was u.log) i))
turns_traced law s (Up ∷ calls) u are i = absurd are.0
turns_traced law s (Down ∷ calls) u are i = absurd are.0
turns_traced law s (Receive packet check ∷ calls) u are i = absurd are.0
turns_traced law s (ReceiveDllp bytes check ∷ calls) u are i = absurd are.0
turns_traced law s (Next ∷ calls) u are i = absurd are.0
turns_traced law s (Refresh ∷ calls) u are i = absurd are.0
turns_traced law s (Replay ∷ calls) u are i = absurd are.0
turns_traced law s (Retrained ∷ calls) u are i = absurd are.0

-- ---- a packet arrives

behind : (packet : List ℕ) → IsBytes packet → IsBytes (tlp_in packet)
behind [] h = h
behind (a ∷ []) h = λ i. h (suc i)
behind (a ∷ b ∷ packet) h = λ i. h (suc (suc i))

first_of : (n : ℕ) (bytes : List ℕ) → IsBytes bytes → IsBytes (take n bytes)
first_of zero bytes h i = omega arith
first_of (suc n) [] h i = h i
first_of (suc n) (b ∷ bytes) h zero = h zero
first_of (suc n) (b ∷ bytes) h (suc i) = first_of n bytes (λ j. h (suc j)) i

arrived_traced : Law → (s : SetupView) (u v : LinkLines) (r : Received) (p : PortView) (tlp : List ℕ) → IsBytes tlp
    → v.linked.endpoint ≡ (after_arrival r u.linked p tlp).endpoint
    → v.log ≡ option_map (λ (l : LogView). cond (is_taken r) (came u.linked.endpoint.device (becomes tlp) l) l) u.log
    → IsTraced s u → IsTraced s v
arrived_traced law s u v (arrivals.Accepted need false) p tlp bytes e l i = more law s u v (devices.Take tlp) e l (bytes, tt) i
arrived_traced law s u v (arrivals.Accepted need true) p tlp bytes e l i = kept s u v e (l ∙ as_it_was u.log) i
arrived_traced law s u v arrivals.Dropped p tlp bytes e l i = kept s u v e (l ∙ as_it_was u.log) i
arrived_traced law s u v arrivals.Duplicate p tlp bytes e l i = kept s u v e (l ∙ as_it_was u.log) i
arrived_traced law s u v arrivals.NakNow p tlp bytes e l i = kept s u v e (l ∙ as_it_was u.log) i
arrived_traced law s u v arrivals.Quiet p tlp bytes e l i = kept s u v e (l ∙ as_it_was u.log) i

received_traced : Law → (s : SetupView) (u : LinkLines) (packet : List ℕ) (check : Check) → IsBytes packet → IsTraced s u → IsTraced s (received u packet check)
received_traced law s u packet check bytes i =
    arrived_traced law s u (received u packet check) (port.received u.linked.port packet check) (port.after_receive u.linked.port packet check) (tlp_in packet)
    (behind packet bytes) refl refl i

-- ---- one line

module _ (law : Law) (s : SetupView) where
  either : (b : Bool) (x y : Answer LinkLines) → IsTraced s x.state → IsTraced s y.state → IsTraced s (cond b x y).state
  either true x y p q = p
  either false x y p q = q

  settled_traced : (u : LinkLines) → IsTraced s u → IsTraced s (settled u)
  settled_traced u i = turns_traced law s (settling u.linked) u (law.turns u.linked) i

  arrival_traced : (u : LinkLines) (packet : List ℕ) (check : Check) → IsBytes packet → IsTraced s u → IsTraced s (answer_arrival u packet check).state
  arrival_traced u packet check bytes i = settled_traced (received u packet check) (received_traced law s u packet check bytes i)

  checked_traced : (u : LinkLines) (o : Option Check) (packet : List ℕ) → IsBytes packet → IsTraced s u → IsTraced s (answer_checked u o packet).state
  checked_traced u (Some check) packet bytes i = arrival_traced u packet check bytes i
  checked_traced u None packet bytes i = i

  packet_bytes_traced : (u : LinkLines) (r : Result (List ℕ) FromHexError) (mark : Mark) → ((b : List ℕ) → r ≡ Ok b → IsBytes b) → IsTraced s u → IsTraced s (answer_packet_bytes u r mark).state
  packet_bytes_traced u (Err e) mark are i = i
  packet_bytes_traced u (Ok b) (marks.Word check) are i = arrival_traced u b check (are b refl) i
  packet_bytes_traced u (Ok b) (marks.Framing framing) are i =
      checked_traced u (framed (lcrc_check_of b) framing) (without_last 4 b) (first_of (length b - 4) b (are b refl)) i

  packet_traced : (u : LinkLines) (o : Option (List ℕ × Mark)) → IsTraced s u → IsTraced s (answer_packet u o).state
  packet_traced u None i = i
  packet_traced u (Some m) i = packet_bytes_traced u (decode_of (digits_of m.0)) m.1 (λ b e. (decode_of-ok (digits_of m.0) b e).3) i

  hearing_traced : (u : LinkLines) (bytes : List ℕ) (check : Check) → IsTraced s u → IsTraced s (answer_hearing u bytes check).state
  hearing_traced u bytes check i = settled_traced (called u (ReceiveDllp bytes check)) (kept s u (called u (ReceiveDllp bytes check)) refl refl i)

  dllp_bytes_traced : (u : LinkLines) (r : Result (List ℕ) FromHexError) (check : Check) → IsTraced s u → IsTraced s (answer_dllp_bytes u r check).state
  dllp_bytes_traced u (Err e) check i = i
  dllp_bytes_traced u (Ok b) check i =
      either u.has_crc (answer_hearing u (take 4 b) (dllp_check b)) (answer_hearing u b check) (hearing_traced u (take 4 b) (dllp_check b) i) (hearing_traced u b check i)

  dllp_traced : (u : LinkLines) (o : Option (List ℕ × Check)) → IsTraced s u → IsTraced s (answer_dllp u o).state
  dllp_traced u None i = i
  dllp_traced u (Some m) i = dllp_bytes_traced u (decode_of (digits_of m.0)) m.1 i

  trace_traced : (u : LinkLines) (o : Option LogView) → IsTraced s u → IsTraced s (answer_trace u o).state
  trace_traced u None i = i
  trace_traced u (Some l) i = i

  timer_traced : (u : LinkLines) (line : List ℕ) → IsTraced s u → IsTraced s (answer_timer u line).state
  timer_traced u line i =
      either (bytes_eq line (codes "refresh")) (answer_refresh u) _ (kept s u (answer_refresh u).state refl refl i)
      (either (bytes_eq line (codes "replay")) (answer_replay u) _ (kept s u (answer_replay u).state refl refl i)
      (either (bytes_eq line (codes "retrained")) (answer_retrained u) (no_line u) (kept s u (answer_retrained u).state refl refl i) i))

  link_traced : (u : LinkLines) (line : List ℕ) → IsTraced s u → IsTraced s (answer_link u line).state
  link_traced u line i =
      either (bytes_eq line (codes "up")) (answer_up u) _ (more law s u (reset_by u Up) devices.Reset refl refl tt i)
      (either (bytes_eq line (codes "down")) (answer_down u) (answer_timer u line) (more law s u (reset_by u Down) devices.Reset refl refl tt i) (timer_traced u line i))

  word_traced : (u : LinkLines) (line : List ℕ) → IsTraced s u → IsTraced s (answer_word u line).state
  word_traced u line i =
      either (bytes_eq line (codes "next")) (answer_next u) _ (kept s u (answer_next u).state refl refl i)
      (either (bytes_eq line (codes "state")) (answer_state u) _ i
      (either (bytes_eq line (codes "trace")) (answer_trace u u.log) (answer_link u line) (trace_traced u u.log i) (link_traced u line i)))

  line_traced : (u : LinkLines) (line : List ℕ) → IsTraced s u → IsTraced s (answer_line u line).state
  line_traced u line i =
      either (is_skipped line) (nothing u) _ i
      (either (is_packet line) (answer_packet u (marked_packet u.has_crc (drop 7 line))) _ (packet_traced u (marked_packet u.has_crc (drop 7 line)) i)
      (either (is_dllp line) (answer_dllp u (marked_dllp u.has_crc (drop 5 line))) (answer_word u line) (dllp_traced u (marked_dllp u.has_crc (drop 5 line)) i) (word_traced u line i)))

  said_traced : (u : LinkLines) (line : List ℕ) → IsTraced s u → IsTraced s (answer_to link_responses u line).state
  said_traced u line i = either (nat_lt 512 (length (bare line))) (no_line u) (answer_line u (said line)) i (line_traced u (said line) i)

  -- ---- all lines

  lines_traced : (lines : List (List ℕ)) (r : Run LinkLines) → IsTraced s r.state → IsTraced s (fold (after_line link_responses) r lines).state
  lines_traced [] r i = i
  lines_traced (line ∷ lines) r i = lines_traced lines (after_line link_responses r line) (said_traced r.state line i)

  pub traced : (ours : LaneCredits) (has_crc : Bool) (input : List ℕ) → IsTraced s (asked s ours has_crc input)
  traced ours has_crc input =
      lines_traced (lines_of input) (new_run (new_lines s ours has_crc true)) (record { recording = new_log s; log = refl; is = law.first s })

-- ---- what is told

some_is : {X : Type 0} (x y : X) → Some x ≡ Some y → x ≡ y
some_is x y e = cc

-- what is recorded then
pub recorded_as : Law → (s : SetupView) (ours : LaneCredits) (has_crc : Bool) (input : List ℕ) (l : LogView) → (asked s ours has_crc input).log ≡ Some l
    → IsRecorded s (asked s ours has_crc input).linked.endpoint l
recorded_as law s ours has_crc input l e =
    let i : IsTraced s (asked s ours has_crc input) = traced law s ours has_crc input in
    subst (IsRecorded s (asked s ours has_crc input).linked.endpoint) (some_is i.recording l (sym i.log ∙ e)) i.is

is_some_by : {X : Type 0} (o : Option X) (x : X) → o ≡ Some x → IsSome o
is_some_by None x e = absurd (cc)
is_some_by (Some y) x e = refl

pub is_traced : Law → (s : SetupView) (ours : LaneCredits) (has_crc : Bool) (input : List ℕ) → IsSome (asked s ours has_crc input).log
is_traced law s ours has_crc input =
    let i : IsTraced s (asked s ours has_crc input) = traced law s ours has_crc input in is_some_by (asked s ours has_crc input).log i.recording i.log

pub told_after : (s : SetupView) (ours : LaneCredits) (has_crc : Bool) (input : List ℕ) (l : LogView) → (asked s ours has_crc input).log ≡ Some l
    → trace_after s ours has_crc input ≡ trace_text l.claim
told_after s ours has_crc input l e = ap (λ (o : Option LogView). (answer_trace (asked s ours has_crc input) o).text) e
