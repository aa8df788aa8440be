-- What was acknowledged was given out, after any calls.
use Rattle.std.proofs.Common.{◌≡◌, ℕ, ◌+◌, ◌-◌, ◌≤◌, Bool, true, false, List, [], ◌∷◌, ◌++◌, length, drop, Option, Some, None, Result, Ok, Err, refl, sym, subst, arith}
use Rattle.std.specs.Prelude.{◌||◌, not, nat_le, nat_lt, slice_get, if◌then◌else◌}
use Rattle.std.proofs.lemmas.List.{length-drop, length-append}
use Rattle.std.proofs.lemmas.Bool.Decides.{nat_tests}
use Rattle.dllp_core.specs.declared.packet.Class.{Class}
use Rattle.dllp_core.specs.declared.packet.Dllp.{Dllp}
use Rattle.dllp_core.specs.declared.packet.Dllp.TheVariants.{Ack, Nak, Update}
use Rattle.dllp_core.specs.declared.fault.DllpFault.{DllpFault}
use Rattle.tlp_core.specs.TlpView.{TlpView}
use Rattle.flow_control.specs.declared.needs.Need.{Need}
use Rattle.flow_control.specs.declared.limits.LaneCredits.{LaneCredits}
use Rattle.flow_control.specs.Needs.{need_of}
use Rattle.link_crc.specs.declared.check.Check.{Check}
use Rattle.link_crc.specs.Checks.{passed}
use Rattle.link_replay.specs.CargoView.{CargoView}
use Rattle.link_replay.specs.SenderView.{SenderView, is_outstanding, acknowledged, from_oldest}
use Rattle.lane_core.specs.Content.{cargo_of}
use Rattle.port_core.specs.declared.init.LinkState.{LinkState}
use Rattle.port_core.specs.declared.init.LinkState.TheVariants.{Inactive, Init1, Init2, Active}
use Rattle.port_core.specs.declared.init.Advertised.{Advertised}
use Rattle.port_core.specs.declared.init.FirstCredits.{FirstCredits}
use Rattle.port_core.specs.declared.dllp.InitStage.{InitStage}
use Rattle.port_core.specs.declared.dllp.InitStage.TheVariants.{First, Second}
use Rattle.port_core.specs.declared.dllp.LinkDllp.{LinkDllp}
use Rattle.port_core.specs.declared.dllp.LinkDllp.TheVariants.{Init, Other}
use Rattle.port_core.specs.declared.fault.EnterRefusal.{EnterRefusal}
use Rattle.port_core.specs.declared.port.Choice.{Choice}
use Rattle.port_core.specs.declared.port.Choice.TheVariants as choices
use Rattle.port_core.specs.Init.{fi1, is_allowed, is_up, advertised_with}
use Rattle.port_core.specs.Dllps.{link_reading}
use Rattle.port_core.specs.Outgoing.{may_learn}
use Rattle.port_core.specs.Port.{PortView, new_port, recorded_as, after_init_in, count_to, is_given, after_up, after_read, is_inactive, refusal_of, greater, after_choice, after_packet_sent, choice_of, refreshed_in}
use Rattle.port_core.specs.Runs.{Call, Up, Down, Receive, ReceiveDllp, Free, Enter, Next, Refresh, Replay, Retrained, Story, story_of, without_held, with_entered, with_port, after_call, after_calls, given_by, given_after, given_calls}
use Rattle.port_core.proofs.Stories.{packet_by}

-- of so many packets that were entered, so many were given out
pub record Counts (sending : SenderView) (given entered n : ℕ) : Type 0 where
  pub total : n + length sending.kept ≡ entered + given
  pub within : given ≤ length sending.kept
  pub before : sending.place ≤ given
  pub few : length sending.kept ≤ entered

abbrev OfPort : PortView → ℕ → ℕ → Type 0
OfPort p entered n = Counts p.sender.sending p.given entered n

abbrev OfStory : Story → ℕ → Type 0
OfStory s n = OfPort s.port (length s.entered) n

of-if : (b : Bool) (p q : PortView) (entered n : ℕ) → (b ≡ true → OfPort p entered n) → OfPort q entered n → OfPort (if b then p else q) entered n
of-if true p q entered n k l = k refl
of-if false p q entered n k l = l

-- ---- an Ack or Nak

total-less : (n d kept entered given : ℕ) → d ≤ given → given ≤ kept → n + kept ≡ entered + given → n + (kept - d) ≡ entered + (given - d)
total-less n d kept entered given a b c = omega (arith, a, b, c)

less : (n d m : ℕ) → n ≤ m → n - d ≤ m - d
less n d m h = omega (arith, h)

fewer : (n d m : ℕ) → n ≤ m → n - d ≤ m
fewer n d m h = omega (arith, h)

at-most : (m n : ℕ) → nat_le m n ≡ true → m ≤ n
at-most m n h = grind (arith, nat_tests)

holds : (m n : ℕ) → m ≤ n → nat_le m n ≡ true
holds m n h = grind (arith, nat_tests)

through : (d given kept : ℕ) → d ≤ given → given ≤ kept → d ≤ kept
through d given kept a b = omega (arith, a, b)

counts-less : (s : SenderView) (number d given entered n : ℕ) → d ≡ d → d ≤ given → (kept : List CargoView) → length kept ≡ length s.kept - d → (place : ℕ) → place ≤ given - d
    → Counts s given entered n → (t : SenderView) → t.kept ≡ kept → t.place ≡ place → Counts t (given - d) entered n
counts-less s number d given entered n same le kept len place low k t is at =
    record {
      total = rw (is, len) (total-less n d (length s.kept) entered given le k.within k.total);
      within = rw (is, len) (less given d (length s.kept) k.within);
      before = rw at low;
      few = rw (is, len) (fewer (length s.kept) d entered k.few);
    }

picked : {A : Type 0} (b : Bool) (x y : A) → b ≡ true → (if b then x else y) ≡ x
picked true x y e = refl
picked false x y e = cc

acked-counts : (p : PortView) (number entered n : ℕ) → is_given p number ≡ true → OfPort p entered n
    → Counts (acknowledged p.sender.sending number) (p.given - count_to p number) entered n
acked-counts p number entered n e k =
    counts-less p.sender.sending number (count_to p number) p.given entered n refl (at-most _ _ e)
    (drop (count_to p number) p.sender.sending.kept) (length-drop (count_to p number) p.sender.sending.kept)
    (p.sender.sending.place - count_to p number) (less p.sender.sending.place (count_to p number) p.given k.before) k
    (acknowledged p.sender.sending number) refl refl

expected : (p : PortView) (number entered n : ℕ) → is_given p number ≡ true → OfPort p entered n → is_outstanding p.sender.sending number ≡ true
expected p number entered n e k = holds _ _ (through (count_to p number) p.given (length p.sender.sending.kept) (at-most _ _ e) k.within)

from-oldest : (s : SenderView) (given entered n : ℕ) → Counts s given entered n → Counts (from_oldest s) given entered n
from-oldest s given entered n k = record { total = k.total; within = k.within; before = omega arith; few = k.few }

up-counts : (p : PortView) (d : Dllp) (entered n : ℕ) → OfPort p entered n → OfPort (after_up p d) entered n
up-counts p (Ack number) entered n k =
    of-if (is_given p number) _ p entered n
    (λ e. subst (λ (s : SenderView). Counts s (p.given - count_to p number) entered n)
    (sym (picked (is_outstanding p.sender.sending number) (acknowledged p.sender.sending number) p.sender.sending (expected p number entered n e k)))
    (acked-counts p number entered n e k)) k
up-counts p (Nak number) entered n k =
    of-if (is_given p number) _ p entered n
    (λ e. subst (λ (s : SenderView). Counts s (p.given - count_to p number) entered n)
    (sym (picked (is_outstanding p.sender.sending number) (from_oldest (acknowledged p.sender.sending number)) p.sender.sending (expected p number entered n e k)))
    (from-oldest (acknowledged p.sender.sending number) (p.given - count_to p number) entered n (acked-counts p number entered n e k))) k
up-counts p (Update class header units) entered n k = of-if (may_learn p.sender.gate class header units) _ p entered n (λ e. k) k

-- ---- a DLLP

recorded-counts : (p : PortView) (peer : Advertised) (entered n : ℕ) → OfPort p entered n → OfPort (recorded_as p peer) entered n
recorded-counts p peer entered n k = of-if (fi1 peer) _ _ entered n (λ e. k) k

init-counts : (state : LinkState) (p : PortView) (stage : InitStage) (class : Class) (first : FirstCredits) (entered n : ℕ) → OfPort p entered n
    → OfPort (after_init_in state p stage class first) entered n
init-counts Inactive p stage class first entered n k = k
init-counts Init1 p stage class first entered n k =
    of-if (is_allowed first) _ p entered n (λ e. recorded-counts p (advertised_with p.peer class first) entered n k) k
init-counts Init2 p First class first entered n k = k
init-counts Init2 p Second class first entered n k = k
init-counts Active p stage class first entered n k = k

read-counts : (p : PortView) (r : Result LinkDllp DllpFault) (entered n : ℕ) → OfPort p entered n → OfPort (after_read p r) entered n
read-counts p (Ok (Init stage class first)) entered n k = init-counts p.state p stage class first entered n k
read-counts p (Ok (Other d)) entered n k = of-if (is_up p.state) _ p entered n (λ e. up-counts p d entered n k) k
read-counts p (Err fault) entered n k = k

-- ---- what is sent

greater-place : (n kept entered given place : ℕ) → kept ≤ entered → n + kept ≡ entered + given → greater n (entered - kept + place) + kept ≡ entered + greater given place
greater-place n kept entered given place a b = by (nat_le given place) refl
  where
    by : (w : Bool) → nat_le given place ≡ w → greater n (entered - kept + place) + kept ≡ entered + greater given place
    by w e = grind (arith, nat_tests, a, b, e)

greater-within : (given place kept : ℕ) → given ≤ kept → place ≤ kept → greater given place ≤ kept
greater-within given place kept a b = grind (arith, nat_tests)

greater-least : (given place : ℕ) → place ≤ greater given place
greater-least given place = grind (arith, nat_tests)

moves : (stopped : Bool) (place kept : ℕ) → place ≤ kept → (if stopped then place else (if nat_lt place kept then place + 1 else place)) ≤ kept
moves true place kept h = h
moves false place kept h = by (nat_lt place kept) refl
  where
    by : (w : Bool) → nat_lt place kept ≡ w → (if w then place + 1 else place) ≤ kept
    by true e = grind (arith, nat_tests)
    by false e = h

most : (a b c : ℕ) → a ≤ b → b ≤ c → a ≤ c
most a b c h k = omega (arith, h, k)

sent-counts : (choice : Choice) (s : Story) (n : ℕ) → OfStory s n → OfStory (with_port s (after_choice s.port choice)) (given_by choice s n)
sent-counts choices.Nothing s n k = k
sent-counts choices.Answer s n k = record { total = k.total; within = k.within; before = k.before; few = k.few }
sent-counts (choices.Init class) s n k = record { total = k.total; within = k.within; before = k.before; few = k.few }
sent-counts (choices.Update class) s n k = record { total = k.total; within = k.within; before = k.before; few = k.few }
sent-counts choices.Packet s n k =
    let place = (after_packet_sent s.port).sender.sending.place in
    let kept = length s.port.sender.sending.kept in
    let low = moves s.port.sender.sending.stopped s.port.sender.sending.place kept (most s.port.sender.sending.place s.port.given kept k.before k.within) in
    record {
      total = greater-place n kept (length s.entered) s.port.given place k.few k.total;
      within = greater-within s.port.given place kept k.within low;
      before = greater-least s.port.given place;
      few = k.few;
    }

-- ---- the other calls

packet-counts : (b : Bool) (s : Story) (packet : List ℕ) (check : Check) (n : ℕ) → OfStory s n → OfStory (packet_by b s packet check) n
packet-counts true s packet check n k = k
packet-counts false s packet check n k = k

freed-counts : (o : Option Need) (s : Story) (place n : ℕ) → OfStory s n → OfStory (without_held s place o) n
freed-counts None s place n k = k
freed-counts (Some need) s place n k = k

one-more : (xs : List CargoView) (x : CargoView) → length (xs ++ x ∷ []) ≡ length xs + 1
one-more xs x = length-append xs (x ∷ [])

more-total : (n kept entered given : ℕ) → n + kept ≡ entered + given → n + (kept + 1) ≡ entered + 1 + given
more-total n kept entered given h = omega (arith, h)

wider : (m n : ℕ) → m ≤ n → m ≤ n + 1
wider m n h = omega (arith, h)

both : (m n : ℕ) → m ≤ n → m + 1 ≤ n + 1
both m n h = omega (arith, h)

entered-counts : (o : Option EnterRefusal) (s : Story) (t : TlpView) (n : ℕ) → OfStory s n → OfStory (with_entered s t o) n
entered-counts (Some refusal) s t n k = k
entered-counts None s t n k =
    let kept = s.port.sender.sending.kept in
    record {
      total = rw (one-more kept (cargo_of t 0), one-more s.entered (cargo_of t 0)) (more-total n (length kept) (length s.entered) s.port.given k.total);
      within = rw (one-more kept (cargo_of t 0)) (wider s.port.given (length kept) k.within);
      before = k.before;
      few = rw (one-more kept (cargo_of t 0), one-more s.entered (cargo_of t 0)) (both (length kept) (length s.entered) k.few);
    }

refreshed-counts : (state : LinkState) (s : Story) (n : ℕ) → OfStory s n → OfStory (with_port s (refreshed_in state s.port)) n
refreshed-counts Inactive s n k = k
refreshed-counts Init1 s n k = k
refreshed-counts Init2 s n k = k
refreshed-counts Active s n k = k

nothing-given : (ours : LaneCredits) → OfStory (story_of (new_port ours)) 0
nothing-given ours = record { total = refl; within = omega arith; before = omega arith; few = omega arith }

call-counts : (s : Story) (call : Call) (n : ℕ) → OfStory s n → OfStory (after_call s call) (given_after s n call)
call-counts s Up n k = record { total = refl; within = omega arith; before = omega arith; few = omega arith }
call-counts s Down n k = nothing-given s.port.ours
call-counts s (Receive packet check) n k = packet-counts (is_up s.port.state) s packet check n k
call-counts s (ReceiveDllp bytes check) n k =
    of-if (not (passed check) || is_inactive s.port.state) s.port _ (length s.entered) n (λ e. k) (read-counts s.port (link_reading bytes) (length s.entered) n k)
call-counts s (Free place) n k = freed-counts (slice_get s.held place) s place n k
call-counts s (Enter t) n k = entered-counts (refusal_of s.port (need_of t)) s t n k
call-counts s Next n k = sent-counts (choice_of s.port) s n k
call-counts s Refresh n k = refreshed-counts s.port.state s n k
call-counts s Replay n k = from-oldest s.port.sender.sending s.port.given (length s.entered) n k
call-counts s Retrained n k = record { total = k.total; within = k.within; before = k.before; few = k.few }

calls-counts : (s : Story) (calls : List Call) (n : ℕ) → OfStory s n → OfStory (after_calls s calls) (given_calls s n calls)
calls-counts s [] n k = k
calls-counts s (call ∷ calls) n k = calls-counts (after_call s call) calls (given_after s n call) (call-counts s call n k)

acknowledged-most : (n kept entered given : ℕ) → n + kept ≡ entered + given → given ≤ kept → entered ≤ n + kept
acknowledged-most n kept entered given h k = omega (arith, h)

pub was_given : (ours : LaneCredits) (calls : List Call)
    → length (after_calls (story_of (new_port ours)) calls).entered
    ≤ given_calls (story_of (new_port ours)) 0 calls + length (after_calls (story_of (new_port ours)) calls).port.sender.sending.kept
was_given ours calls =
    let k = calls-counts (story_of (new_port ours)) calls 0 (nothing-given ours) in
    acknowledged-most _ _ _ _ k.total k.within
