-- What is recorded of an endpoint behind its link is what is recorded of its device over the calls that it had.
use Rattle.std.proofs.Common.{◌≡◌, ◌∙◌, ℕ, suc, Bool, true, false, cond, List, [], ◌∷◌, ◌++◌, Option, Some, None, refl, sym, ap, subst}
use Rattle.tlp_core.specs.Bits.{IsBytes}
use Rattle.tlp_core.specs.TlpView.{TlpView}
use Rattle.history_words.specs.Claim.{Claim}
use Rattle.flow_control.specs.declared.limits.LaneCredits.{LaneCredits}
use Rattle.port_core.specs.declared.fault.EnterRefusal.{EnterRefusal}
use Rattle.port_core.specs.declared.incoming.Received.{Received}
use Rattle.port_core.specs.declared.incoming.Received.TheVariants as arrivals
use Rattle.port_core.specs.Incoming.{tlp_in}
use Rattle.port_core.specs.Port.{PortView, received, after_receive}
use Rattle.config_core.specs.SetupView.{SetupView}
use Rattle.endpoint_core.specs.EndpointView.{EndpointView}
use Rattle.endpoint_core.specs.Steps as device
use Rattle.endpoint_core.specs.Runs as devices
use Rattle.endpoint_core.specs.Classes.{becomes}
use Rattle.endpoint_log.specs.LogView.{LogView}
use Rattle.endpoint_log.specs.Steps as log
use Rattle.endpoint_laws.specs.Runs as laws
use Rattle.linked_endpoint.specs.LinkedView.{LinkedView}
use Rattle.linked_endpoint.specs.Linked.{new_linked, is_taken, after_arrival, may_act, is_last, given_back, acted, entered_with, refusal_of}
use Rattle.linked_endpoint.specs.Runs.{Call, Up, Down, Receive, ReceiveDllp, Act, Enter, Next, Refresh, Replay, Retrained, AreCalls, entered_unless, after_call}
use Rattle.linked_endpoint.specs.Settling.{logged, logged_all}
use Rattle.c_linked.specs.Traces.{claim_after}

-- the device's calls, its resets among them
abbrev takes_if : Bool → List ℕ → List devices.Call
takes_if b tlp = cond b (devices.Take tlp ∷ []) []

abbrev acts_if : Bool → List devices.Call
acts_if b = cond b (devices.Act ∷ []) []

abbrev calls_by : LinkedView → Call → List devices.Call
calls_by l Up = devices.Reset ∷ []
calls_by l Down = devices.Reset ∷ []
calls_by l (Receive packet check) = takes_if (is_taken (received l.port packet check)) (tlp_in packet)
calls_by l Act = acts_if (may_act l)
calls_by l _ = []

abbrev all_calls : LinkedView → List Call → List devices.Call
all_calls l [] = []
all_calls l (call ∷ calls) = calls_by l call ++ all_calls (after_call l call) calls

-- ---- the device after a call

arrives : (r : Received) (l : LinkedView) (p : PortView) (tlp : List ℕ) → devices.after_calls l.endpoint (takes_if (is_taken r) tlp) ≡ (after_arrival r l p tlp).endpoint
arrives (arrivals.Accepted need true) l p tlp = refl
arrives (arrivals.Accepted need false) l p tlp = refl
arrives arrivals.Dropped l p tlp = refl
arrives arrivals.Duplicate l p tlp = refl
arrives arrivals.NakNow l p tlp = refl
arrives arrivals.Quiet l p tlp = refl

back : (b : Bool) (l : LinkedView) → (cond b (given_back l) l).endpoint ≡ l.endpoint
back true l = refl
back false l = refl

acts : (b : Bool) (l : LinkedView) → devices.after_calls l.endpoint (acts_if b) ≡ (cond b (acted l) l).endpoint
acts true l = sym (back (is_last l.endpoint) (record l { endpoint = device.acted l.endpoint; held = device.next_completion l.endpoint }))
acts false l = refl

enters : (t : Option TlpView) (l : LinkedView) → l.endpoint ≡ (entered_with l t).endpoint
enters None l = refl
enters (Some t) l = refl

may_enter : (o : Option EnterRefusal) (l : LinkedView) → l.endpoint ≡ (entered_unless o l).endpoint
may_enter None l = enters l.held l
may_enter (Some r) l = refl

stands : (l : LinkedView) (call : Call) → devices.after_calls l.endpoint (calls_by l call) ≡ (after_call l call).endpoint
stands l Up = refl
stands l Down = refl
stands l (Receive packet check) = arrives (received l.port packet check) l (after_receive l.port packet check) (tlp_in packet)
stands l (ReceiveDllp bytes check) = refl
stands l Act = acts (may_act l) l
stands l Enter = may_enter (refusal_of l) l
stands l Next = refl
stands l Refresh = refl
stands l Replay = refl
stands l Retrained = refl

-- ---- what is recorded

takes_logged : (b : Bool) (e : EndpointView) (tlp : List ℕ) (r : LogView) → laws.log_after e r (takes_if b tlp) ≡ cond b (log.came e.device (becomes tlp) r) r
unfolding laws.log_after
takes_logged true e tlp r = refl
takes_logged false e tlp r = refl

acts_logged : (b : Bool) (e : EndpointView) (r : LogView) → laws.log_after e r (acts_if b) ≡ cond b (log.acted e r) r
unfolding laws.log_after
acts_logged true e r = refl
acts_logged false e r = refl

records : (l : LinkedView) (call : Call) (r : LogView) → laws.log_after l.endpoint r (calls_by l call) ≡ logged l call r
unfolding laws.log_after
records l Up r = refl
records l Down r = refl
records l (Receive packet check) r = takes_logged (is_taken (received l.port packet check)) l.endpoint (tlp_in packet) r
records l (ReceiveDllp bytes check) r = refl
records l Act r = acts_logged (may_act l) l.endpoint r
records l Enter r = refl
records l Next r = refl
records l Refresh r = refl
records l Replay r = refl
records l Retrained r = refl

log_longer : (e : EndpointView) (r : LogView) (xs ys : List devices.Call) → laws.log_after e r (xs ++ ys) ≡ laws.log_after (devices.after_calls e xs) (laws.log_after e r xs) ys
unfolding laws.log_after
log_longer e r [] ys = refl
log_longer e r (x ∷ xs) ys = log_longer (devices.after_call e x) (laws.logged e r x) xs ys

pub all_records : (l : LinkedView) (calls : List Call) (r : LogView) → laws.log_after l.endpoint r (all_calls l calls) ≡ logged_all l calls r
unfolding laws.log_after
all_records l [] r = refl
all_records l (call ∷ calls) r =
    log_longer l.endpoint r (calls_by l call) (all_calls (after_call l call) calls)
    ∙ ap (λ (e : EndpointView). laws.log_after e (laws.log_after l.endpoint r (calls_by l call)) (all_calls (after_call l call) calls)) (stands l call)
    ∙ ap (λ (s : LogView). laws.log_after (after_call l call).endpoint s (all_calls (after_call l call) calls)) (records l call r)
    ∙ all_records (after_call l call) calls (logged l call r)

-- ---- the TLPs are bytes

behind : (packet : List ℕ) → IsBytes packet → IsBytes (tlp_in packet)
behind [] h = h
behind (a ∷ []) h = λ i. h (suc i)
behind (a ∷ b ∷ packet) h = λ i. h (suc (suc i))

bytes_more : (xs ys : List devices.Call) → laws.AreBytes xs → laws.AreBytes ys → laws.AreBytes (xs ++ ys)
bytes_more [] ys h k = k
bytes_more (devices.Take b ∷ xs) ys h k = (h.0, bytes_more xs ys h.1 k)
bytes_more (devices.Act ∷ xs) ys h k = bytes_more xs ys h k
bytes_more (devices.Reset ∷ xs) ys h k = bytes_more xs ys h k

takes_bytes : (b : Bool) (tlp : List ℕ) → IsBytes tlp → laws.AreBytes (takes_if b tlp)
takes_bytes true tlp h = (h, tt)
takes_bytes false tlp h = tt

acts_bytes : (b : Bool) → laws.AreBytes (acts_if b)
acts_bytes true = tt
acts_bytes false = tt

are_bytes : (l : LinkedView) (calls : List Call) → AreCalls calls → laws.AreBytes (all_calls l calls)
are_bytes l [] h = tt
are_bytes l (Up ∷ calls) h = are_bytes (after_call l Up) calls h.1
are_bytes l (Down ∷ calls) h = are_bytes (after_call l Down) calls h.1
are_bytes l (Receive packet check ∷ calls) h =
    bytes_more (calls_by l (Receive packet check)) (all_calls (after_call l (Receive packet check)) calls)
    (takes_bytes (is_taken (received l.port packet check)) (tlp_in packet) (behind packet h.0)) (are_bytes (after_call l (Receive packet check)) calls h.1)
are_bytes l (ReceiveDllp bytes check ∷ calls) h = are_bytes (after_call l (ReceiveDllp bytes check)) calls h.1
are_bytes l (Act ∷ calls) h = bytes_more (calls_by l Act) (all_calls (after_call l Act) calls) (acts_bytes (may_act l)) (are_bytes (after_call l Act) calls h.1)
are_bytes l (Enter ∷ calls) h = are_bytes (after_call l Enter) calls h.1
are_bytes l (Next ∷ calls) h = are_bytes (after_call l Next) calls h.1
are_bytes l (Refresh ∷ calls) h = are_bytes (after_call l Refresh) calls h.1
are_bytes l (Replay ∷ calls) h = are_bytes (after_call l Replay) calls h.1
are_bytes l (Retrained ∷ calls) h = are_bytes (after_call l Retrained) calls h.1

-- what holds of the trace of each device holds of this one
pub as_device : (P : Claim → Type 0) (s : SetupView) (ours : LaneCredits) (calls : List Call) → ((cs : List devices.Call) → laws.AreBytes cs → P (laws.claim_after s cs)) → AreCalls calls → P (claim_after s ours calls)
as_device P s ours calls holds are =
    let l = new_linked s ours in
    subst (λ (r : LogView). P r.claim) (all_records l calls (log.new_log s)) (holds (all_calls l calls) (are_bytes l calls are))
