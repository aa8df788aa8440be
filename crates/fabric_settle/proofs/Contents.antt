-- The hops that the packets of a lane need, after a call.
use Rattle.std.proofs.Common.{ℕ, ◌≡◌, ◌+◌, Bool, true, false, List, [], ◌∷◌, ◌++◌, get_or, refl, sym, ap, ◌∙◌, subst, arith, Some, if◌then◌else◌}
use Rattle.std.specs.Prelude.{slice_get, slice_set, remove}
use Rattle.std.specs.List.{sum_by}
use Rattle.std.proofs.lemmas.List.Sums.{sum_by-set, sum_by-remove, sum_by_push}
use Rattle.std.proofs.lemmas.Option.{slice_get_within, get_or_from_slice_get}
use Rattle.tlp_core.specs.TlpView.{TlpView}
use Rattle.flow_control.specs.declared.limits.LaneCredits.{LaneCredits}
use Rattle.flow_control.specs.Needs.{need_of}
use Rattle.flow_control.specs.Queue.{Item, is_takeable}
use Rattle.lane_core.specs.Steps.{LaneEndsView, ReceiverEndView, SenderEndView, may_enter, entered, after_take}
use Rattle.lane_core.specs.Calls.{Call, Enter, Take, IsCall, after_call, content, content_after, on_the_way, IsRightWith, IsRight}
use Rattle.fabric_steps.specs.ListFacts.{get_before}
use Rattle.fabric_steps.specs.declared.event.LinkEvent.{LinkEvent}
use Rattle.fabric_steps.specs.declared.event.LinkEvent.TheVariants as links
use Rattle.fabric_steps.specs.Event.{Seen}
use Rattle.fabric_core.specs.ByParts.{Enters, IsAt, Links, call_of}
use Rattle.fabric_settle.specs.Hops.{hops_of, hops_in}

-- the law of the lane
abbrev pub KeepsContent : Type 0
KeepsContent = (e : LaneEndsView) (call : Call) → IsCall call → IsRight e → content (after_call e call) ≡ content_after e call

pub right : (credits : LaneCredits) (e : LaneEndsView) → IsRightWith credits e → IsRight e
right credits e r = record { credits = credits; right = r }

-- ---- sums

-- one of a list is replaced
pub sum_set : {X : Type 0} (g : X → ℕ) (xs : List X) (i : ℕ) (x y : X) → slice_get xs i ≡ Some x → sum_by g (slice_set xs i y) + g x ≡ sum_by g xs + g y
sum_set g xs i x y h =
    let same : get_or xs i x ≡ x = get_or_from_slice_get xs i x x h in
    subst (λ z. sum_by g (slice_set xs i y) + g z ≡ sum_by g xs + g y) same (sum_by-set g xs i y x (slice_get_within xs i x h))

-- one of a list is removed
sum_remove : {X : Type 0} (g : X → ℕ) (xs : List X) (i : ℕ) (x : X) → slice_get xs i ≡ Some x → sum_by g (remove xs i) + g x ≡ sum_by g xs
sum_remove g xs i x h =
    let same : get_or xs i x ≡ x = get_or_from_slice_get xs i x x h in
    subst (λ z. sum_by g (remove xs i) + g z ≡ sum_by g xs) same (sum_by-remove g xs i x (slice_get_within xs i x h))

-- ---- a packet enters

pub enters_hops : KeepsContent → (posted other : ℕ) (credits : LaneCredits) (e : LaneEndsView) (t : TlpView) (mark : ℕ) (s' : SenderEndView) → IsRightWith credits e → Enters e.sender t mark s'
    → hops_in posted other (record e { sender = s' }) ≡ hops_in posted other e + hops_of posted other (t, mark)
enters_hops law posted other credits e t mark s' r h =
    ap (sum_by (hops_of posted other)) (subst (λ (s : SenderEndView). content (record e { sender = s }) ≡ content e ++ (t, mark) ∷ []) (sym h.now)
    (both (may_enter e.sender (need_of t)) h.may (law e (Enter t mark) h.spelled (right credits e r))))
    ∙ sum_by_push (hops_of posted other) (content e) (t, mark)
  where
    both : (b : Bool) → b ≡ true → content (if b then record e { sender = entered e.sender t mark } else e) ≡ content e ++ (if b then (t, mark) ∷ [] else []) → content (record e { sender = entered e.sender t mark }) ≡ content e ++ (t, mark) ∷ []
    both true k c = c
    both false k c = cc

-- ---- a packet is taken

pub takes_hops : KeepsContent → (posted other : ℕ) (credits : LaneCredits) (e : LaneEndsView) (place mark : ℕ) (t : TlpView) (r' : ReceiverEndView) → IsRightWith credits e → IsAt e.receiver place t mark → r' ≡ after_take e.receiver place
    → hops_in posted other (record e { receiver = r' }) + hops_of posted other (t, mark) ≡ hops_in posted other e
takes_hops law posted other credits e place mark t r' r h now =
    let is : content (record e { receiver = r' }) ≡ remove (content e) place =
    subst (λ (x : ReceiverEndView). content (record e { receiver = x }) ≡ remove (content e) place) (sym now)
    (both (is_takeable e.receiver.queue place) h.takeable (law e (Take place) tt (right credits e r))) in
    ap (λ (xs : List Item). sum_by (hops_of posted other) xs + hops_of posted other (t, mark)) is
    ∙ sum_remove (hops_of posted other) (content e) place (t, mark) (get_before e.receiver.queue (on_the_way e) place (t, mark) h.item)
  where
    both : (b : Bool) → b ≡ true → content (if b then record e { receiver = after_take e.receiver place } else e) ≡ (if b then remove (content e) place else content e) → content (record e { receiver = after_take e.receiver place }) ≡ remove (content e) place
    both true k c = c
    both false k c = cc

-- ---- a call of the link

is_call : (event : LinkEvent) → IsCall (call_of event)
is_call links.Transmit = tt
is_call (links.Deliver fate) = tt
is_call (links.SendDllp kind) = tt
is_call (links.DeliverDllp fate) = tt
is_call links.Timer = tt
is_call links.Retrained = tt

leaves : (e : LaneEndsView) (event : LinkEvent) → content_after e (call_of event) ≡ content e
leaves e links.Transmit = refl
leaves e (links.Deliver fate) = refl
leaves e (links.SendDllp kind) = refl
leaves e (links.DeliverDllp fate) = refl
leaves e links.Timer = refl
leaves e links.Retrained = refl

pub links_hops : KeepsContent → (posted other : ℕ) (credits : LaneCredits) (e : LaneEndsView) (event : LinkEvent) (what : Seen) (e' : LaneEndsView) → IsRightWith credits e → Links e event what e'
    → hops_in posted other e' ≡ hops_in posted other e
links_hops law posted other credits e event what e' r h =
    ap (sum_by (hops_of posted other)) (subst (λ (x : LaneEndsView). content x ≡ content e) (sym h.now) (law e (call_of event) (is_call event) (right credits e r) ∙ leaves e event))
