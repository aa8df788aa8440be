-- What a lane holds spells its packets.
use Rattle.std.proofs.Common.{◌≡◌, ℕ, suc, ◌+◌, ◌<◌, All, Bool, true, false, List, [], ◌∷◌, ◌++◌, length, take, drop, refl, sym, ◌∙◌, ap, subst, arith, Option, Some, None}
use Rattle.std.specs.Prelude.{remove, slice_get, if◌then◌else◌, get_or}
use Rattle.std.proofs.lemmas.List.Elements.{All-nil, All-cons, All-append, All-take, All-drop, All-get_or}
use Rattle.std.proofs.lemmas.Option.{slice_get_within, get_or_from_slice_get}
use Rattle.tlp_core.specs.TlpView.{TlpView}
use Rattle.tlp_core.specs.Layout.{Spells, canonical}
use Rattle.flow_control.specs.declared.limits.LaneCredits.{LaneCredits}
use Rattle.flow_control.specs.Needs.{need_of}
use Rattle.flow_control.specs.Queue.{Item, is_takeable}
use Rattle.lane_core.specs.Steps.{LaneEndsView, new_lane, may_enter}
use Rattle.lane_core.specs.Calls.{Call, MakeRoom, Release, Enter, Transmit, Deliver, SendDllp, DeliverDllp, Timer, Retrained, Take, IsCall, AreCalls, after_call, after_calls, content, content_after, IsRight}
use Rattle.lane_core.proofs.Below.{IsRead}
use Rattle.lane_core.proofs.Kept.{right_by, new_right, content_by}

abbrev pub IsItemSpelled : Item → Type 0
IsItemSpelled item = Spells (canonical item.0) item.0

entered_is : (t : TlpView) (mark : ℕ) (b : Bool) → Spells (canonical t) t → All IsItemSpelled (if b then (t, mark) ∷ [] else [])
entered_is t mark true s = All-cons IsItemSpelled (t, mark) [] s (All-nil IsItemSpelled)
entered_is t mark false s = All-nil IsItemSpelled

removed_is : (xs : List Item) (place : ℕ) (b : Bool) → All IsItemSpelled xs → All IsItemSpelled (if b then remove xs place else xs)
removed_is xs place true k = All-append IsItemSpelled (take place xs) (drop (suc place) xs) (All-take IsItemSpelled place xs k) (All-drop IsItemSpelled (suc place) xs k)
removed_is xs place false k = k

after_is : (e : LaneEndsView) (call : Call) → IsCall call → All IsItemSpelled (content e) → All IsItemSpelled (content_after e call)
after_is e (MakeRoom need) i k = k
after_is e Release i k = k
after_is e (Enter t mark) i k = All-append IsItemSpelled (content e) _ k (entered_is t mark (may_enter e.sender (need_of t)) i)
after_is e Transmit i k = k
after_is e (Deliver fate) i k = k
after_is e (SendDllp kind) i k = k
after_is e (DeliverDllp fate) i k = k
after_is e Timer i k = k
after_is e Retrained i k = k
after_is e (Take place) i k = removed_is (content e) place (is_takeable e.receiver.queue place) k

all_spelled : IsRead → (e : LaneEndsView) (calls : List Call) → AreCalls calls → IsRight e → All IsItemSpelled (content e) → All IsItemSpelled (content (after_calls e calls))
all_spelled read e [] i r k = k
all_spelled read e (call ∷ calls) i r k =
    all_spelled read (after_call e call) calls i.1 (right_by e call i.0 r)
    (subst (λ (xs : List Item). All IsItemSpelled xs) (sym (content_by read e call i.0 r)) (after_is e call i.0 k))

held : IsRead → (e : LaneEndsView) → IsRight e → All IsItemSpelled (content e)
held read e r =
    subst (λ (e : LaneEndsView). All IsItemSpelled (content e)) r.right.leads
    (all_spelled read (new_lane r.credits) r.right.calls r.right.are_calls (new_right r.credits r.right.limits) (All-nil IsItemSpelled))

pub held_spelled : IsRead → (e : LaneEndsView) (place mark : ℕ) (t : TlpView) → IsRight e → slice_get (content e) place ≡ Some (t, mark) → Spells (canonical t) t
held_spelled read e place mark t r h =
    subst IsItemSpelled (get_or_from_slice_get (content e) place (t, mark) (t, mark) h)
    (All-get_or IsItemSpelled (content e) place (t, mark) (slice_get_within (content e) place (t, mark) h) (held read e r))
