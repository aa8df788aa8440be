-- A flushed lane has room for any packet of a class of which it holds none.
use Rattle.std.proofs.Common.{◌≡◌, ℕ, zero, suc, ◌+◌, ◌<◌, ◌≤◌, Bool, true, false, List, [], length, refl, sym, subst, ap, ◌∙◌, arith}
use Rattle.std.specs.Prelude.{nat_lt, ◌&&◌}
use Rattle.tlp_core.specs.TlpView.{TlpView, IsPacket}
use Rattle.dllp_core.specs.declared.packet.Class.{Class}
use Rattle.dllp_core.specs.declared.packet.Class.TheVariants.{Posted, NonPosted, Completion}
use Rattle.dllp_core.specs.declared.packet.Dllp.{Dllp}
use Rattle.flow_control.specs.declared.needs.Need.{Need}
use Rattle.flow_control.specs.declared.limits.LaneCredits.{LaneCredits}
use Rattle.flow_control.specs.declared.ledger.CreditLedger.{CreditLedger}
use Rattle.flow_control.specs.Limits.{IsInLimits, least_units}
use Rattle.flow_control.specs.Needs.{need_of}
use Rattle.flow_control.specs.Credits.{CreditGateView, pick, allocated, allowance, grant, first_of, gate_covers}
use Rattle.flow_control.specs.Account.{Accounts, Direction, HasCredit, demand, new_direction, after_events, IsRight as IsBalanced}
use Rattle.flow_control.specs.Queue.{Item}
use Rattle.lane_core.specs.Steps.{LaneEndsView, new_lane, may_enter}
use Rattle.lane_core.specs.Calls.{Call, AreCalls, after_calls, on_the_way, content, IsRightWith}
use Rattle.lane_core.specs.Credit.{needs_of, events_in, direction_of, numbers_of, HasRoom}
use Rattle.lane_core.specs.Flushed.{IsFlushed}
use Rattle.lane_core.proofs.Below.{Below}
use Rattle.lane_core.proofs.Directions.{lane_direction}
use Rattle.lane_core.proofs.Sums.{demand_append}
use Rattle.lane_core.proofs.Whole.{whole_numbers, room}

few_units : (c : Class) (n : ℕ) → n ≤ least_units c → n ≤ 2047
few_units Posted n h = omega (arith, h)
few_units NonPosted n h = omega (arith, h)
few_units Completion n h = omega (arith, h)

-- ---- one counter of a flushed lane, where the lane holds nothing of the class

-- the laws of credits on which this rests
pub record Credits : Type 0 where
  pub below : Below
  pub first : (credits : LaneCredits) (t : TlpView) (p : _) → IsInLimits credits → IsPacket t → 0 < first_of (need_of t).class p credits →
      pick p (need_of t).header (need_of t).units ≤ first_of (need_of t).class p credits
  pub all_known : (credits : LaneCredits) (gate : CreditGateView) (ledger : CreditLedger) (numbers : Accounts) (queue on_the_way : List Need) (wire : List Dllp) (c : Class) (p : _) →
      HasCredit credits gate ledger numbers queue on_the_way wire → 0 < first_of c p credits → (allowance c p gate).limit ≡ allocated p (grant c p ledger) →
      (numbers c p).known ≡ (numbers c p).given

-- what is known is all that was given
known_given : Credits → (e : LaneEndsView) (credits : LaneCredits) (calls : List Call) (c : Class) (p : _) → IsInLimits credits → AreCalls calls → after_calls (new_lane credits) calls ≡ e → IsFlushed e → 0 < first_of c p credits →
    (numbers_of credits calls c p).known ≡ (numbers_of credits calls c p).given
known_given laws e credits calls c p l i leads flushed f =
    let d = after_events (new_direction credits) (events_in (new_lane credits) calls) in
    let account = laws.below.account credits (events_in (new_lane credits) calls) l in
    let same : direction_of e ≡ d = subst (λ (e : LaneEndsView). direction_of e ≡ d) leads (lane_direction laws.below credits calls i) in
    let gate : e.sender.gate ≡ d.gate = ap (λ (d : Direction). d.gate) same in
    let ledger : e.receiver.ledger ≡ d.ledger = ap (λ (d : Direction). d.ledger) same in
    let first : (allowance c p d.gate).first ≡ first_of c p credits = (account c p).gate_first in
    let some : 0 < (allowance c p e.sender.gate).first = rw (gate, first) f in
    let limit : (allowance c p d.gate).limit ≡ allocated p (grant c p d.ledger) =
    subst (λ (g : CreditGateView). (allowance c p g).limit ≡ allocated p (grant c p d.ledger)) gate
    (subst (λ (l : CreditLedger). (allowance c p e.sender.gate).limit ≡ allocated p (grant c p l)) ledger (flushed.known c p some)) in
    laws.all_known credits d.gate d.ledger (numbers_of credits calls) d.queue d.on_the_way d.wire c p account f limit

known_is : Credits → (credits : LaneCredits) (e : LaneEndsView) (c : Class) (p : _) (r : IsRightWith credits e) → IsFlushed e → demand c p (needs_of (content e)) ≡ 0 → 0 < first_of c p credits →
    (numbers_of credits r.calls c p).known ≡ (numbers_of credits r.calls c p).used + first_of c p credits
known_is laws credits e c p r flushed none f =
    let n = numbers_of credits r.calls c p in
    let b : IsBalanced p (first_of c p credits) (allowance c p e.sender.gate) (grant c p e.receiver.ledger) n (demand c p (needs_of e.receiver.queue)) (demand c p (needs_of (on_the_way e))) =
    subst (λ (e : LaneEndsView). IsBalanced p (first_of c p credits) (allowance c p e.sender.gate) (grant c p e.receiver.ledger) n (demand c p (needs_of e.receiver.queue)) (demand c p (needs_of (on_the_way e)))) r.leads
    (whole_numbers laws.below credits r.calls c p r.limits r.are_calls f) in
    let all : n.known ≡ n.given = known_given laws e credits r.calls c p r.limits r.are_calls r.leads flushed f in
    let held : demand c p (needs_of e.receiver.queue) + demand c p (needs_of (on_the_way e)) ≡ 0 = sym (demand_append c p e.receiver.queue (on_the_way e)) ∙ none in
    let given : n.given ≡ n.used + first_of c p credits = omega (arith, b.balance, held) in
    all ∙ given

-- ---- a packet

has_room : Credits → (credits : LaneCredits) (e : LaneEndsView) (t : TlpView) (r : IsRightWith credits e) → IsFlushed e → IsPacket t →
    ((p : _) → 0 < first_of (need_of t).class p credits → demand (need_of t).class p (needs_of (content e)) ≡ 0) → HasRoom credits (numbers_of credits r.calls) (need_of t)
has_room laws credits e t r flushed packet none = λ p f.
    let c = (need_of t).class in
    let known = known_is laws credits e c p r flushed (none p f) f in
    let first = laws.first credits t p r.limits packet f in
    omega (arith, known, first)

covered : Credits → (credits : LaneCredits) (e : LaneEndsView) (t : TlpView) (r : IsRightWith credits e) → IsPacket t → HasRoom credits (numbers_of credits r.calls) (need_of t) → gate_covers e.sender.gate (need_of t) ≡ true
covered laws credits e t r packet h =
    let small : (need_of t).units ≤ 2047 = few_units (need_of t).class (need_of t).units (laws.below.units t packet) in
    let one : (need_of t).header ≤ 127 = let e = laws.below.header t in omega (arith, e) in
    subst (λ (e : LaneEndsView). gate_covers e.sender.gate (need_of t) ≡ true) r.leads ((room laws.below credits r.calls (need_of t) r.limits r.are_calls one small).1 h)

both : (a : Bool) (n : ℕ) → a ≡ true → n ≡ 0 → a && nat_lt n 2047 ≡ true
both true zero e z = refl
both true (suc n) e z = absurd (omega (arith, z))
both false n e z = cc

enters : Credits → (credits : LaneCredits) (e : LaneEndsView) (t : TlpView) (r : IsRightWith credits e) → IsFlushed e → IsPacket t →
    ((p : _) → 0 < first_of (need_of t).class p credits → demand (need_of t).class p (needs_of (content e)) ≡ 0) → may_enter e.sender (need_of t) ≡ true
enters laws credits e t r flushed packet none =
    both (gate_covers e.sender.gate (need_of t)) (length e.sender.sending.kept) (covered laws credits e t r packet (has_room laws credits e t r flushed packet none)) (ap length flushed.kept)

pub empty_takes : Credits → (credits : LaneCredits) (e : LaneEndsView) (t : TlpView) → IsRightWith credits e → IsFlushed e → content e ≡ [] → IsPacket t → may_enter e.sender (need_of t) ≡ true
empty_takes laws credits e t r flushed empty packet =
    enters laws credits e t r flushed packet (λ p f. ap (λ (items : List Item). demand (need_of t).class p (needs_of items)) empty)

never : (n : ℕ) → n ≡ 0 → 0 < n → ⊥
never n e h = omega (arith, e, h)

pub infinite_takes : Credits → (credits : LaneCredits) (e : LaneEndsView) (t : TlpView) → IsRightWith credits e → IsFlushed e → ((p : _) → first_of (need_of t).class p credits ≡ 0) → IsPacket t → may_enter e.sender (need_of t) ≡ true
infinite_takes laws credits e t r flushed none packet =
    enters laws credits e t r flushed packet (λ p f. absurd (never (first_of (need_of t).class p credits) (none p) f))
