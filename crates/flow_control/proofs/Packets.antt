-- What packets of the grammar need.
use Rattle.std.proofs.Common.{◌≡◌, ℕ, ◌*◌, ◌<◌, ◌≤◌, IsTrue, length, refl, inl, inr, arith}
use Rattle.std.specs.Prelude.{◌⊎◌}
use Rattle.dllp_core.specs.declared.packet.Class.{Class}
use Rattle.dllp_core.specs.declared.packet.Class.TheVariants.{Posted, NonPosted, Completion}
use Rattle.tlp_core.specs.declared.packet.Kind.{Kind}
use Rattle.tlp_core.specs.declared.packet.Kind.TheVariants as kinds
use Rattle.tlp_core.specs.declared.packet.Body.{Body}
use Rattle.tlp_core.specs.declared.packet.Body.TheVariants as bodies
use Rattle.tlp_core.specs.TlpView.{TlpView, IsPacket, FitsKind}
use Rattle.flow_control.specs.declared.limits.LaneCredits.{LaneCredits}
use Rattle.flow_control.specs.declared.counter.Part.{Part}
use Rattle.flow_control.specs.declared.counter.Part.TheVariants.{Header, Data}
use Rattle.flow_control.specs.Needs.{units_of, need_at, need_of}
use Rattle.flow_control.specs.Limits.{IsInfiniteOrBetween, IsInLimits, least_units}
use Rattle.flow_control.specs.Credits.{most, pick, first_of, covers, gate_covers, first_gate, new_allowance}
use Rattle.flow_control.proofs.Fits.{room_covered, infinite_counter, join}
use Rattle.flow_control.proofs.Runs.{zero_wraps}

pub one_header : (t : TlpView) → (need_of t).header ≡ 1
one_header t = by_kind t.kind (units_of (length t.payload))
  where
    by_kind : (k : Kind) (units : ℕ) → (need_at k units).header ≡ 1
    by_kind kinds.MemoryRead units = refl
    by_kind kinds.MemoryWrite units = refl
    by_kind kinds.FetchAdd units = refl
    by_kind kinds.Swap units = refl
    by_kind kinds.Cas units = refl
    by_kind kinds.Completion units = refl
    by_kind kinds.CompletionData units = refl

-- the operands of AtomicOps

one_operand : (dw given : ℕ) → (dw ≡ 1) ⊎ (dw ≡ 2) → given ≡ 4 * dw → units_of given ≤ 2
one_operand dw given (inl e) g = omega arith
one_operand dw given (inr e) g = omega arith

two_operands : (dw given : ℕ) → (dw ≡ 2) ⊎ (dw ≡ 4) ⊎ (dw ≡ 8) → given ≡ 4 * dw → units_of given ≤ 2
two_operands dw given h g = grind arith

few_units : (k : Kind) (b : Body) (dw given : ℕ) → FitsKind k b dw given → (need_at k (units_of given)).units ≤ least_units (need_at k (units_of given)).class
few_units kinds.MemoryRead b dw given h = omega arith
few_units kinds.MemoryWrite (bodies.Request a f l) dw given h = omega (arith, h.1, h.2)
few_units kinds.MemoryWrite (bodies.Completion c s n low) dw given h = absurd h
few_units kinds.FetchAdd (bodies.Request a f l) dw given h = one_operand dw given h.0.0 h.1
few_units kinds.FetchAdd (bodies.Completion c s n low) dw given h = absurd h
few_units kinds.Swap (bodies.Request a f l) dw given h = one_operand dw given h.0.0 h.1
few_units kinds.Swap (bodies.Completion c s n low) dw given h = absurd h
few_units kinds.Cas (bodies.Request a f l) dw given h = two_operands dw given h.0.0 h.1
few_units kinds.Cas (bodies.Completion c s n low) dw given h = absurd h
few_units kinds.Completion b dw given h = omega arith
few_units kinds.CompletionData (bodies.Completion c s n low) dw given h = omega (arith, h.4, h.5)
few_units kinds.CompletionData (bodies.Request a f l) dw given h = absurd h

pub units_few : (t : TlpView) → IsPacket t → (need_of t).units ≤ least_units (need_of t).class
units_few t k = few_units t.kind t.body t.length (length t.payload) k.fits

-- a new counter covers what is at most the least of its first values
new_covers : (p : Part) (least first units : ℕ) → IsInfiniteOrBetween least (most p) first → units ≤ least → least ≤ most p → IsTrue (covers p (new_allowance p first) units)
new_covers p least first units (inl e) u m = infinite_counter p (new_allowance p first) units e
new_covers p least first units (inr h) u m =
    room_covered p (new_allowance p first) first 0 units
    (λ q. record { limit = refl; consumed = zero_wraps p; used_known = omega arith; unused = omega (arith, h.1) })
    (omega arith) (λ q. omega (arith, h.0))

covered : (credits : LaneCredits) (c : Class) (header units : ℕ) → IsInLimits credits → header ≡ 1 → units ≤ least_units c →
    IsTrue (gate_covers (first_gate credits) (record { class = c; header = header; units = units }))
covered credits Posted header units l e u =
    join _ _ (new_covers Header 1 credits.ph header l.ph (omega arith) (omega arith)) (new_covers Data 8 credits.pd units l.pd u (omega arith))
covered credits NonPosted header units l e u =
    join _ _ (new_covers Header 1 credits.nph header l.nph (omega arith) (omega arith)) (new_covers Data 2 credits.npd units l.npd u (omega arith))
covered credits Completion header units l e u =
    join _ _ (new_covers Header 1 credits.cplh header l.cplh (omega arith) (omega arith)) (new_covers Data 8 credits.cpld units l.cpld u (omega arith))

pub goes : (credits : LaneCredits) (t : TlpView) → IsInLimits credits → IsPacket t → IsTrue (gate_covers (first_gate credits) (need_of t))
goes credits t l k = covered credits (need_of t).class (need_of t).header (need_of t).units l (one_header t) (units_few t k)

-- a finite first value is at least what a packet needs

finite : (first least most : ℕ) → IsInfiniteOrBetween least most first → 0 < first → least ≤ first
finite first least most (inl e) h = omega (arith, e, h)
finite first least most (inr r) h = r.0

enough : (credits : LaneCredits) (c : Class) (p : Part) (header units : ℕ) → IsInLimits credits → header ≡ 1 → units ≤ least_units c → 0 < first_of c p credits → pick p header units ≤ first_of c p credits
enough credits Posted Header header units l h u f = omega (arith, h, f)
enough credits NonPosted Header header units l h u f = omega (arith, h, f)
enough credits Completion Header header units l h u f = omega (arith, h, f)
enough credits Posted Data header units l h u f = let s = finite credits.pd 8 2047 l.pd f in omega (arith, u, s)
enough credits NonPosted Data header units l h u f = let s = finite credits.npd 2 2047 l.npd f in omega (arith, u, s)
enough credits Completion Data header units l h u f = let s = finite credits.cpld 8 2047 l.cpld f in omega (arith, u, s)

pub first_is_enough : (credits : LaneCredits) (t : TlpView) (p : Part) → IsInLimits credits → IsPacket t → 0 < first_of (need_of t).class p credits →
    pick p (need_of t).header (need_of t).units ≤ first_of (need_of t).class p credits
first_is_enough credits t p l k f = enough credits (need_of t).class p (need_of t).header (need_of t).units l (one_header t) (units_few t k) f
