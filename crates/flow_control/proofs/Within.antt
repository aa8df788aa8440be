-- Each call keeps the gate's counters below their modulus.
use Rattle.std.proofs.Common.{ℕ, ◌+◌, ◌%◌, ◌<◌, Bool, true, false, arith}
use Rattle.std.specs.Prelude.{◌==◌, if◌then◌else◌}
use Rattle.dllp_core.specs.declared.packet.Class.{Class}
use Rattle.dllp_core.specs.declared.packet.Class.TheVariants.{Posted, NonPosted, Completion}
use Rattle.flow_control.specs.declared.counter.Part.{Part}
use Rattle.flow_control.specs.declared.counter.Part.TheVariants.{Header, Data}
use Rattle.flow_control.specs.declared.gate.ClassGate.{ClassGate}
use Rattle.flow_control.specs.declared.limits.LaneCredits.{LaneCredits}
use Rattle.flow_control.specs.Credits.{CreditGateView, modulus, allowance_in, with_gate, class_gate, class_spent, class_limited, first_gate, IsWrapped, IsWithin}

wrapped : (p : Part) (n : ℕ) → n % modulus p < modulus p
wrapped Header n = omega arith
wrapped Data n = omega arith

class_new : (header units : ℕ) (p : Part) → IsWrapped p (allowance_in p (class_gate header units))
class_new header units Header = record { limit = wrapped Header header; consumed = omega arith }
class_new header units Data = record { limit = wrapped Data units; consumed = omega arith }

pub new_within : (credits : LaneCredits) → IsWithin (first_gate credits)
new_within credits Posted p = class_new credits.ph credits.pd p
new_within credits NonPosted p = class_new credits.nph credits.npd p
new_within credits Completion p = class_new credits.cplh credits.cpld p

pub spent_within : (g : ClassGate) (header units : ℕ) → ((p : Part) → IsWrapped p (allowance_in p g)) → (p : Part) → IsWrapped p (allowance_in p (class_spent g header units))
spent_within g header units w Header = record { limit = (w Header).limit; consumed = wrapped Header (g.header.consumed + header) }
spent_within g header units w Data = record { limit = (w Data).limit; consumed = wrapped Data (g.units.consumed + units) }

either : (b : Bool) (x y m : ℕ) → x < m → y < m → (if b then x else y) < m
either true x y m h k = h
either false x y m h k = k

pub limited_within : (g : ClassGate) (header units : ℕ) → header < 256 → units < 4096 → ((p : Part) → IsWrapped p (allowance_in p g)) → (p : Part) → IsWrapped p (allowance_in p (class_limited g header units))
limited_within g header units h u w Header =
    record { limit = either (g.header.first == 0) g.header.limit header 256 (w Header).limit h; consumed = (w Header).consumed }
limited_within g header units h u w Data =
    record { limit = either (g.units.first == 0) g.units.limit units 4096 (w Data).limit u; consumed = (w Data).consumed }

pub with_within : (g : CreditGateView) (class : Class) (x : ClassGate) → IsWithin g → ((p : Part) → IsWrapped p (allowance_in p x)) → IsWithin (with_gate g class x)
with_within g Posted x w k Posted p = k p
with_within g Posted x w k NonPosted p = w NonPosted p
with_within g Posted x w k Completion p = w Completion p
with_within g NonPosted x w k Posted p = w Posted p
with_within g NonPosted x w k NonPosted p = k p
with_within g NonPosted x w k Completion p = w Completion p
with_within g Completion x w k Posted p = w Posted p
with_within g Completion x w k NonPosted p = w NonPosted p
with_within g Completion x w k Completion p = k p
