-- Flow-control credits (section 2.6.1): the counters of the gate and of the ledger, for each class and part.
use Rattle.std.specs.Prelude.{◌≡◌, ℕ, ◌+◌, ◌-◌, ◌%◌, ◌/◌, ◌<◌, ◌≤◌, ◌==◌, Bool, true, false, not, nat_le, ◌||◌, ◌&&◌, if◌then◌else◌, Option, Some, None}
use Rattle.dllp_core.specs.declared.packet.Class.{Class}
use Rattle.dllp_core.specs.declared.packet.Class.TheVariants.{Posted, NonPosted, Completion}
use Rattle.dllp_core.specs.declared.packet.Dllp.{Dllp}
use Rattle.dllp_core.specs.declared.packet.Dllp.TheVariants.{Update}
use Rattle.flow_control.specs.declared.needs.Need.{Need}
use Rattle.flow_control.specs.declared.limits.LaneCredits.{LaneCredits}
use Rattle.flow_control.specs.declared.counter.Part.{Part}
use Rattle.flow_control.specs.declared.counter.Part.TheVariants.{Header, Data}
use Rattle.flow_control.specs.declared.counter.Allowance.{Allowance}
use Rattle.flow_control.specs.declared.counter.Grant.{Grant}
use Rattle.flow_control.specs.declared.gate.ClassGate.{ClassGate}
use Rattle.flow_control.specs.declared.ledger.ClassLedger.{ClassLedger}
use Rattle.flow_control.specs.declared.ledger.CreditLedger.{CreditLedger}

-- ---- one counter

-- 2 to the power of the field's size
abbrev pub modulus : Part → ℕ
modulus Header = 256
modulus Data = 4096

-- the most credit that may be unused
abbrev pub most : Part → ℕ
most Header = 127
most Data = 2047

-- whether the units may be used: (CREDIT_LIMIT - (CREDITS_CONSUMED + units)) mod 2^w <= 2^w / 2
abbrev pub covers : Part → Allowance → ℕ → Bool
covers p a units =
    (a.first == 0) || nat_le ((a.limit + modulus p - (a.consumed + units) % modulus p) % modulus p) (modulus p / 2)

-- the room by the counters alone: (CREDIT_LIMIT - CREDITS_CONSUMED) mod 2^w
abbrev pub room_of : Part → Allowance → ℕ
room_of p a = (a.limit + modulus p - a.consumed) % modulus p

-- the credits that are left, as far as the sender knows; an infinite counter has no such number
abbrev pub left_of : Part → Allowance → Option ℕ
left_of p a = if a.first == 0 then None else Some (room_of p a)

-- CREDITS_CONSUMED grows by the units
abbrev pub spent : Part → Allowance → ℕ → Allowance
spent p a units = record { first = a.first; limit = a.limit; consumed = (a.consumed + units) % modulus p }

-- CREDIT_LIMIT becomes what an update carries, which an infinite counter ignores
abbrev pub limited : Allowance → ℕ → Allowance
limited a limit =
    record { first = a.first; limit = if a.first == 0 then a.limit else limit; consumed = a.consumed }

-- CREDITS_RECEIVED grows by the units
abbrev pub taken_in : Part → Grant → ℕ → Grant
taken_in p g units = record { first = g.first; received = (g.received + units) % modulus p; freed = g.freed }

-- the units are given back
abbrev pub given_back : Part → Grant → ℕ → Grant
given_back p g units = record { first = g.first; received = g.received; freed = (g.freed + units) % modulus p }

-- CREDITS_ALLOCATED: the first value and all that was freed
abbrev pub allocated : Part → Grant → ℕ
allocated p g = (g.first + g.freed) % modulus p

-- what an update carries: 0 for an infinite counter
abbrev pub told : Part → Grant → ℕ
told p g = if g.first == 0 then 0 else allocated p g

-- more was received than given: (CREDITS_ALLOCATED - CREDITS_RECEIVED) mod 2^w >= 2^w / 2
abbrev pub overflows : Part → Grant → Bool
overflows p g =
    not (g.first == 0) && nat_le (modulus p / 2) ((allocated p g + modulus p - g.received % modulus p) % modulus p)

-- ---- the six counters of each side

abbrev pub same : Class → Class → Bool
same Posted Posted = true
same NonPosted NonPosted = true
same Completion Completion = true
same _ _ = false

-- the header or the data part of a pair of numbers
abbrev pub pick : Part → ℕ → ℕ → ℕ
pick Header header units = header
pick Data header units = units

-- what a need takes of the counter of a class and part
abbrev pub amount : Class → Part → Need → ℕ
amount c p need = if same c need.class then pick p need.header need.units else 0

-- a `CreditGate`
pub record CreditGateView : Type 0 where
  pub posted : ClassGate
  pub non_posted : ClassGate
  pub completion : ClassGate

abbrev pub gate_of : Class → CreditGateView → ClassGate
gate_of Posted g = g.posted
gate_of NonPosted g = g.non_posted
gate_of Completion g = g.completion

abbrev pub ledger_of : Class → CreditLedger → ClassLedger
ledger_of Posted l = l.posted
ledger_of NonPosted l = l.non_posted
ledger_of Completion l = l.completion

abbrev pub allowance_in : Part → ClassGate → Allowance
allowance_in Header g = g.header
allowance_in Data g = g.units

abbrev pub grant_in : Part → ClassLedger → Grant
grant_in Header l = l.header
grant_in Data l = l.units

-- the gate's counter of a class and part
abbrev pub allowance : Class → Part → CreditGateView → Allowance
allowance c p g = allowance_in p (gate_of c g)

-- CREDIT_LIMIT and CREDITS_CONSUMED are below 2 to the power of the field's size
pub record IsWrapped (p : Part) (a : Allowance) : Type 0 where
  pub limit : a.limit < modulus p
  pub consumed : a.consumed < modulus p

-- so are those of each counter of a gate
abbrev pub IsWithin : CreditGateView → Type 0
IsWithin g = (c : Class) (p : Part) → IsWrapped p (allowance c p g)

-- the ledger's counter of a class and part
abbrev pub grant : Class → Part → CreditLedger → Grant
grant c p l = grant_in p (ledger_of c l)

-- ---- the calls: each changes the counters of one class

abbrev pub with_gate : CreditGateView → Class → ClassGate → CreditGateView
with_gate g Posted x = record { posted = x; non_posted = g.non_posted; completion = g.completion }
with_gate g NonPosted x = record { posted = g.posted; non_posted = x; completion = g.completion }
with_gate g Completion x = record { posted = g.posted; non_posted = g.non_posted; completion = x }

abbrev pub with_ledger : CreditLedger → Class → ClassLedger → CreditLedger
with_ledger l Posted x = record { posted = x; non_posted = l.non_posted; completion = l.completion }
with_ledger l NonPosted x = record { posted = l.posted; non_posted = x; completion = l.completion }
with_ledger l Completion x = record { posted = l.posted; non_posted = l.non_posted; completion = x }

abbrev pub class_covers : ClassGate → ℕ → ℕ → Bool
class_covers g header units = covers Header g.header header && covers Data g.units units

abbrev pub class_spent : ClassGate → ℕ → ℕ → ClassGate
class_spent g header units = record { header = spent Header g.header header; units = spent Data g.units units }

abbrev pub class_limited : ClassGate → ℕ → ℕ → ClassGate
class_limited g header units = record { header = limited g.header header; units = limited g.units units }

abbrev pub class_taken_in : ClassLedger → ℕ → ℕ → ClassLedger
class_taken_in l header units =
    record { header = taken_in Header l.header header; units = taken_in Data l.units units }

abbrev pub class_given_back : ClassLedger → ℕ → ℕ → ClassLedger
class_given_back l header units =
    record { header = given_back Header l.header header; units = given_back Data l.units units }

-- a packet of this need may go
abbrev pub gate_covers : CreditGateView → Need → Bool
gate_covers g need = class_covers (gate_of need.class g) need.header need.units

-- a packet of this need went
abbrev pub after_consume : CreditGateView → Need → CreditGateView
after_consume g need = with_gate g need.class (class_spent (gate_of need.class g) need.header need.units)

-- an UpdateFC reached the gate
abbrev pub after_limit : CreditGateView → Class → ℕ → ℕ → CreditGateView
after_limit g class header units = with_gate g class (class_limited (gate_of class g) header units)

-- a packet of this need was received
abbrev pub after_received : CreditLedger → Need → CreditLedger
after_received l need = with_ledger l need.class (class_taken_in (ledger_of need.class l) need.header need.units)

-- a packet of this need left the queue
abbrev pub after_freed : CreditLedger → Need → CreditLedger
after_freed l need = with_ledger l need.class (class_given_back (ledger_of need.class l) need.header need.units)

-- the UpdateFC that the ledger gives
abbrev pub update_of : CreditLedger → Class → Dllp
update_of l class = Update class (told Header (ledger_of class l).header) (told Data (ledger_of class l).units)

-- ---- new counters

-- the advertised first value of a class and part
abbrev pub first_of : Class → Part → LaneCredits → ℕ
first_of Posted p l = pick p l.ph l.pd
first_of NonPosted p l = pick p l.nph l.npd
first_of Completion p l = pick p l.cplh l.cpld

abbrev pub new_allowance : Part → ℕ → Allowance
new_allowance p first = record { first = first; limit = first % modulus p; consumed = 0 }

abbrev pub new_grant : ℕ → Grant
new_grant first = record { first = first; received = 0; freed = 0 }

abbrev pub class_gate : ℕ → ℕ → ClassGate
class_gate header units = record { header = new_allowance Header header; units = new_allowance Data units }

abbrev pub class_ledger : ℕ → ℕ → ClassLedger
class_ledger header units = record { header = new_grant header; units = new_grant units }

abbrev pub first_gate : LaneCredits → CreditGateView
first_gate l =
    record { posted = class_gate l.ph l.pd; non_posted = class_gate l.nph l.npd; completion = class_gate l.cplh l.cpld }

abbrev pub first_ledger : LaneCredits → CreditLedger
first_ledger l =
    record { posted = class_ledger l.ph l.pd; non_posted = class_ledger l.nph l.npd; completion = class_ledger l.cplh l.cpld }

-- ---- room, in whole numbers

-- the gate's counter stands for these whole numbers, of which no more than the limit is unused
pub record StandsFor (p : Part) (a : Allowance) (known used : ℕ) : Type 0 where
  pub limit : a.limit ≡ known % modulus p
  pub consumed : a.consumed ≡ used % modulus p
  pub used_known : used ≤ known
  pub unused : known ≤ used + most p

-- the room, known - used, is enough; an infinite counter has room for all
abbrev pub HasRoom : Allowance → ℕ → ℕ → ℕ → Type 0
HasRoom a known used units = 0 < a.first → used + units ≤ known
