-- The whole numbers behind the counters of a gate and a ledger that stand for one direction of a link.
use Rattle.std.specs.Prelude.{◌≡◌, ℕ, ◌+◌, ◌%◌, ◌<◌, ◌≤◌, ◌↔◌, IsTrue, Bool, true, false, nat_le, ◌&&◌, if◌then◌else◌, Option, Some, None, List, [], ◌∷◌, ◌++◌, map, filter_map, sum_by, slice_get, remove}
use Rattle.dllp_core.specs.declared.packet.Class.{Class}
use Rattle.dllp_core.specs.declared.packet.Dllp.{Dllp}
use Rattle.dllp_core.specs.declared.packet.Dllp.TheVariants.{Ack, Nak, Update}
use Rattle.flow_control.specs.declared.needs.Need.{Need}
use Rattle.flow_control.specs.declared.limits.LaneCredits.{LaneCredits}
use Rattle.flow_control.specs.declared.counter.Part.{Part}
use Rattle.flow_control.specs.declared.counter.Allowance.{Allowance}
use Rattle.flow_control.specs.declared.counter.Grant.{Grant}
use Rattle.flow_control.specs.declared.ledger.CreditLedger.{CreditLedger}
use Rattle.flow_control.specs.Credits.{CreditGateView, modulus, most, covers, overflows, allocated, same, pick, amount, allowance, grant, gate_covers, after_consume, after_limit, after_received, after_freed, update_of, first_of, first_gate, first_ledger}

-- ---- one counter

-- all that was given (the first value and what was freed), what of it reached the gate, all that was used,
-- all that was received, and what was given when each UpdateFC that is under way was sent, oldest first
pub record Account : Type 0 where
  pub given : ℕ
  pub known : ℕ
  pub used : ℕ
  pub received : ℕ
  pub sent : List ℕ

-- the numbers never fall, from the low one to the high one
abbrev pub Rising : ℕ → ℕ → List ℕ → Type 0
Rising low high [] = low ≤ high
Rising low high (v ∷ vs) = (low ≤ v) × Rising v high vs

-- the counters stand for these numbers; the queue and the packets under way hold so many units, and the updates
-- under way carry these values
pub record IsCounted (p : Part) (a : Allowance) (g : Grant) (n : Account) (queue on_the_way : ℕ) (updates : List ℕ) : Type 0 where
  pub limit : a.limit ≡ n.known % modulus p
  pub consumed : a.consumed ≡ n.used % modulus p
  pub allocated : allocated p g ≡ n.given % modulus p
  pub received : g.received ≡ n.received % modulus p
  pub carried : updates ≡ map (λ v. v % modulus p) n.sent
  pub used_known : n.used ≤ n.known
  pub rising : Rising n.known n.given n.sent
  pub queued : n.given + queue ≡ n.received + g.first
  pub under_way : n.received + on_the_way ≡ n.used

-- the same of a counter of any first value, where 0 is infinite and nothing is counted
pub record IsCredit (p : Part) (first : ℕ) (a : Allowance) (g : Grant) (n : Account) (queue on_the_way : ℕ) (updates : List ℕ) : Type 0 where
  pub gate_first : a.first ≡ first
  pub ledger_first : g.first ≡ first
  pub small : first ≤ most p
  pub counted : 0 < first → IsCounted p a g n queue on_the_way updates

-- ---- the six counters of one direction

abbrev pub Accounts : Type 0
Accounts = Class → Part → Account

-- what packets of these needs take of a counter
abbrev pub demand : Class → Part → List Need → ℕ
demand c p needs = sum_by (amount c p) needs

-- what a DLLP says of a counter
abbrev pub update_in : Class → Part → Dllp → Option ℕ
update_in c p (Update class header units) = if same c class then Some (pick p header units) else None
update_in c p (Ack n) = None
update_in c p (Nak n) = None

abbrev pub updates_in : Class → Part → List Dllp → List ℕ
updates_in c p dllps = filter_map (update_in c p) dllps

-- the numbers stand behind a gate and a ledger, where these needs are in the queue and under way, and these DLLPs are
-- on their way back; Acks and Naks among them say nothing
abbrev pub HasCredit : LaneCredits → CreditGateView → CreditLedger → Accounts → List Need → List Need → List Dllp → Type 0
HasCredit credits gate ledger numbers queue on_the_way wire =
    (c : Class) (p : Part) →
    IsCredit p (first_of c p credits) (allowance c p gate) (grant c p ledger) (numbers c p) (demand c p queue) (demand c p on_the_way) (updates_in c p wire)

-- how the numbers change

abbrev pub uses : Account → ℕ → Account
uses n units = record n { used = n.used + units }

abbrev pub receives : Account → ℕ → Account
receives n units = record n { received = n.received + units }

abbrev pub gives : Account → ℕ → Account
gives n units = record n { given = n.given + units }

-- an update tells what is given now
abbrev pub tells : Account → Account
tells n = record n { sent = n.sent ++ n.given ∷ [] }

-- the oldest update is lost
abbrev pub loses : Account → List ℕ → Account
loses n [] = n
loses n (v ∷ vs) = record n { sent = vs }

-- the oldest update reaches the gate
abbrev pub learns : Account → List ℕ → Account
learns n [] = n
learns n (v ∷ vs) = record n { known = v; sent = vs }

-- the same for a counter that the update is of, or is not of

abbrev pub told_to : Bool → Account → Account
told_to true n = tells n
told_to false n = n

abbrev pub lost_to : Bool → Account → Account
lost_to true n = loses n n.sent
lost_to false n = n

abbrev pub known_to : Bool → Account → Account
known_to true n = learns n n.sent
known_to false n = n

-- ---- any list of calls

-- a gate and a ledger, the needs of the packets between them and in the queue, and the DLLPs on their way back
pub record Direction : Type 0 where
  pub gate : CreditGateView
  pub ledger : CreditLedger
  pub on_the_way : List Need
  pub queue : List Need
  pub wire : List Dllp

-- what can happen
pub data Event : Type 0 where
  -- a packet of this need goes, where its need is within the limits and fits
  Consume : Need → Event
  -- the oldest packet under way is received
  Receive : Event
  -- the packet at this place leaves the queue
  Free : ℕ → Event
  -- the ledger's update of a class is sent
  Tell : Class → Event
  -- the oldest DLLP under way reaches the gate
  Learn : Event
  -- the oldest DLLP under way is lost
  Lose : Event

-- no more than the limits
abbrev pub is_small : Need → Bool
is_small need = nat_le need.header 127 && nat_le need.units 2047

abbrev pub may_go : CreditGateView → Need → Bool
may_go gate need = is_small need && gate_covers gate need

abbrev pub consumed_if : Bool → Direction → Need → Direction
consumed_if true d need = record d { gate = after_consume d.gate need; on_the_way = d.on_the_way ++ need ∷ [] }
consumed_if false d need = d

abbrev pub received_from : List Need → Direction → Direction
received_from [] d = d
received_from (need ∷ needs) d =
    record d { ledger = after_received d.ledger need; on_the_way = needs; queue = d.queue ++ need ∷ [] }

abbrev pub freed_at : Option Need → Direction → ℕ → Direction
freed_at None d place = d
freed_at (Some need) d place = record d { ledger = after_freed d.ledger need; queue = remove d.queue place }

abbrev pub gate_told : CreditGateView → Dllp → CreditGateView
gate_told gate (Update class header units) = after_limit gate class header units
gate_told gate (Ack n) = gate
gate_told gate (Nak n) = gate

abbrev pub learned_from : List Dllp → Direction → Direction
learned_from [] d = d
learned_from (dllp ∷ dllps) d = record d { gate = gate_told d.gate dllp; wire = dllps }

abbrev pub lost_from : List Dllp → Direction → Direction
lost_from [] d = d
lost_from (dllp ∷ dllps) d = record d { wire = dllps }

abbrev pub after_event : Direction → Event → Direction
after_event d (Consume need) = consumed_if (may_go d.gate need) d need
after_event d Receive = received_from d.on_the_way d
after_event d (Free place) = freed_at (slice_get d.queue place) d place
after_event d (Tell class) = record d { wire = d.wire ++ update_of d.ledger class ∷ [] }
after_event d Learn = learned_from d.wire d
after_event d Lose = lost_from d.wire d

-- the numbers after it

abbrev pub used_if : Bool → Accounts → Need → Accounts
used_if true numbers need = λ c p. uses (numbers c p) (amount c p need)
used_if false numbers need = numbers

abbrev pub received_by : List Need → Accounts → Accounts
received_by [] numbers = numbers
received_by (need ∷ needs) numbers = λ c p. receives (numbers c p) (amount c p need)

abbrev pub given_by : Option Need → Accounts → Accounts
given_by None numbers = numbers
given_by (Some need) numbers = λ c p. gives (numbers c p) (amount c p need)

abbrev pub known_by : Dllp → Class → Account → Account
known_by (Update class header units) c n = known_to (same c class) n
known_by (Ack a) c n = n
known_by (Nak a) c n = n

abbrev pub lost_by : Dllp → Class → Account → Account
lost_by (Update class header units) c n = lost_to (same c class) n
lost_by (Ack a) c n = n
lost_by (Nak a) c n = n

abbrev pub known_from : List Dllp → Accounts → Accounts
known_from [] numbers = numbers
known_from (dllp ∷ dllps) numbers = λ c p. known_by dllp c (numbers c p)

abbrev pub unlearned_from : List Dllp → Accounts → Accounts
unlearned_from [] numbers = numbers
unlearned_from (dllp ∷ dllps) numbers = λ c p. lost_by dllp c (numbers c p)

abbrev pub numbers_after : Direction → Accounts → Event → Accounts
numbers_after d numbers (Consume need) = used_if (may_go d.gate need) numbers need
numbers_after d numbers Receive = received_by d.on_the_way numbers
numbers_after d numbers (Free place) = given_by (slice_get d.queue place) numbers
numbers_after d numbers (Tell class) = λ c p. told_to (same c class) (numbers c p)
numbers_after d numbers Learn = known_from d.wire numbers
numbers_after d numbers Lose = unlearned_from d.wire numbers

-- a new direction, and any list of events

abbrev pub new_direction : LaneCredits → Direction
new_direction credits =
    record { gate = first_gate credits; ledger = first_ledger credits; on_the_way = []; queue = []; wire = [] }

abbrev pub first_numbers : LaneCredits → Accounts
first_numbers credits =
    λ c p. record { given = first_of c p credits; known = first_of c p credits; used = 0; received = 0; sent = [] }

abbrev pub after_events : Direction → List Event → Direction
after_events d [] = d
after_events d (event ∷ events) = after_events (after_event d event) events

abbrev pub numbers_in : Direction → Accounts → List Event → Accounts
numbers_in d numbers [] = numbers
numbers_in d numbers (event ∷ events) = numbers_in (after_event d event) (numbers_after d numbers event) events

-- ---- what follows for one finite counter

pub record IsRight (p : Part) (first : ℕ) (a : Allowance) (g : Grant) (n : Account) (queue on_the_way : ℕ) : Type 0 where
  pub used_known : n.used ≤ n.known
  pub known_given : n.known ≤ n.given
  pub balance : n.given + (queue + on_the_way) ≡ n.used + first
  pub queue_fits : queue ≤ first
  pub room : (units : ℕ) → units ≤ most p → IsTrue (covers p a units) ↔ (n.used + units ≤ n.known)
  pub no_overflow : overflows p g ≡ false
