-- What a chart keeps of each lane, beside the lane of the fabric.
use Rattle.std.specs.Prelude.{ℕ, ◌≡◌, true, List, [], ◌∷◌, map, Option, Some, None, slice_get, Ok}
use Rattle.tlp_core.specs.Ops.{Op}
use Rattle.tlp_core.specs.Operation.{op_of}
use Rattle.seq_memory.specs.Entries.{Entry}
use Rattle.link_replay.specs.CargoView.{CargoView}
use Rattle.switch_core.specs.Routing.{port_of}
use Rattle.flow_control.specs.Queue.{Item}
use Rattle.lane_core.specs.declared.packet.WirePacket.{WirePacket}
use Rattle.lane_core.specs.Content.{item_spelled}
use Rattle.lane_core.specs.Steps.{LaneEndsView}
use Rattle.fabric_steps.specs.Fabric.{Fabric}
use Rattle.fabric_steps.specs.declared.event.LaneName.{LaneName}
use Rattle.fabric_core.specs.Answers.{lane_at, Happens}
use Rattle.chart_rows.specs.declared.row.Carried.{Carried}
use Rattle.chart_rows.specs.declared.row.PacketSent.{PacketSent}
use Rattle.chart_links.specs.CourseView.{CourseView}
use Rattle.chart_links.specs.Lanes.{place_of, request_of}
use Rattle.chart_laws.specs.Arrows.{Tale}

-- two lists are of the same length, and what stands at each place of one is so with what stands there in the other
abbrev pub AreSo : {X Y : Type 0} → (X → Y → Type 0) → List X → List Y → Type 0
AreSo so [] [] = Unit {0}
AreSo so (x ∷ xs) (y ∷ ys) = so x y × AreSo so xs ys
AreSo so _ _ = ⊥

-- ---- what a packet carries

-- the operation acted on the memory, under that requester and number
abbrev pub HasActed : List Entry → ℕ → ℕ → Op → Type 0
HasActed history requester number op = (place : ℕ) × (slice_get history place ≡ Some (record { requester = requester; number = number; op = op }))

-- a request of this operation, or the completion of one that acted, whose operation its packet doesn't say
abbrev pub IsOf : List Entry → Option Op → ℕ → ℕ → Carried → Type 0
IsOf history (Some op) requester number c = c ≡ request_of requester number op
IsOf history None requester number c = (op : Op) × HasActed history requester number op × (c ≡ record (request_of requester number op) { is_completion = true })

-- the chart says of a packet its operation, the port of its Requester ID, and its mark, which is the request's number
abbrev pub IsSaid : List Entry → Item → Option Carried → Type 0
IsSaid history x None = ⊥
IsSaid history x (Some c) = IsOf history (op_of x.0) (port_of x.0) x.1 c

-- these are the packet's bytes
abbrev pub IsSaidOfBytes : List Entry → CargoView → Option Carried → Type 0
IsSaidOfBytes history cargo c = (x : Item) × (item_spelled cargo ≡ Some x) × IsSaid history x c

abbrev pub IsSaidOnWire : List Entry → WirePacket → PacketSent → Type 0
IsSaidOnWire history p sent = (sent.number ≡ p.number) × IsSaidOfBytes history p.cargo sent.carried

-- ---- the account of a lane

pub record IsAccountOf (history : List Entry) (e : LaneEndsView) (c : CourseView) : Type 0 where
  -- the sender: ACKD_SEQ, the unacknowledged packets, how many of them were sent, and REPLAY_NUM
  pub acked : c.acked ≡ e.sender.sending.acked
  pub kept : AreSo (IsSaidOfBytes history) e.sender.sending.kept c.kept
  pub place : c.place ≡ e.sender.sending.place
  pub replays : c.replays ≡ e.sender.sending.replays
  -- the packets on the wire, and the DLLPs on the wire back
  pub wire : AreSo (IsSaidOnWire history) e.forward c.wire
  pub back : map (λ d. d.dllp) c.back ≡ e.back
  -- the accepted packets
  pub queue : AreSo (IsSaid history) e.receiver.queue c.queue

-- each lane of the fabric has its account at its place
abbrev pub AreAccountsOf : Fabric → List CourseView → Type 0
AreAccountsOf f cs = (lane : LaneName) (e : LaneEndsView) → lane_at f lane ≡ Ok e → (c : CourseView) × (slice_get cs (place_of lane) ≡ Some c) × IsAccountOf f.memory.entries e c

-- ---- tales

-- each tale of an event is of one that happens to the fabric which the earlier ones leave, and of its result; all of them leave
-- the other fabric
abbrev pub Happen : Fabric → List Tale → Fabric → Type 0
Happen f [] f' = f ≡ f'
Happen f (Tale.Settles line ∷ ts) f' = Happen f ts f'
Happen f (Tale.Happens t ∷ ts) f' = (g : Fabric) × Happens f t.event t.what g × Happen g ts f'
