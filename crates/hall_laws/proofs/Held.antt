-- The kind of a part that was taken, by its slot.
use Rattle.std.proofs.Common.{◌≡◌, ℕ, zero, suc, ◌+◌, ◌<◌, ◌≤◌, List, sym, ap, ◌∙◌, subst, arith}
use mathlib.Core.Option.{some, some-injective}
use lib.ListN.{get_elem?}
use Rattle.dllp_core.specs.declared.packet.Dllp.{Dllp}
use Rattle.seq_memory.specs.History.{MemoryView}
use Rattle.requester_core.specs.RequesterView.{RequesterView}
use Rattle.lane_core.specs.declared.packet.WirePacket.{WirePacket}
use Rattle.lane_core.specs.Steps.{LaneEndsView, ReceiverEndView, SenderEndView}
use Rattle.fabric_steps.specs.declared.event.LaneName.{LaneName}
use Rattle.hall_laws.specs.declared.part.PartValue.{PartValue}
use Rattle.hall_laws.specs.declared.part.PartValue.TheVariants.{Memory, Requester, Sender, Forward, Back, Receiver}
use Rattle.hall_laws.specs.declared.token.Token.{Token}
use Rattle.hall_laws.specs.declared.part.Part.{Part}
use Rattle.hall_laws.specs.declared.part.Part.TheVariants as names
use Rattle.hall_laws.specs.Parts.{ends, slot, lane_slot, part_slot, IsLaneName, IsPartName, IsPartValue}
use Rattle.hall_laws.specs.Standing.{token_of, holding_first}
use Rattle.hall_laws.specs.Rule.{Known, parts}
use Rattle.hall_laws.proofs.Parts.{has_at, get_requester, get_end}
use Rattle.hall_laws.proofs.Lanes.{lane_there}

module _ (ts : List Token) (k : ℕ) (v : PartValue) (known : Known (holding_first k v ts)) where
  memory_there : k ≡ 0 → (m : MemoryView) × (v ≡ Memory m)
  memory_there at = (known.0.fabric.memory, sym (some-injective (Memory known.0.fabric.memory) v (ap (get_elem? (parts known.0)) (sym at) ∙ known.2.0.0.0)))

  requester_there : (port : ℕ) → 0 < port → port ≤ (token_of ts).knows.config.requesters → k ≡ slot port 0 → (q : RequesterView) × (v ≡ Requester q)
  requester_there zero some_port small at = absurd (omega arith)
  requester_there (suc i) some_port small at =
      let f = known.0.fabric in
      let q = has_at f.requesters i (omega (arith, known.2.0.1.config.requesters)) in
      (q.0, sym (some-injective (Requester q.0) v (sym (get_requester f known.1.sound.lanes i q.0 k q.1 at) ∙ known.2.0.0.0)))

  end_there : (name : LaneName) (c : ℕ) → IsLaneName (token_of ts).knows.config.requesters name → c < 4 → k ≡ lane_slot name + c → (e : LaneEndsView) × (get_elem? (ends e) c ≡ some v)
  end_there name c named small at =
      let f = known.0.fabric in
      let lane = lane_there f known.1.sound.lanes name (subst (λ (n : ℕ). IsLaneName n name) (sym known.2.0.1.config.requesters) named) in
      (lane.0, sym (get_end f known.1.sound.lanes name lane.0 c k lane.1 small at) ∙ known.2.0.0.0)

  sender_there : (name : LaneName) → IsLaneName (token_of ts).knows.config.requesters name → k ≡ lane_slot name → (s : SenderEndView) × (v ≡ Sender s)
  sender_there name named at = let e = end_there name 0 named (omega arith) (omega arith) in (e.0.sender, sym (some-injective (Sender e.0.sender) v e.1))

  forward_there : (name : LaneName) → IsLaneName (token_of ts).knows.config.requesters name → k ≡ lane_slot name + 1 → (w : List WirePacket) × (v ≡ Forward w)
  forward_there name named at = let e = end_there name 1 named (omega arith) at in (e.0.forward, sym (some-injective (Forward e.0.forward) v e.1))

  back_there : (name : LaneName) → IsLaneName (token_of ts).knows.config.requesters name → k ≡ lane_slot name + 2 → (w : List Dllp) × (v ≡ Back w)
  back_there name named at = let e = end_there name 2 named (omega arith) at in (e.0.back, sym (some-injective (Back e.0.back) v e.1))

  receiver_there : (name : LaneName) → IsLaneName (token_of ts).knows.config.requesters name → k ≡ lane_slot name + 3 → (r : ReceiverEndView) × (v ≡ Receiver r)
  receiver_there name named at = let e = end_there name 3 named (omega arith) at in (e.0.receiver, sym (some-injective (Receiver e.0.receiver) v e.1))

  pub part_there : (part : Part) → IsPartName (token_of ts).knows.config.requesters part → k ≡ part_slot part → IsPartValue part v
  part_there names.Memory named at = memory_there at
  part_there (names.Requester port) named at = requester_there port named.0 named.1 at
  part_there (names.SenderEnd name) named at = sender_there name named at
  part_there (names.ForwardWire name) named at = forward_there name named at
  part_there (names.BackWire name) named at = back_there name named at
  part_there (names.ReceiverEnd name) named at = receiver_there name named at
