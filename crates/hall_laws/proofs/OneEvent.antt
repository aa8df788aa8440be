-- An event over the parts that a seat holds, as that of the fabric.
use Rattle.std.proofs.Common.{◌≡◌, ◌≢◌, ℕ, zero, suc, ◌+◌, ◌<◌, ◌≤◌, Bool, true, false, List, [], ◌∷◌, refl, sym, ap, ◌∙◌, inl, inr, ⊎_elim, subst, arith, Some, Result, Ok, Err}
use Rattle.std.specs.Prelude.{if◌then◌else◌, ◌==◌, ◌&&◌, not}
use Rattle.std.proofs.lemmas.Bool.Decides.{nat_tests}
use mathlib.Core.Option.{some, some-injective}
use lib.ListN.{get_elem?}
use Rattle.tlp_core.specs.TlpView.{TlpView}
use Rattle.tlp_core.specs.Operation.{is_completion}
use Rattle.dllp_core.specs.declared.packet.Dllp.{Dllp}
use Rattle.seq_memory.specs.History.{MemoryView}
use Rattle.requester_core.specs.RequesterView.{RequesterView}
use Rattle.flow_control.specs.Queue.{Item}
use Rattle.history_words.specs.Records.{Record}
use Rattle.lane_core.specs.declared.packet.WirePacket.{WirePacket}
use Rattle.lane_core.specs.Steps.{LaneEndsView, ReceiverEndView, SenderEndView}
use Rattle.switch_core.specs.Routing.{route, port_of, is_requester}
use Rattle.switch_core.specs.declared.route_fault.RouteFault.TheVariants.{NoPort}
use Rattle.fabric_steps.specs.Lists.{Each}
use Rattle.fabric_steps.specs.Fabric.{Fabric}
use Rattle.fabric_steps.specs.Event.{Event, Seen}
use Rattle.fabric_steps.specs.declared.event.LaneName.{LaneName}
use Rattle.fabric_steps.specs.declared.event.LaneName.TheVariants as lanes
use Rattle.fabric_steps.specs.declared.fault.Refusal.{Refusal}
use Rattle.fabric_steps.specs.declared.fault.Refusal.TheVariants as refusals
use Rattle.fabric_core.specs.Answers.{and_then, map_err, Refuses, map_ok, item_at, destination_on, lane_at}
use Rattle.fabric_core.specs.Kept.{records_of}
use Rattle.fabric_core.specs.Steps.{HasLane, HasPart}
use Rattle.hall_laws.specs.declared.part.PartValue.{PartValue}
use Rattle.hall_laws.specs.declared.part.PartValue.TheVariants.{Memory, Requester, Sender, Forward, Back, Receiver}
use Rattle.hall_laws.specs.declared.token.Token.{Token}
use Rattle.hall_laws.specs.declared.token.Knowledge.{Knowledge}
use Rattle.hall_laws.specs.Waiting.{requester_in}
use Rattle.hall_laws.specs.Parts.{ends, lane_slot, slot, IsLaneName}
use Rattle.hall_laws.specs.Standing.{Values, Covers}
use Rattle.hall_laws.specs.Rule.{Traced, IsSoundTraced, Fits, Goes, GoesOver, Agrees, Apart, parts}
use Rattle.hall_laws.proofs.Parts.{has_at, get_requester, get_end}
use Rattle.hall_laws.proofs.Lanes.{lane_there}

-- ---- a part by its value

pub is_sender : (a b : SenderEndView) → some (Sender a) ≡ some (Sender b) → a ≡ b
is_sender a b e = let same : Sender a ≡ Sender b = some-injective (Sender a) (Sender b) e in cc

pub is_receiver : (a b : ReceiverEndView) → some (Receiver a) ≡ some (Receiver b) → a ≡ b
is_receiver a b e = let same : Receiver a ≡ Receiver b = some-injective (Receiver a) (Receiver b) e in cc

pub is_forward : (a b : List WirePacket) → some (Forward a) ≡ some (Forward b) → a ≡ b
is_forward a b e = let same : Forward a ≡ Forward b = some-injective (Forward a) (Forward b) e in cc

pub is_back : (a b : List Dllp) → some (Back a) ≡ some (Back b) → a ≡ b
is_back a b e = let same : Back a ≡ Back b = some-injective (Back a) (Back b) e in cc

pub is_requester_part : (a b : RequesterView) → some (Requester a) ≡ some (Requester b) → a ≡ b
is_requester_part a b e = let same : Requester a ≡ Requester b = some-injective (Requester a) (Requester b) e in cc

pub is_memory : (a b : MemoryView) → some (Memory a) ≡ some (Memory b) → a ≡ b
is_memory a b e = let same : Memory a ≡ Memory b = some-injective (Memory a) (Memory b) e in cc

-- ---- the parts of a fabric

pub lane_is : (f : Fabric) (name : LaneName) (e : LaneEndsView) → HasLane f name e → lane_at f name ≡ Ok e
lane_is f (lanes.Up port) e (place, has) = rw (has.is_port, has.there) refl
lane_is f (lanes.Down port) e (place, has) = rw (has.is_port, has.there) refl
lane_is f lanes.Inward e has = ap Ok has
lane_is f lanes.Outward e has = ap Ok has

-- a fabric that fits what a seat knows
module _ (s : Traced) (sound : IsSoundTraced s) (w : Knowledge) (fits : Fits s w) where
  -- it has the lane of a name that the seat knows
  pub the_lane : (name : LaneName) → IsLaneName w.config.requesters name → (e : LaneEndsView) × HasLane s.fabric name e
  the_lane name named = lane_there s.fabric sound.sound.lanes name (subst (λ (n : ℕ). IsLaneName n name) (sym fits.config.requesters) named)

  -- an end of it is the part at its slot
  pub the_end : (name : LaneName) (e : LaneEndsView) (c k : ℕ) (v : PartValue) → HasLane s.fabric name e → c < 4 → k ≡ lane_slot name + c → get_elem? (parts s) k ≡ some v → get_elem? (ends e) c ≡ some v
  the_end name e c k v has small at is = sym (get_end s.fabric sound.sound.lanes name e c k has small at) ∙ is

  -- it has a requester at a port that the seat knows, and that is the part at its slot
  pub the_requester : (port : ℕ) (q : RequesterView) → 0 < port → port ≤ w.config.requesters → get_elem? (parts s) (slot port 0) ≡ some (Requester q) → (place : ℕ) × HasPart s.fabric.requesters port place q
  the_requester zero q some_port small is = absurd (omega arith)
  the_requester (suc i) q some_port small is =
      let there = has_at s.fabric.requesters i (omega (arith, fits.config.requesters)) in
      let same : there.0 ≡ q = is_requester_part there.0 q (sym (get_requester s.fabric sound.sound.lanes i there.0 (slot (suc i) 0) there.1 refl) ∙ is) in
      (i, record { is_port = refl; there = there.1 ∙ ap Some same })

-- ---- what is left of the parts that are held

-- of these parts that of slot j is released, and those are left
pub record Leaves (held : Values) (j : ℕ) (left : Values) : Type 0 where
  pub covers : Covers held j
  pub others : Each (λ (kv : ℕ × PartValue). (kv.0 ≢ j) × Covers held kv.0) left
  pub keeps : (i : ℕ) → i ≢ j → Covers held i → Covers left i
  pub apart : Apart left

pub leave_one : (j : ℕ) (v : PartValue) → Leaves ((j, v) ∷ []) j []
leave_one j v = record { covers = inl refl; others = tt; keeps = λ i ne x. ⊎_elim (λ (a : j ≡ i). absurd (ne (sym a))) (λ (z : ⊥). absurd z) x; apart = tt }

-- the part that was taken first is released
pub leave_two : (j k : ℕ) (v w w' : PartValue) → k ≢ j → Leaves ((k, w) ∷ ((j, v) ∷ [])) j ((k, w') ∷ [])
leave_two j k v w w' apart = record {
  covers = inr (inl refl);
  others = ((apart, inl refl), tt);
  keeps = λ i ne x. ⊎_elim (λ (a : k ≡ i). inl a) (λ (y : Covers ((j, v) ∷ []) i). ⊎_elim (λ (a : j ≡ i). absurd (ne (sym a))) (λ (z : ⊥). absurd z) y) x;
  apart = (tt, tt);
}

-- of three parts the second is released; the third is the memory, at slot 0
pub leave_second : (u r : ℕ) (x x' y z z' : PartValue) → 0 < u → 0 < r → u ≢ r → Leaves ((u, x) ∷ ((r, y) ∷ ((0, z) ∷ []))) r ((u, x') ∷ ((0, z') ∷ []))
leave_second u r x x' y z z' some_u some_r apart = record {
  covers = inr (inl refl);
  others = ((apart, inl refl), (((λ e. omega arith), inr (inr (inl refl))), tt));
  keeps = λ i ne c. ⊎_elim (λ (a : u ≡ i). inl a) (λ (d : Covers ((r, y) ∷ ((0, z) ∷ [])) i). ⊎_elim (λ (a : r ≡ i). absurd (ne (sym a))) (λ (q : Covers ((0, z) ∷ []) i). inr q) d) c;
  apart = (((λ e. omega arith), tt), (tt, tt));
}

-- those of a serving
pub leave_in : (x x' y y' z : PartValue) → Leaves ((5, x) ∷ ((0, y) ∷ ((4, z) ∷ []))) 4 ((0, y') ∷ ((5, x') ∷ []))
leave_in x x' y y' z = record {
  covers = inr (inr (inl refl));
  others = (((λ e. omega arith), inr (inl refl)), (((λ e. omega arith), inl refl), tt));
  keeps = λ i ne c. ⊎_elim (λ (a : 5 ≡ i). inr (inl a))
      (λ (d : Covers ((0, y) ∷ ((4, z) ∷ [])) i). ⊎_elim (λ (a : 0 ≡ i). inl a) (λ (q : Covers ((4, z) ∷ []) i). ⊎_elim (λ (a : 4 ≡ i). absurd (ne (sym a))) (λ (n : ⊥). absurd n) q) d) c;
  apart = (((λ e. omega arith), tt), (tt, tt));
}

pub goes : (event : Event) (what : Seen) (t t' : Token) (j : ℕ) (v : PartValue) (held : Values) → t.held ≡ held → Leaves held j t'.held
    → ((n : ℕ) → Each (λ (r : Record). requester_in r ≡ suc t.knows.number) (records_of event what n))
    → ((s : Traced) → IsSoundTraced s → Agrees s held → Fits s t.knows → GoesOver s.fabric event what t.knows j v t') → Goes event what t j v t'
goes event what t t' j v held is left own step = record {
  covers = subst (λ (l : Values). Covers l j) (sym is) left.covers;
  others = subst (λ (l : Values). Each (λ (kv : ℕ × PartValue). (kv.0 ≢ j) × Covers l kv.0) t'.held) (sym is) left.others;
  keeps = λ i ne c. left.keeps i ne (subst (λ (l : Values). Covers l i) is c);
  apart = left.apart;
  own = own;
  step = λ s sound a f. step s sound (subst (Agrees s) is a) f;
}

-- ---- refusals

pub refuses_mapped : {A B : Type 0} (p : A → Refusal → Type 0) (q : B → Refusal → Type 0) (f : A → B) (a : Result A Refusal) (r : Refusal) → ((x : A) → p x r → q (f x) r) → Refuses p a r → Refuses q (map_ok a f) r
refuses_mapped p q f (Ok x) r same h = same x h
refuses_mapped p q f (Err x) r same h = h

pub refuses_err : {A : Type 0} (grows : A → Refusal → Type 0) (a : Result A Refusal) (r : Refusal) → a ≡ Err r → Refuses grows a r
refuses_err grows a r is = subst (λ (z : Result _ Refusal). Refuses grows z r) (sym is) refl

-- ---- the ways of packets

-- a packet that came in from a requester goes to the memory
pub goes_inward : (r : ReceiverEndView) (place from to : ℕ) → 0 < from → destination_on r place from ≡ Ok to → to ≡ 0
goes_inward r place from to some_port h = by_item (item_at r place) h
  where
    not_memory : (from == 0) ≡ false
    not_memory = grind (arith, nat_tests)

    by_kind : (t : TlpView) (c z : Bool) → z ≡ false → map_err refusals.Route (if c then (if z && is_requester (port_of t) then Ok (port_of t) else Err NoPort) else (if not z then Ok 0 else Err NoPort)) ≡ Ok to → to ≡ 0
    by_kind t c true e k = absurd cc
    by_kind t true false e k = absurd cc
    by_kind t false false e k = cc

    by_item : (a : Result Item Refusal) → and_then a (λ x. map_err refusals.Route (route x.0 from)) ≡ Ok to → to ≡ 0
    by_item (Err x) e = absurd cc
    by_item (Ok x) e = by_kind x.0 (is_completion x.0.kind) (from == 0) not_memory e

-- one that came in from the memory goes to a requester
pub goes_outward : (r : ReceiverEndView) (place : ℕ) → destination_on r place 0 ≡ Ok 0 → ⊥
goes_outward r place h = by_item (item_at r place) h
  where
    by_kind : (t : TlpView) (c z : Bool) → is_requester (port_of t) ≡ z → map_err refusals.Route (if c then (if true && z then Ok (port_of t) else Err NoPort) else (if false then Ok 0 else Err NoPort)) ≡ Ok 0 → ⊥
    by_kind t true true e k = let port : port_of t ≡ 0 = cc in grind (arith, nat_tests)
    by_kind t true false e k = absurd cc
    by_kind t false z e k = absurd cc

    by_item : (a : Result Item Refusal) → and_then a (λ x. map_err refusals.Route (route x.0 0)) ≡ Ok 0 → ⊥
    by_item (Err x) e = absurd cc
    by_item (Ok x) e = by_kind x.0 (is_completion x.0.kind) (is_requester (port_of x.0)) refl e
