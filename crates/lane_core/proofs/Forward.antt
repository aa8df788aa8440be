-- What a call does to the packets on the forward wire.
use Rattle.std.proofs.Common.{◌≡◌, ℕ, zero, suc, ◌+◌, ◌-◌, ◌%◌, ◌<◌, ◌≤◌, max, List, [], ◌∷◌, ◌++◌, length, Some, arith}
use Rattle.std.specs.Prelude.{slice_get}
use Rattle.std.proofs.lemmas.Option.{slice_get_within}
use Rattle.lane_core.specs.declared.packet.WirePacket.{WirePacket}
use Rattle.link_replay.specs.CargoView.{CargoView}
use Rattle.lane_core.proofs.UnderWay.{ahead_of, MayArrive, IsForward}
use Rattle.lane_core.proofs.Arithmetic.{ahead_step}

-- less may have come before
pub weaker : (next : ℕ) (rest : List CargoView) (most less : ℕ) (ps : List WirePacket) → less ≤ most → IsForward next rest most ps → IsForward next rest less ps
weaker next rest most less [] h f = tt
weaker next rest most less (p ∷ ps) h f = (
  record { in_range = f.0.in_range; near = (let near : most ≤ ahead_of p.number next + 2047 = f.0.near in omega arith); cargo = f.0.cargo },
  weaker next rest (max most (ahead_of p.number next + 1)) (max less (ahead_of p.number next + 1)) ps (omega arith) f.1,
)

pub slice_get-append : (xs ys : List CargoView) (i : ℕ) (x : CargoView) → slice_get xs i ≡ Some x → slice_get (xs ++ ys) i ≡ Some x
slice_get-append [] ys i x h = cc
slice_get-append (y ∷ xs) ys zero x h = h
slice_get-append (y ∷ xs) ys (suc i) x h = slice_get-append xs ys i x h

-- an item is entered
pub longer : (next : ℕ) (rest more : List CargoView) (most : ℕ) (ps : List WirePacket) → IsForward next rest most ps → IsForward next (rest ++ more) most ps
longer next rest more most [] f = tt
longer next rest more most (p ∷ ps) f = (
  record { in_range = f.0.in_range; near = f.0.near; cargo = λ h. slice_get-append rest more _ _ (f.0.cargo h) },
  longer next rest more (max most (ahead_of p.number next + 1)) ps f.1,
)

-- no packet is past the last entered item
pub below_end : (next : ℕ) (rest : List CargoView) (most : ℕ) (p : WirePacket) → MayArrive next rest most p → ahead_of p.number next < 2048 + length rest
below_end next rest most p h =
    let inside : 2048 ≤ ahead_of p.number next → ahead_of p.number next - 2048 < length rest =
    λ far. slice_get_within rest (ahead_of p.number next - 2048) p.cargo (h.cargo far) in
    grind arith

-- a packet is sent
pub one_more : (next : ℕ) (rest : List CargoView) (most : ℕ) (ps : List WirePacket) (p : WirePacket) → most ≤ 2048 + length rest →
    IsForward next rest most ps → MayArrive next rest (2048 + length rest) p → IsForward next rest most (ps ++ p ∷ [])
one_more next rest most [] p h f a =
    (record { in_range = a.in_range; near = (let near : 2048 + length rest ≤ ahead_of p.number next + 2047 = a.near in omega arith); cargo = a.cargo }, tt)
one_more next rest most (q ∷ ps) p h f a =
    (f.0, one_more next rest (max most (ahead_of q.number next + 1)) ps p (let b = below_end next rest most q f.0 in omega arith) f.1 a)

-- the packet that was waited for is taken
pub accepted : (next : ℕ) (item : CargoView) (rest : List CargoView) (most : ℕ) (ps : List WirePacket) → next < 4096 → 2048 ≤ most →
    IsForward next (item ∷ rest) (most + 1) ps → IsForward ((next + 1) % 4096) rest most ps
accepted next item rest most [] n m f = tt
accepted next item rest most (p ∷ ps) n m f =
    let near : most + 1 ≤ ahead_of p.number next + 2047 = f.0.near in
    let step : ahead_of p.number ((next + 1) % 4096) ≡ ahead_of p.number next - 1 =
    ahead_step p.number next (ahead_of p.number next - 1) f.0.in_range n (omega arith) in (
      record {
        in_range = f.0.in_range;
        near = omega arith;
        cargo = λ far.
            let place : ahead_of p.number next - 2048 ≡ suc (ahead_of p.number ((next + 1) % 4096) - 2048) = omega arith in
            rw place at (f.0.cargo (omega arith));
      },
      accepted next item rest (max most (ahead_of p.number ((next + 1) % 4096) + 1)) ps n (omega arith)
          (weaker next (item ∷ rest) (max (most + 1) (ahead_of p.number next + 1)) (max most (ahead_of p.number ((next + 1) % 4096) + 1) + 1) ps (omega arith) f.1),
    )
