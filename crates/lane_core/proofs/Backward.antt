-- What a call does to the DLLPs on the backward wire.
use Rattle.std.proofs.Common.{◌≡◌, ℕ, ◌+◌, ◌<◌, ◌≤◌, List, [], ◌∷◌, ◌++◌, arith}
use Rattle.seq12.specs.Numbers.{distance_of}
use Rattle.lane_core.proofs.UnderWay.{IsBackward}
use Rattle.lane_core.proofs.Arithmetic.{distance_step}

pub more_received : (acked least received more : ℕ) (ds : List ℕ) → received ≤ more → IsBackward acked least received ds → IsBackward acked least more ds
more_received acked least received more [] h b = omega arith
more_received acked least received more (d ∷ ds) h b = (b.0, more_received acked (distance_of d acked) received more ds h b.1)

pub one_more : (acked least received : ℕ) (ds : List ℕ) (d : ℕ) → d < 4096 → distance_of d acked ≡ received →
    IsBackward acked least received ds → IsBackward acked least received (ds ++ d ∷ [])
one_more acked least received [] d n e b = (record { in_range = n; later = omega (arith, e) }, omega (arith, e))
one_more acked least received (c ∷ ds) d n e b = (b.0, one_more acked (distance_of c acked) received ds d n e b.1)

-- a number was acknowledged, and `count` items with it
pub acknowledged : (acked number least received count : ℕ) (ds : List ℕ) → acked < 4096 → number < 4096 →
    distance_of number acked ≡ count → IsBackward acked (least + count) (received + count) ds → IsBackward number least received ds
acknowledged acked number least received count [] a n e b = omega arith
acknowledged acked number least received count (d ∷ ds) a n e b =
    let later : least + count ≤ distance_of d acked = b.0.later in
    let step : distance_of d number + distance_of number acked ≡ distance_of d acked =
    distance_step d number acked b.0.in_range n a (omega arith) in
    let same : distance_of d acked ≡ distance_of d number + count = omega arith in (
      record { in_range = b.0.in_range; later = omega arith },
      acknowledged acked number (distance_of d number) received count ds a n e (rw same at b.1),
    )

-- the first of them may have been an earlier one
pub earlier : (acked least less received : ℕ) (ds : List ℕ) → less ≤ least → IsBackward acked least received ds → IsBackward acked less received ds
earlier acked least less received [] h b = omega arith
earlier acked least less received (d ∷ ds) h b = (record { in_range = b.0.in_range; later = (let later : least ≤ distance_of d acked = b.0.later in omega arith) }, b.1)

pub least_below : (acked least received : ℕ) (ds : List ℕ) → IsBackward acked least received ds → least ≤ received
least_below acked least received [] b = b
least_below acked least received (d ∷ ds) b =
    let later : least ≤ distance_of d acked = b.0.later in
    let rest = least_below acked (distance_of d acked) received ds b.1 in
    omega arith
