use Rattle.std.proofs.Common.{rules, ℕ, zero, suc, ◌<◌, List, [], ◌∷◌, ◌++◌, subst, sym, ap, length, arith}
use Rattle.hex.specs.Hex.{IsBytes}
use Rattle.generate_engine.proofs.operations.data.Goals as goal

-- one byte more
pushed : (xs : List ℕ) (b : ℕ) → b < 256 → IsBytes xs → IsBytes (xs ++ b ∷ [])
pushed [] b h is zero = h
pushed [] b h is (suc k) = omega arith
pushed (x ∷ xs) b h is zero = is 0
pushed (x ∷ xs) b h is (suc k) = pushed xs b h (λ j. is (suc j)) k

pub loop-byte-init : goal.loop-byte-init
loop-byte-init c =
    let none = c.new-bytes.ensures in
    record { count = ap length none; are_bytes = subst IsBytes (sym none) (λ k. omega arith) }

pub loop-byte-preserved : goal.loop-byte-preserved
loop-byte-preserved c = record {
  count = search rules;
  are_bytes = subst IsBytes (sym c.push.ensures.items) (pushed c.loop-byte.bytes.items c.below.result c.below.ensures c.loop-byte.invariant.are_bytes);
}

pub returns : goal.returns
returns c =
    let count = c.loop-byte.invariant.count in
    let more = c.loop-byte-test.false in
    let fewer = c.loop-byte.auto._byte-end in
    let least = c.requires.0 in
    let most = c.requires.1 in
    record { some = omega arith; few = omega arith; are_bytes = c.loop-byte.invariant.are_bytes }
