-- The bytes that a request needs, and those that it puts.
use Rattle.std.specs.Prelude.{ℕ, ◌≡◌, ◌+◌, ◌/◌, ◌≤◌, ◌<◌, ◌⊎◌, List, length, slice_index, Option, Some, option_map, Bool, true, false}
use Rattle.std.specs.Borrow.{Bor}
use Rattle.tlp_core.specs.Ops.{Op}
use Rattle.tlp_core.specs.declared.operation.OpOf.TheVariants as ops
use Rattle.tlp_core.specs.Operation.{address_of, count_of}
use Rattle.seq_memory.specs.Entries.{Reply}
use Rattle.seq_memory.specs.Step.{answer, is_enabled}

-- the reply that is borrowed, if there is one
abbrev pub told_of : Option (Bor Reply) → Option Reply
told_of told = option_map (λ reply. reply.now) told

-- the memory answers what the request was answered, if it was
abbrev pub Agrees : ℕ → ℕ → List ℕ → Op → Option Reply → Type 0
Agrees base block m op told = (r : Reply) → told ≡ Some r → answer base block m op ≡ r

-- the data of its reply have the byte at that place in its range
abbrev pub is_needed : Op → ℕ → Bool
is_needed (ops.Read a dw f l) at = is_enabled dw f l at
is_needed (ops.Write a f l bytes) at = false
is_needed (ops.FetchAdd a w x) at = true
is_needed (ops.Swap a w x) at = true
is_needed (ops.Cas a w x y) at = true

-- it writes the byte at that place in its range
abbrev pub is_put : Op → ℕ → Bool
is_put (ops.Read a dw f l) at = false
is_put (ops.Write a f l bytes) at = is_enabled (length bytes.items / 4) f l at
is_put (ops.FetchAdd a w x) at = true
is_put (ops.Swap a w x) at = true
is_put (ops.Cas a w x y) at = true

-- an AtomicOp
abbrev pub is_atomic : Op → Bool
is_atomic (ops.Read a dw f l) = false
is_atomic (ops.Write a f l bytes) = false
is_atomic (ops.FetchAdd a w x) = true
is_atomic (ops.Swap a w x) = true
is_atomic (ops.Cas a w x y) = true

-- they have no address in common
abbrev pub AreApart : Op → Op → Type 0
AreApart one other = (address_of one + count_of one ≤ address_of other) ⊎ (address_of other + count_of other ≤ address_of one)

-- the bytes at the operation's addresses are the same
abbrev pub AreSameAt : ℕ → Op → List ℕ → List ℕ → Type 0
AreSameAt base op m n = (k : ℕ) → address_of op ≤ base + k → base + k < address_of op + count_of op → slice_index n k ≡ slice_index m k

-- the bytes but for those at the operation's addresses are the same, and as many
pub record AreSameBut (base : ℕ) (op : Op) (m n : List ℕ) : Type 0 where
  pub size : length n ≡ length m
  pub others : (k : ℕ) → (base + k < address_of op) ⊎ (address_of op + count_of op ≤ base + k) → slice_index n k ≡ slice_index m k
