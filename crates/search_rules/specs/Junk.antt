-- Bytes that are nothing to an operation.
use Rattle.std.specs.Prelude.{ℕ, ◌≡◌, ◌+◌, ◌*◌, ◌<◌, ◌≤◌, ◌⊎◌, List, length, Option}
use Rattle.tlp_core.specs.Ops.{Op}
use Rattle.tlp_core.specs.declared.operation.OpOf.TheVariants as ops
use Rattle.tlp_core.specs.Operation.{address_of, count_of}
use Rattle.seq_memory.specs.Entries.{Reply}
use Rattle.seq_memory.specs.Limits.{Extent}
use Rattle.seq_memory.specs.Step.{after}
use Rattle.search_effects.specs.Effects.{Agrees, AreApart, AreSameAt, AreSameBut}

-- the operation names bytes of word w
abbrev pub Touches : ℕ → Op → ℕ → Type 0
Touches base op w = (base + 4 * w < address_of op + count_of op) × (address_of op < base + 4 * w + 4)

-- word w of the memory, as an operation that names it alone
abbrev pub word : Extent → ℕ → Op
word x w = ops.Read (x.base + 4 * w) 1 15 0

-- whatever stands at the other's addresses, the memory agrees if it did before, and the operation changes nothing or leaves the
-- same
abbrev pub Overlooks : Extent → Op → Option Reply → Op → Type 0
Overlooks x one told other =
    (m n : List ℕ) → length m ≡ x.size → AreSameBut x.base other m n → Agrees x.base x.block m one told
    → Agrees x.base x.block n one told
    × ((after x.base x.block n one ≡ after x.base x.block m one) ⊎ ((after x.base x.block m one ≡ m) × (after x.base x.block n one ≡ n)))

-- while the bytes at the other's addresses are as in m, the memory doesn't agree
abbrev pub MissesThere : Extent → List ℕ → Op → Option Reply → Op → Type 0
MissesThere x m one told other = (n : List ℕ) → AreSameAt x.base other m n → Agrees x.base x.block n one told → ⊥

-- while the bytes at the other's addresses are as the third left them, the memory doesn't agree
abbrev pub MissesLeft : Extent → Op → Option Reply → Op → Op → Option Reply → Type 0
MissesLeft x one told other third had =
    (k n : List ℕ) → length k ≡ x.size → Agrees x.base x.block k third had → AreSameAt x.base other (after x.base x.block k third) n → Agrees x.base x.block n one told → ⊥

-- the first has all addresses of the second
abbrev pub HasAddresses : Op → Op → Type 0
HasAddresses one other = (address_of one ≤ address_of other) × (address_of other + count_of other ≤ address_of one + count_of one)

-- what stands at the other's addresses in m is nothing to the operation
abbrev pub IsJunk : Extent → List ℕ → Op → Option Reply → Op → Type 0
IsJunk x m one told other = AreApart one other ⊎ Overlooks x one told other ⊎ MissesThere x m one told other

-- what the third leaves at the other's addresses is nothing to the operation
abbrev pub LeavesJunk : Extent → Op → Option Reply → Op → Op → Option Reply → Type 0
LeavesJunk x one told other third had = AreApart one other ⊎ Overlooks x one told other ⊎ MissesLeft x one told other third had
