-- The fields of lines.
use Rattle.std.specs.Prelude.{ℕ, ◌==◌, ◌||◌, if◌then◌else◌, Bool, true, false, List, Option, Some, None}
use Rattle.seq_memory.specs.declared.limits.TheConstants.{SMALL_BLOCK, LARGE_BLOCK}
use Rattle.tlp_core.specs.Limits.{most_requesters}
use Rattle.seq_memory.specs.Limits.{Extent, is_within_limits}
use Rattle.operation_text.specs.Words.{then_with, field, ended}
use Rattle.operation_text.specs.Numbers.{numeral}
use Rattle.operation_text.specs.Operations.{address}

-- 1 to 7
abbrev pub requester : List ℕ → Option ℕ
requester w = then_with (numeral 10 most_requesters w) (λ i. if i == 0 then None else Some i)

-- below 2^32 - 1
abbrev pub number : List ℕ → Option ℕ
number w = numeral 10 4294967294 w

-- of 64 bits
abbrev pub count : List ℕ → Option ℕ
count w = numeral 10 18446744073709551615 w

-- 64 or 128
abbrev pub block : List ℕ → Option ℕ
block w = then_with (numeral 10 LARGE_BLOCK w) (λ b. if (b == SMALL_BLOCK) || (b == LARGE_BLOCK) then Some b else None)

-- the extent of a memory, if there can be one of it
abbrev pub memory_extent : Extent → Option Extent
memory_extent x = if is_within_limits x then Some x else None

-- the extent of a memory at the end of a line
abbrev pub memory_within : Extent → List (List ℕ) → Option Extent
memory_within x ws = if is_within_limits x then ended x ws else None

-- base, size and block, or blocks of 64 bytes
abbrev pub memory_of : Bool → List (List ℕ) → Option Extent
memory_of false ws = field address (λ base. field count (λ size. memory_within (record { base = base; size = size; block = SMALL_BLOCK }))) ws
memory_of true ws = field address (λ base. field count (λ size. field block (λ b. memory_within (record { base = base; size = size; block = b })))) ws
