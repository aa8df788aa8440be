-- Where a memory can lie, how large it is, and the blocks by which accesses are served.
use Rattle.std.specs.Prelude.{ℕ, ◌≡◌, ◌+◌, ◌%◌, ◌^◌, ◌≤◌, ◌⊎◌, Bool, ◌&&◌, ◌||◌, ◌==◌, nat_le}
use Rattle.seq_memory.specs.declared.limits.TheConstants.{SMALL_BLOCK, LARGE_BLOCK, MIN_SIZE, MAX_SIZE}

-- 128 bytes to 1 MiB, whole blocks
abbrev pub IsSize : ℕ → Type 0
IsSize size = (MIN_SIZE ≤ size) × (size ≤ MAX_SIZE) × (size % LARGE_BLOCK ≡ 0)

-- an aligned address, with all addresses of the memory below 2^64
abbrev pub IsBase : ℕ → ℕ → Type 0
IsBase base size = (base % LARGE_BLOCK ≡ 0) × (base + size ≤ 2 ^ 64)

-- 64 or 128 bytes
abbrev pub IsBlock : ℕ → Type 0
IsBlock block = (block ≡ SMALL_BLOCK) ⊎ (block ≡ LARGE_BLOCK)

-- where a memory lies, and how it is served
pub record Extent : Type 0 where
  pub base : ℕ
  pub size : ℕ
  pub block : ℕ

-- a memory can have this extent
pub record IsWithinLimits (x : Extent) : Type 0 where
  pub in_size : IsSize x.size
  pub in_base : IsBase x.base x.size
  pub in_block : IsBlock x.block

-- ---- the same as tests

abbrev pub is_size : ℕ → Bool
is_size size = nat_le MIN_SIZE size && nat_le size MAX_SIZE && (size % LARGE_BLOCK == 0)

abbrev pub is_base : ℕ → ℕ → Bool
is_base base size = (base % LARGE_BLOCK == 0) && nat_le (base + size) (2 ^ 64)

abbrev pub is_block : ℕ → Bool
is_block block = (block == SMALL_BLOCK) || (block == LARGE_BLOCK)

abbrev pub is_within_limits : Extent → Bool
is_within_limits x = is_size x.size && is_base x.base x.size && is_block x.block
