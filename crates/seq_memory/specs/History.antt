-- The history of a memory: the requests that acted, in order.
use Rattle.std.specs.Prelude.{ℕ, ◌≡◌, ◌-◌, ◌⊎◌, ◌==◌, ◌&&◌, Bool, true, false, List, length, take, fold, filter, replicate, Option, Some, option_map, slice_get}
use Rattle.tlp_core.specs.Ops.{Op}
use Rattle.tlp_core.specs.declared.operation.OpOf.TheVariants as ops
use Rattle.tlp_core.specs.declared.operation.Width.{Width}
use Rattle.tlp_core.specs.Operation.{size_of}
use Rattle.seq_memory.specs.Entries.{Entry}
use Rattle.seq_memory.specs.Entries.{Reply}
use Rattle.seq_memory.specs.Limits.{Extent}
use Rattle.seq_memory.specs.Step.{after, answer, bytes_at}

-- the bytes after all entries, which began as zeros
unfoldable pub contents : Extent → List Entry → List ℕ
contents x entries = fold (λ m e. after x.base x.block m e.op) (replicate x.size 0) entries

-- the bytes before the entry at place p
abbrev pub contents_at : Extent → List Entry → ℕ → List ℕ
contents_at x entries p = contents x (take p entries)

-- the reply to the entry at place p, by the bytes before it; none past the end
abbrev pub reply_at : Extent → List Entry → ℕ → Option Reply
reply_at x entries p = option_map (λ e. answer x.base x.block (contents_at x entries p) e.op) (slice_get entries p)

-- each request is a FetchAdd of 1, of that width and at that address
abbrev pub AreCounts : ℕ → Width → List Entry → Type 0
AreCounts a w entries = (p : ℕ) (e : Entry) → slice_get entries p ≡ Some e → e.op ≡ ops.FetchAdd a w 1

-- a FetchAdd of 1, of that width and at that address
abbrev pub is_addition : ℕ → Width → Op → Bool
is_addition a w (ops.FetchAdd b v x) = b == a && size_of v == size_of w && x == 1
is_addition a w op = false

-- how many of the requests are one
abbrev pub additions : ℕ → Width → List Entry → ℕ
additions a w entries = length (filter (λ e. is_addition a w e.op) entries)

-- the operation leaves so many bytes at an address as they are, whatever a memory of that extent holds
abbrev pub Leaves : Extent → ℕ → ℕ → Op → Type 0
Leaves x a count op = (m : List ℕ) → length m ≡ x.size → bytes_at (after x.base x.block m op) (a - x.base) count ≡ bytes_at m (a - x.base) count

-- each request is such a FetchAdd, or leaves the bytes at its place as they are
abbrev pub AddsOrLeaves : Extent → ℕ → Width → Op → Type 0
AddsOrLeaves x a w op = (is_addition a w op ≡ true) ⊎ Leaves x a (size_of w) op

abbrev pub AreAddsOrLeave : Extent → ℕ → Width → List Entry → Type 0
AreAddsOrLeave x a w entries = (p : ℕ) (e : Entry) → slice_get entries p ≡ Some e → AddsOrLeaves x a w e.op

-- a memory as contracts see it
pub record MemoryView : Type 0 where
  pub base : ℕ
  pub size : ℕ
  pub block : ℕ
  pub entries : List Entry

abbrev pub extent_of : MemoryView → Extent
extent_of s = record { base = s.base; size = s.size; block = s.block }

abbrev pub bytes_of : MemoryView → List ℕ
bytes_of s = contents (extent_of s) s.entries
