-- The submissions of each requester, with the numbers of their pieces.
use Rattle.std.specs.Prelude.{ℕ, ◌≡◌, ◌<◌, List, length, slice_get, Some}
use Rattle.tlp_core.specs.Ops.{Op}
use Rattle.history_words.specs.Records.{Record}
use Rattle.history_words.specs.Trace.{submissions}
use Rattle.log_pieces.specs.InPieces.{width, numbered}

-- the number of the next piece, and each operation with the number of its first piece
pub record RowView : Type 0 where
  pub next : ℕ
  pub requests : List (ℕ × Op)

abbrev pub row_of : (Op → List Op) → List Op → RowView
row_of p ops = record { next = width p ops; requests = numbered p 0 ops }

-- the row of each requester has what it submitted
pub record AreRows (p : Op → List Op) (rows : List RowView) (rs : List Record) : Type 0 where
  pub len : length rows ≡ 256
  pub at : (i : ℕ) → i < 256 → slice_get rows i ≡ Some (row_of p (submissions rs i))
