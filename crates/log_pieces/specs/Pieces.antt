-- An operation in pieces, if a memory serves them.
use Rattle.std.specs.Prelude.{ℕ, ◌&&◌, if◌then◌else◌, List, [], ◌∷◌, length, Option, Some, None}
use Rattle.std.specs.List.{list_all}
use Rattle.tlp_core.specs.Ops.{Op}
use Rattle.seq_memory.specs.Limits.{Extent}
use Rattle.op_pieces.specs.Pieces.{dw_of, cut, is_served}

-- a request that isn't served acts as a whole: it does nothing
abbrev pub pieces : ℕ → Extent → Op → List Op
pieces bytes x op =
    let ops = cut bytes (dw_of op) op in
    if is_served x op && list_all (is_served x) ops then ops else op ∷ []

-- how many they are, if each is served
abbrev pub count_if_served : Extent → List Op → Option ℕ
count_if_served x ops = if list_all (is_served x) ops then Some (length ops) else None
