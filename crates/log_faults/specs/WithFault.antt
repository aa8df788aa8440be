-- The log that a device with a single fault would have written.
use Rattle.std.specs.Prelude.{ℕ, suc, ◌+◌, ◌-◌, ◌^◌, ◌==◌, ◌&&◌, nat_le, nat_lt, if◌then◌else◌, List, [], ◌∷◌, ◌++◌, Option, Some, None, slice_get}
use Rattle.tlp_core.specs.Ops.{Op}
use Rattle.tlp_core.specs.declared.operation.OpOf.TheVariants as ops
use Rattle.tlp_core.specs.declared.operation.Width.{Width}
use Rattle.tlp_core.specs.declared.operation.Width.TheVariants as widths
use Rattle.tlp_core.specs.Operation.{address_of, count_of}
use Rattle.seq_memory.specs.Limits.{Extent}
use Rattle.op_pieces.specs.Pieces.{dw_of, cut, is_served}
use Rattle.history_words.specs.Records.{Record}
use Rattle.history_words.specs.declared.record.RecordOf.TheVariants as records
use Rattle.history_words.specs.TraceView.{TraceView, observed}
use Rattle.log_faults.specs.declared.faults.Fault.{Fault}
use Rattle.log_faults.specs.declared.faults.FaultKind.{FaultKind}
use Rattle.log_faults.specs.declared.faults.FaultKind.TheVariants as kinds

-- ---- operations

abbrev pub dw_in : Width → ℕ
dw_in widths.Four = 1
dw_in widths.Eight = 2
dw_in widths.Sixteen = 4

abbrev pub last_in : Width → ℕ
last_in widths.Four = 0
last_in widths.Eight = 15
last_in widths.Sixteen = 15

-- a read of an operand
abbrev pub reading : ℕ → Width → Op
reading a w = ops.Read a (dw_in w) 15 (last_in w)

-- without its effect: a write as a read of no bytes, an AtomicOp as a read of its bytes
abbrev pub lost : Op → Op
lost (ops.Read a dw f l) = ops.Read a dw f l
lost (ops.Write a f l bytes) = ops.Read a 1 0 0
lost (ops.FetchAdd a w x) = reading a w
lost (ops.Swap a w x) = reading a w
lost (ops.Cas a w x y) = reading a w

-- a CAS as a Swap
abbrev pub swapped : Op → Op
swapped (ops.Cas a w x y) = ops.Swap a w y
swapped op = op

-- a write with all bytes of its first DW
abbrev pub with_first : Op → Op
with_first (ops.Write a f l bytes) = ops.Write a 15 l bytes
with_first op = op

-- of its last DW
abbrev pub with_last : Op → Op
with_last (ops.Write a f l bytes) = ops.Write a f 15 bytes
with_last op = op

-- what the device does in its place
abbrev pub done : FaultKind → Op → Op
done kinds.Lost op = lost op
done kinds.Swapped op = swapped op
done kinds.First op = with_first op
done kinds.Last op = with_last op
done (kinds.Twice by) op = op
done (kinds.Apart by) op = op
done (kinds.Early by m) op = op
done (kinds.Refused by) op = op

-- one that isn't served, of addresses below 2^64, in parts that lie in a block each
abbrev pub carried_out : Extent → Op → List Op
carried_out x op = if is_served x op then [] else (if nat_le (address_of op + count_of op) (2 ^ 64) then cut x.block (dw_of op) op else [])

-- ---- records

-- the record with what the device does, if it is a submission
abbrev pub done_in : FaultKind → Record → Record
done_in kind (records.Sub i k op n) = records.Sub i k (done kind op) n
done_in kind (records.Ans i k reply n) = records.Ans i k reply n

-- the request that is submitted there, as the first one of a requester
abbrev pub own : ℕ → Option Record → List Record
own by (Some (records.Sub i k op n)) = records.Sub by 0 op n ∷ []
own by (Some (records.Ans i k reply n)) = []
own by None = []

-- submissions from number k on
abbrev pub in_turn : ℕ → ℕ → ℕ → List Op → List Record
in_turn by k n [] = []
in_turn by k n (op ∷ ops) = records.Sub by k op n ∷ in_turn by (suc k) n ops

-- the parts of the request that is submitted there, as requests of a requester
abbrev pub own_parts : ℕ → Option Record → List Op → List Record
own_parts by (Some (records.Sub i k op n)) parts = in_turn by 0 n parts
own_parts by (Some (records.Ans i k reply n)) parts = []
own_parts by None parts = []

-- where request k of requester i is that requester's own: whose request l of requester j is
abbrev pub owner : ℕ → Option Record → ℕ → ℕ → ℕ
owner by (Some (records.Sub i k op n)) j l = if (j == i) && (l == k) then by else j
owner by (Some (records.Ans i k reply n)) j l = j
owner by None j l = j

-- and which number it has: those behind it have one less
abbrev pub numbered : Option Record → ℕ → ℕ → ℕ
numbered (Some (records.Sub i k op n)) j l = if j == i then (if l == k then 0 else (if nat_lt k l then l - 1 else l)) else l
numbered (Some (records.Ans i k reply n)) j l = l
numbered None j l = l

abbrev pub apart : ℕ → Option Record → Record → Record
apart by asked (records.Sub j l op n) = records.Sub (owner by asked j l) (numbered asked j l) op n
apart by asked (records.Ans j l reply n) = records.Ans (owner by asked j l) (numbered asked j l) reply n

-- what stands in place of the record at place a, where the request at place p is `asked`, and its parts are these
abbrev pub told : FaultKind → ℕ → Option Record → List Op → ℕ → Record → List Record
told (kinds.Twice by) p asked parts a r = if a == p then r ∷ own by asked else r ∷ []
told (kinds.Apart by) p asked parts a r = apart by asked r ∷ []
told (kinds.Early by m) p asked parts a r = (if a == m then own by asked else []) ++ (if a == p then [] else apart by asked r ∷ [])
told (kinds.Refused by) p asked parts a r = (if a == p then own_parts by asked parts else []) ++ r ∷ []
told kinds.Lost p asked parts a r = (if a == p then done_in kinds.Lost r else r) ∷ []
told kinds.Swapped p asked parts a r = (if a == p then done_in kinds.Swapped r else r) ∷ []
told kinds.First p asked parts a r = (if a == p then done_in kinds.First r else r) ∷ []
told kinds.Last p asked parts a r = (if a == p then done_in kinds.Last r else r) ∷ []

-- ---- the log

-- of records, the first of which has place a
abbrev pub told_from : FaultKind → ℕ → Option Record → List Op → ℕ → List Record → List Record
told_from kind p asked parts a [] = []
told_from kind p asked parts a (r ∷ rs) = told kind p asked parts a r ++ told_from kind p asked parts (suc a) rs

-- the parts of a request that is carried out, though it isn't served
abbrev pub parts_of : FaultKind → Extent → Option Record → List Op
parts_of (kinds.Refused by) x (Some (records.Sub i k op n)) = carried_out x op
parts_of _ x _ = []

abbrev pub with_fault : Fault → TraceView → TraceView
with_fault f t =
    let asked = slice_get t.records f.place in
    record { base = t.base; size = t.size; block = t.block; records = told_from f.kind f.place asked (parts_of f.kind (observed t) asked) 0 t.records }
