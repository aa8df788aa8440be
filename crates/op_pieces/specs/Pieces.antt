-- An operation in pieces: reads and writes in naturally aligned pieces of so many bytes, in rising order of their addresses.
use Rattle.std.specs.Prelude.{ℕ, suc, zero, ◌≡◌, ◌+◌, ◌-◌, ◌*◌, ◌/◌, ◌%◌, ◌==◌, Bool, nat_le, if◌then◌else◌, List, [], ◌∷◌, ◌++◌, length, take, drop, is_none}
use Rattle.seq_memory.specs.declared.limits.TheConstants.{LARGE_BLOCK}
use Rattle.tlp_core.specs.Ops.{Op}
use Rattle.tlp_core.specs.declared.operation.OpOf.TheVariants as ops
use Rattle.tlp_core.specs.Enables.{enables}
use Rattle.tlp_core.specs.Operation.{address_of, count_of, op_fault}
use Rattle.seq_memory.specs.Entries.{Reply}
use Rattle.seq_memory.specs.declared.reply.ReplyOf.TheVariants as replies
use Rattle.seq_memory.specs.Limits.{Extent}
use Rattle.seq_memory.specs.Step.{refusal, after, data_of, is_in_block}

-- ---- two parts of a read or a write: its first n DW, and the others

-- the byte enables of an end that is cut off are those of bytes between, if it has DW of its own
abbrev pub inner : ℕ → ℕ
inner n = if n == 1 then 0 else 15

abbrev pub front : ℕ → Op → Op
front n (ops.Read a dw f l) = ops.Read a n f (inner n)
front n (ops.Write a f l bytes) = ops.Write a f (inner n) (record { items = take (4 * n) bytes.items })
front n op = op

-- of so many DW the enables of the first and the last, where those of the last of all are l
abbrev pub rest_first : ℕ → ℕ → ℕ
rest_first n l = if n == 1 then l else 15

abbrev pub rest_last : ℕ → ℕ → ℕ
rest_last n l = if n == 1 then 0 else l

abbrev pub back : ℕ → Op → Op
back n (ops.Read a dw f l) = ops.Read (a + 4 * n) (dw - n) (rest_first (dw - n) l) (rest_last (dw - n) l)
back n (ops.Write a f l bytes) =
    let dw = length bytes.items / 4 - n in
    ops.Write (a + 4 * n) (rest_first dw l) (rest_last dw l) (record { items = drop (4 * n) bytes.items })
back n op = op

-- ---- pieces

-- how many DW a read or a write has; an AtomicOp isn't cut
abbrev pub dw_of : Op → ℕ
dw_of (ops.Read a dw f l) = dw
dw_of (ops.Write a f l bytes) = length bytes.items / 4
dw_of _ = 0

-- how many DW there are from the address to the next one that is a multiple of so many bytes
abbrev pub dw_to : ℕ → ℕ → ℕ
dw_to bytes a = (bytes - a % bytes) / 4

-- at most n + 1 pieces
unfoldable pub cut : ℕ → ℕ → Op → List Op
cut bytes zero op = op ∷ []
cut bytes (suc n) op =
    if nat_le (dw_of op) (dw_to bytes (address_of op)) then op ∷ []
    else front (dw_to bytes (address_of op)) op ∷ cut bytes n (back (dw_to bytes (address_of op)) op)

-- a memory of this extent serves the operation
abbrev pub is_served : Extent → Op → Bool
is_served x op = is_none (refusal x.base x.size x.block op)

-- what it leaves of the bytes
abbrev pub left_by : Extent → List ℕ → Op → List ℕ
left_by x m op = after x.base x.block m op

-- ---- replies

abbrev pub front_of : ℕ → Reply → Reply
front_of n (replies.Data bytes) = data_of (take n bytes.items)
front_of n reply = reply

abbrev pub back_of : ℕ → Reply → Reply
back_of n (replies.Data bytes) = data_of (drop n bytes.items)
back_of n reply = reply

-- each piece is answered the data at its place, and the last all that is left
abbrev pub parts : List Op → Reply → List Reply
parts [] reply = []
parts (op ∷ []) reply = reply ∷ []
parts (op ∷ other ∷ ops) reply = front_of (count_of op) reply ∷ parts (other ∷ ops) (back_of (count_of op) reply)

-- ---- pieces together

-- the places begin at an address, each where the one before it ended, and the last ends at another address
abbrev pub AreAdjacent : ℕ → ℕ → List Op → Type 0
AreAdjacent start stop [] = start ≡ stop
AreAdjacent start stop (op ∷ ops) = (address_of op ≡ start) × AreAdjacent (start + count_of op) stop ops

-- which bytes of its place a read or a write names, in rising order
abbrev pub enables_of : Op → List Bool
enables_of (ops.Read a dw f l) = enables dw f l
enables_of (ops.Write a f l bytes) = enables (length bytes.items / 4) f l
enables_of _ = []

abbrev pub all_enables : List Op → List Bool
all_enables [] = []
all_enables (op ∷ ops) = enables_of op ++ all_enables ops

-- the bytes that a write carries
abbrev pub bytes_of : Op → List ℕ
bytes_of (ops.Write a f l bytes) = bytes.items
bytes_of _ = []

abbrev pub all_bytes : List Op → List ℕ
all_bytes [] = []
all_bytes (op ∷ ops) = bytes_of op ++ all_bytes ops

-- its place lies in one aligned block of 128 bytes
abbrev pub is_in_one_block : Op → Bool
is_in_one_block op = is_in_block LARGE_BLOCK (address_of op) (count_of op)

abbrev pub begins_a_block : Op → Bool
begins_a_block op = address_of op % LARGE_BLOCK == 0

abbrev pub is_faultless : Op → Bool
is_faultless op = is_none (op_fault op)

-- the data of replies, in turn
abbrev pub returned : List Reply → List ℕ
returned [] = []
returned (replies.Data bytes ∷ rest) = bytes.items ++ returned rest
returned (_ ∷ rest) = returned rest
