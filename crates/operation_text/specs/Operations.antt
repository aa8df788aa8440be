-- The text of operations and replies.
use Rattle.std.specs.Prelude.{ℕ, ◌≡◌, ◌==◌, if◌then◌else◌, List, [], ◌∷◌, Option, Some, None, codes, bytes_eq}
use Rattle.tlp_core.specs.Ops.{Op}
use Rattle.tlp_core.specs.declared.operation.OpOf.TheVariants as ops
use Rattle.tlp_core.specs.declared.operation.Width.{Width}
use Rattle.tlp_core.specs.Operation.{size_of}
use Rattle.seq_memory.specs.Entries.{Reply}
use Rattle.seq_memory.specs.declared.reply.ReplyOf.TheVariants as replies
use Rattle.operation_text.specs.Words.{then_with, field, ended}
use Rattle.operation_text.specs.Numbers.{numeral, byte_string, operand_of}

-- an address is hexadecimal, DW are counted in decimal, byte enables are one hexadecimal digit
abbrev pub address : List ℕ → Option ℕ
address w = numeral 16 18446744073709551615 w

abbrev pub count : List ℕ → Option ℕ
count w = numeral 10 65535 w

abbrev pub enables : List ℕ → Option ℕ
enables w = numeral 16 15 w

abbrev pub operand : List ℕ → Option (Width × ℕ)
operand w = then_with (byte_string w) operand_of

abbrev pub read_of : List (List ℕ) → Option Op
read_of ws = field address (λ a. field count (λ dw. field enables (λ f. field enables (λ l. ended (ops.Read a dw f l))))) ws

abbrev pub write_of : List (List ℕ) → Option Op
write_of ws = field address (λ a. field enables (λ f. field enables (λ l. field byte_string (λ bytes. ended (ops.Write a f l (record { items = bytes })))))) ws

abbrev pub add_of : List (List ℕ) → Option Op
add_of ws = field address (λ a. field operand (λ x. ended (ops.FetchAdd a x.0 x.1))) ws

abbrev pub swap_of : List (List ℕ) → Option Op
swap_of ws = field address (λ a. field operand (λ x. ended (ops.Swap a x.0 x.1))) ws

-- both of one width
abbrev pub cas_by : ℕ → Width × ℕ → Width × ℕ → List (List ℕ) → Option Op
cas_by a x y ws = if size_of x.0 == size_of y.0 then ended (ops.Cas a x.0 x.1 y.1) ws else None

abbrev pub cas_of : List (List ℕ) → Option Op
cas_of ws = field address (λ a. field operand (λ x. field operand (λ y. cas_by a x y))) ws

-- an operation, by its kind
abbrev pub op_by : List ℕ → List (List ℕ) → Option Op
op_by kind ws =
    if bytes_eq kind (codes "read") then read_of ws
    else (if bytes_eq kind (codes "write") then write_of ws
    else (if bytes_eq kind (codes "add") then add_of ws
    else (if bytes_eq kind (codes "swap") then swap_of ws
    else (if bytes_eq kind (codes "cas") then cas_of ws else None))))

-- the operation that the words spell
abbrev pub op_spelled : List (List ℕ) → Option Op
op_spelled [] = None
op_spelled (kind ∷ ws) = op_by kind ws

abbrev pub data_of : List (List ℕ) → Option Reply
data_of ws = field byte_string (λ bytes. ended (replies.Data (record { items = bytes }))) ws

abbrev pub reply_by : List ℕ → List (List ℕ) → Option Reply
reply_by kind ws =
    if bytes_eq kind (codes "data") then data_of ws
    else (if bytes_eq kind (codes "ur") then ended replies.Unsupported ws
    else (if bytes_eq kind (codes "ca") then ended replies.Aborted ws else None))

-- the reply that the words spell
abbrev pub reply_spelled : List (List ℕ) → Option Reply
reply_spelled [] = None
reply_spelled (kind ∷ ws) = reply_by kind ws

-- some words spell the operation
abbrev pub IsSpelledOp : Op → Type 0
IsSpelledOp op = (words : List (List ℕ)) × (op_spelled words ≡ Some op)

-- some words spell the reply
abbrev pub IsSpelledReply : Reply → Type 0
IsSpelledReply reply = (words : List (List ℕ)) × (reply_spelled words ≡ Some reply)
