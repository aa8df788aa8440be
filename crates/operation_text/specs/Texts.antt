-- The text that is written of operations and replies.
use Rattle.std.specs.Prelude.{ℕ, ◌≤◌, ◌/◌, ◌%◌, true, List, [], ◌∷◌, codes, All}
use Rattle.std.specs.List.{join_with_byte}
use Rattle.std.specs.Fmt.{digits, decimal, digit_glyph}
use Rattle.byteorder.specs.Endian.{little_bytes}
use Rattle.hex.specs.Hex.{encode_upper}
use Rattle.tlp_core.specs.Ops.{Op}
use Rattle.tlp_core.specs.declared.operation.OpOf.TheVariants as ops
use Rattle.tlp_core.specs.declared.operation.Width.{Width}
use Rattle.tlp_core.specs.Operation.{size_of}
use Rattle.seq_memory.specs.Entries.{Reply}
use Rattle.seq_memory.specs.declared.reply.ReplyOf.TheVariants as replies

-- in capitals, without leading zeros
abbrev pub hexadecimal : ℕ → List ℕ
hexadecimal n = digits 16 true n

-- a byte: both digits, hexadecimal and in capitals
abbrev pub octet_text : ℕ → List ℕ
octet_text n = digit_glyph true (n / 16) ∷ digit_glyph true (n % 16) ∷ []

-- a sequence number: its three digits, in the same way
abbrev pub sequence_text : ℕ → List ℕ
sequence_text n = digit_glyph true (n / 256) ∷ octet_text (n % 256)

-- the bytes of the width, in memory order
abbrev pub operand_word : Width → ℕ → List ℕ
operand_word w x = encode_upper (little_bytes (size_of w) x)

abbrev pub op_words : Op → List (List ℕ)
op_words (ops.Read a dw f l) = codes "read" ∷ hexadecimal a ∷ decimal dw ∷ hexadecimal f ∷ hexadecimal l ∷ []
op_words (ops.Write a f l bytes) = codes "write" ∷ hexadecimal a ∷ hexadecimal f ∷ hexadecimal l ∷ encode_upper bytes.items ∷ []
op_words (ops.FetchAdd a w x) = codes "add" ∷ hexadecimal a ∷ operand_word w x ∷ []
op_words (ops.Swap a w x) = codes "swap" ∷ hexadecimal a ∷ operand_word w x ∷ []
op_words (ops.Cas a w x y) = codes "cas" ∷ hexadecimal a ∷ operand_word w x ∷ operand_word w y ∷ []

-- the words, with a space between each two
abbrev pub op_text : Op → List ℕ
op_text op = join_with_byte 32 (op_words op)

-- that a write was done is told to nobody, and its word is read as no reply
abbrev pub reply_words : Reply → List (List ℕ)
reply_words replies.Done = codes "done" ∷ []
reply_words (replies.Data bytes) = codes "data" ∷ encode_upper bytes.items ∷ []
reply_words replies.Unsupported = codes "ur" ∷ []
reply_words replies.Aborted = codes "ca" ∷ []

abbrev pub reply_text : Reply → List ℕ
reply_text reply = join_with_byte 32 (reply_words reply)

-- a space, or a visible character of ASCII
abbrev pub IsPrintedChar : ℕ → Type 0
IsPrintedChar c = (32 ≤ c) × (c ≤ 126)

abbrev pub IsPrinted : List ℕ → Type 0
IsPrinted text = All IsPrintedChar text
