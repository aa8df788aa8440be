-- The CRCs of packets (LCRC, section 3.6.2) and of DLLPs (section 3.5.1), bit by bit. A bit is 0 or 1.
use Rattle.std.specs.Prelude.{ℕ, zero, suc, ◌+◌, ◌-◌, ◌*◌, ◌/◌, ◌%◌, ◌^◌, ◌==◌, if◌then◌else◌, List, [], ◌∷◌, bit_xor}
use Rattle.std.specs.Int.{bit_at}

-- the bits of bytes in the order in which they are sent: bits 0 to 7 of each byte
unfoldable pub sent : List ℕ → List ℕ
sent [] = []
sent (byte ∷ bytes) =
    bit_at byte 0 ∷ bit_at byte 1 ∷ bit_at byte 2 ∷ bit_at byte 3
    ∷ bit_at byte 4 ∷ bit_at byte 5 ∷ bit_at byte 6 ∷ bit_at byte 7 ∷ sent bytes

-- One bit goes into a register of so many bits: the register moves up by one place, and the polynomial, here
-- without its highest term, is added where the bit that leaves the register isn't the one that goes in.
unfoldable pub after_bit : ℕ → ℕ → ℕ → ℕ → ℕ
after_bit width polynomial register bit =
    bit_xor (register * 2 % 2 ^ width) (if bit_at register (width - 1) == bit then 0 else polynomial)

-- the bits go in, the first of them first
unfoldable pub after_bits : ℕ → ℕ → ℕ → List ℕ → ℕ
after_bits width polynomial register [] = register
after_bits width polynomial register (bit ∷ bits) =
    after_bits width polynomial (after_bit width polynomial register bit) bits

-- the number with `width` ones
abbrev pub ones : ℕ → ℕ
ones width = 2 ^ width - 1

-- bit i of the remainder is bit 8 * (i / 8) + 7 - i % 8 of the field, for i below `width`
unfoldable pub mapped : ℕ → ℕ → ℕ
mapped zero remainder = 0
mapped (suc i) remainder = mapped i remainder + bit_at remainder i * 2 ^ (8 * (i / 8) + 7 - i % 8)

-- the register begins with ones, all bits go in, and what is left is complemented and mapped into the field
abbrev pub crc_of : ℕ → ℕ → List ℕ → ℕ
crc_of width polynomial bytes =
    mapped width (bit_xor (after_bits width polynomial (ones width) (sent bytes)) (ones width))

-- the LCRC of a packet: of its sequence number's two bytes and its TLP. The field's highest byte is sent first.
abbrev pub lcrc_of : List ℕ → ℕ
lcrc_of bytes = crc_of 32 0x04C11DB7 bytes

-- the CRC of a DLLP's four bytes. The field's highest byte is sent first.
abbrev pub dllp_crc_of : List ℕ → ℕ
dllp_crc_of bytes = crc_of 16 0x100B bytes
