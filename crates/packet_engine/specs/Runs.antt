-- A run of `encode` on what `decode` wrote.
use Rattle.std.specs.Prelude.{ℕ, ◌≡◌, List, [], ◌∷◌, ◌++◌, nat_lt, if◌then◌else◌, length, flat_map, Result, Ok, Err}
use Rattle.hex.specs.Hex.{decode_of}
use Rattle.hex.specs.declared.error.FromHexError.{FromHexError}
use Rattle.packet_text.specs.declared.packet.Packet.{Packet}
use Rattle.packet_text.specs.declared.fault.BytesFault.{BytesFault}
use Rattle.packet_text.specs.Packets.{reading}
use Rattle.packet_text.specs.Texts.{packet_text}
use Rattle.hex_text.specs.Line.{digits_of}
use Rattle.hex_text.specs.Lines.{lines_of, bare, said, is_skipped}
use Rattle.packet_engine.specs.Lines.{bytes_text, out_decode}

-- the packet of a line of hexadecimal digits, where it has one
abbrev pub of_reading : Result Packet BytesFault → List Packet
of_reading (Err f) = []
of_reading (Ok p) = p ∷ []

abbrev pub of_bytes : Result (List ℕ) FromHexError → List Packet
of_bytes (Err e) = []
of_bytes (Ok bytes) = of_reading (reading bytes)

abbrev pub of_said : List ℕ → List Packet
of_said line = if is_skipped line then [] else of_bytes (decode_of (digits_of line))

abbrev pub of_line : List ℕ → List Packet
of_line line = if nat_lt 512 (length (bare line)) then [] else of_said (said line)

-- the packets of a text, in order
abbrev pub packets_in : List ℕ → List Packet
packets_in input = flat_map of_line (lines_of input)

-- a line for each packet, in words or in canonical bytes
abbrev pub words_lines : List Packet → List ℕ
words_lines ps = flat_map (λ p. packet_text p ++ 10 ∷ []) ps

abbrev pub bytes_lines : List Packet → List ℕ
bytes_lines ps = flat_map (λ p. bytes_text p ++ 10 ∷ []) ps

-- no line has a fault
abbrev pub IsDecoded : List ℕ → Type 0
IsDecoded input = (out_decode input).status ≡ 0

-- each line is that of canonical bytes
abbrev pub IsCanonical : List ℕ → Type 0
IsCanonical input = IsDecoded input × (bytes_lines (packets_in input) ≡ input)
