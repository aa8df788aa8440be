-- What `decode` and `encode` answer to a line of their input.
use Rattle.std.specs.Prelude.{ℕ, List, [], ◌∷◌, ◌++◌, if◌then◌else◌, true, false, codes, Result, Ok, Err}
use Rattle.hex.specs.Hex.{decode_of, encode_upper}
use Rattle.hex.specs.declared.error.FromHexError.{FromHexError}
use Rattle.packet_text.specs.declared.packet.Packet.{Packet}
use Rattle.packet_text.specs.declared.fault.BytesFault.{BytesFault}
use Rattle.packet_text.specs.declared.fault.TextFault.{TextFault}
use Rattle.packet_text.specs.Packets.{reading, canonical}
use Rattle.packet_text.specs.Texts.{packet_text, bytes_fault_text, text_fault_text}
use Rattle.packet_text.specs.Forms.{text_reading}
use Rattle.hex_text.specs.Line.{digits_of, spaced}
use Rattle.hex_text.specs.Lines.{is_skipped}
use Rattle.line_loop.specs.Run.{Answer, Responses, Run, run_of}

-- nothing is remembered from line to line
abbrev pub State : Type 0
State = Unit {0}

-- a line is written
abbrev pub told : List ℕ → Answer State
told text = record { state = tt; text = text ++ 10 ∷ []; is_fault = false }

-- a line tells a fault
abbrev pub fault : List ℕ → Answer State
fault text = record { state = tt; text = text ++ 10 ∷ []; is_fault = true }

abbrev pub nothing : State → Answer State
nothing s = record { state = tt; text = []; is_fault = false }

abbrev pub long_line : State → Answer State
long_line s = fault (codes "fault line")

-- ---- decode: bytes to words

abbrev pub decode_reading : Result Packet BytesFault → Answer State
decode_reading (Err f) = fault (bytes_fault_text f)
decode_reading (Ok p) = told (packet_text p)

abbrev pub decode_bytes : Result (List ℕ) FromHexError → Answer State
decode_bytes (Err e) = fault (codes "fault hex")
decode_bytes (Ok bytes) = decode_reading (reading bytes)

abbrev pub decode_line : State → List ℕ → Answer State
decode_line s line = if is_skipped line then nothing s else decode_bytes (decode_of (digits_of line))

abbrev pub decode_responses : Responses State
decode_responses = record { on_line = decode_line; on_long_line = long_line; on_end = nothing }

-- the whole run of `decode` on an input
abbrev pub out_decode : List ℕ → Run State
out_decode input = run_of decode_responses tt input

-- ---- encode: words to bytes

-- the canonical bytes, in capitals in groups of four
abbrev pub bytes_text : Packet → List ℕ
bytes_text p = spaced (encode_upper (canonical p))

abbrev pub encode_reading : Result Packet TextFault → Answer State
encode_reading (Err f) = fault (text_fault_text f)
encode_reading (Ok p) = told (bytes_text p)

abbrev pub encode_line : State → List ℕ → Answer State
encode_line s line = if is_skipped line then nothing s else encode_reading (text_reading line)

abbrev pub encode_responses : Responses State
encode_responses = record { on_line = encode_line; on_long_line = long_line; on_end = nothing }

-- the whole run of `encode` on an input
abbrev pub out_encode : List ℕ → Run State
out_encode input = run_of encode_responses tt input
