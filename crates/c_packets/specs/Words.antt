-- Packets in words and in bytes, in the caller's buffer.
use Rattle.std.specs.Prelude.{ℕ, nat_lt, if◌then◌else◌, List, length, Result, Ok, Err}
use Rattle.packet_text.specs.declared.packet.Packet.{Packet}
use Rattle.packet_text.specs.declared.fault.BytesFault.{BytesFault}
use Rattle.packet_text.specs.declared.fault.TextFault.{TextFault}
use Rattle.packet_text.specs.Packets.{reading, canonical}
use Rattle.packet_text.specs.Texts.{packet_text, bytes_fault_text, text_fault_text}
use Rattle.packet_text.specs.Forms.{text_reading}
use Rattle.c_buffer.specs.declared.outcome.Failure.TheVariants.{SmallBuffer}
use Rattle.c_buffer.specs.Buffer.{Told, untold, told, told_fault}

abbrev pub words_told : List ℕ → Result Packet BytesFault → Told ℕ
words_told buffer (Ok p) = told buffer (packet_text p)
words_told buffer (Err f) = told_fault buffer (bytes_fault_text f)

-- the words of bytes
abbrev pub in_words : List ℕ → List ℕ → Told ℕ
in_words bytes buffer = if nat_lt (length buffer) 512 then untold buffer (Err SmallBuffer) else words_told buffer (reading bytes)

abbrev pub bytes_told : List ℕ → Result Packet TextFault → Told ℕ
bytes_told buffer (Ok p) = told buffer (canonical p)
bytes_told buffer (Err f) = told_fault buffer (text_fault_text f)

-- the bytes of a line of words
abbrev pub in_bytes : List ℕ → List ℕ → Told ℕ
in_bytes line buffer = if nat_lt (length buffer) 512 then untold buffer (Err SmallBuffer) else bytes_told buffer (text_reading line)
