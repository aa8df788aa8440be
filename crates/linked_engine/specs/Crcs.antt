-- What a line says that arrived: bytes and the word of their check, or bytes with their CRC behind them.
use Rattle.std.specs.Prelude.{ℕ, ◌-◌, ◌==◌, Bool, if◌then◌else◌, List, length, take, drop, codes, bytes_eq, Option, Some, None, option_map}
use Rattle.link_crc.specs.Checks.{dllp_check_of}
use Rattle.link_crc.specs.declared.check.Check.{Check}
use Rattle.link_crc.specs.declared.check.Check.TheVariants.{Good, Failed}
use Rattle.link_crc.specs.declared.check.Framing.{Framing}
use Rattle.link_crc.specs.declared.check.Framing.TheVariants.{End, Edb}
use Rattle.linked_engine.specs.declared.frames.Mark.{Mark}
use Rattle.linked_engine.specs.declared.frames.Mark.TheVariants as marks

-- all of a line but so many bytes at its end
abbrev pub without_last : ℕ → List ℕ → List ℕ
without_last count line = take (length line - count) line

abbrev pub ends_in : List ℕ → List ℕ → Bool
ends_in word line = bytes_eq (drop (length line - length word) line) word

-- the digits before the word of a check, and the check
abbrev pub worded : List ℕ → Option (List ℕ × Check)
worded line =
    if ends_in (codes " good") line then Some (without_last 5 line, Good)
    else (if ends_in (codes " failed") line then Some (without_last 7 line, Failed)
    else None)

-- with CRCs the line of a DLLP has digits alone
abbrev pub marked_dllp : Bool → List ℕ → Option (List ℕ × Check)
marked_dllp has_crc line = if has_crc then Some (line, Good) else worded line

-- and that of a packet `edb` at its end, if its framing ends in EDB
abbrev pub framed_in : List ℕ → List ℕ × Framing
framed_in line = if ends_in (codes " edb") line then (without_last 4 line, Edb) else (line, End)

abbrev pub marked_packet : Bool → List ℕ → Option (List ℕ × Mark)
marked_packet has_crc line =
    if has_crc then Some ((framed_in line).0, marks.Framing (framed_in line).1) else option_map (λ m. (m.0, marks.Word m.1)) (worded line)

-- a DLLP with its CRC has six bytes
abbrev pub dllp_check : List ℕ → Check
dllp_check bytes = if length bytes == 6 then dllp_check_of bytes else Failed
