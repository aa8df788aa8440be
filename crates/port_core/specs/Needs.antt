-- What the bytes of any TLP take of the credits, by Fmt, Type and Length (sections 2.2.1 and 2.6.1).
use Rattle.std.specs.Prelude.{ℕ, ◌+◌, ◌/◌, ◌%◌, ◌==◌, ◌&&◌, ◌||◌, Bool, nat_le, if◌then◌else◌, List, length, slice_index, Option, Some, None}
use Rattle.tlp_core.specs.Layout.{dw_count}
use Rattle.dllp_core.specs.declared.packet.Class.{Class}
use Rattle.dllp_core.specs.declared.packet.Class.TheVariants as classes
use Rattle.flow_control.specs.declared.needs.Need.{Need}

-- Fmt and Type, the high 3 and the low 5 bits of byte 0
abbrev pub fmt_of : List ℕ → ℕ
fmt_of bytes = slice_index bytes 0 / 32

abbrev pub type_of : List ℕ → ℕ
type_of bytes = slice_index bytes 0 % 32

-- bit 1 of Fmt
abbrev pub is_with_data : List ℕ → Bool
is_with_data bytes = fmt_of bytes / 2 % 2 == 1

-- types 01010 and 01011 are completions; messages, 10xxx, and memory writes, 00000 with data, are posted; all else isn't
abbrev pub class_at : List ℕ → Class
class_at bytes =
    if (type_of bytes == 10) || (type_of bytes == 11) then classes.Completion
    else (if (type_of bytes / 8 == 2) || ((type_of bytes == 0) && is_with_data bytes) then classes.Posted else classes.NonPosted)

-- Length counts only with data; a unit has 4 DW
abbrev pub units_at : List ℕ → ℕ
units_at bytes = if is_with_data bytes then (dw_count bytes + 3) / 4 else 0

-- none for fewer than 4 bytes, and for a prefix or an undefined Fmt
abbrev pub need_at : List ℕ → Option Need
need_at bytes =
    if nat_le 4 (length bytes) && nat_le (fmt_of bytes) 3 then Some (record { class = class_at bytes; header = 1; units = units_at bytes })
    else None
