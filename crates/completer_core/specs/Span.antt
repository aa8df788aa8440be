-- From the first enabled byte of an access to the last (PCI Express Base 4.0, section 2.3.1.1).
use Rattle.std.specs.Prelude.{ℕ, ◌+◌, ◌-◌, ◌%◌, Bool, ◌==◌, if◌then◌else◌, List, length, reverse}
use Rattle.std.specs.List.{position_or_len}

-- how many bytes stand before the first that is enabled
abbrev pub lead : List Bool → ℕ
lead es = position_or_len (λ e. e) es

-- no byte is enabled
abbrev pub is_empty : List Bool → Bool
is_empty es = lead es == length es

-- from the first enabled byte to the last, both counted; 1 where none is enabled
abbrev pub span : List Bool → ℕ
span es = if is_empty es then 1 else length es - lead es - lead (reverse es)

-- the low 7 bits of the first enabled byte's address; of the access's own where none is enabled
abbrev pub low_address : ℕ → List Bool → ℕ
low_address address es = if is_empty es then address % 128 else (address + lead es) % 128
