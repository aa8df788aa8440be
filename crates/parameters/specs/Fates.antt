-- What becomes of the packet or DLLP of a count.
use Rattle.std.specs.Prelude.{ℕ, zero, suc, ◌+◌, ◌-◌, ◌*◌, ◌/◌, ◌%◌, Bool, true, false, ◌&&◌, nat_lt, nat_le, if◌then◌else◌}
use Rattle.lane_core.specs.declared.packet.Fate.{Fate}
use Rattle.lane_core.specs.declared.packet.Fate.TheVariants.{Good, Failed, Lost}

-- the count, spread evenly over 65,536 values: 40,503 is odd, so 65,536 counts in a row have each value once
abbrev pub spread : ℕ → ℕ
spread count = count % 65536 * 40503 % 65536

-- the lowest values are lost, and the greatest of the others fail their check
abbrev pub fate_of : ℕ → ℕ → ℕ → Fate
fate_of lose corrupt count =
    if nat_lt 0 lose && nat_lt (spread count) (65536 / lose) then Lost
    else (if nat_lt 0 corrupt && nat_le (65536 - 65536 / corrupt) (spread count) then Failed
    else Good)

abbrev pub is_lost : Fate → Bool
is_lost Lost = true
is_lost Failed = false
is_lost Good = false

abbrev pub is_failed : Fate → Bool
is_failed Lost = false
is_failed Failed = true
is_failed Good = false

abbrev pub one_if : Bool → ℕ
one_if true = 1
one_if false = 0

-- how many of so many counts in a row pass a test
unfoldable pub how_many : (ℕ → Bool) → ℕ → ℕ → ℕ
how_many test start zero = 0
how_many test start (suc n) = how_many test start n + one_if (test (start + n))
