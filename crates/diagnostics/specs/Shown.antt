-- How a byte is shown to people.
use Rattle.std.specs.Prelude.{ℕ, ◌/◌, ◌%◌, ◌&&◌, nat_le, true, if◌then◌else◌, List, [], ◌∷◌}
use Rattle.std.specs.Fmt.{digit_glyph}

-- printable ASCII as it is, and any other byte as `\xNN`
abbrev pub shown_byte : ℕ → List ℕ
shown_byte b =
    if nat_le 32 b && nat_le b 126 then b ∷ []
    else 92 ∷ 120 ∷ digit_glyph true (b / 16) ∷ digit_glyph true (b % 16) ∷ []
