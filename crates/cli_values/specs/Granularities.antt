-- What the value of an option writes that names a granularity.
use Rattle.std.specs.Prelude.{◌≡◌, if◌then◌else◌, bytes_eq, codes, List, ℕ, Option, Some, None}
use Rattle.log_pieces.specs.declared.Granularity.{Granularity}
use Rattle.log_pieces.specs.declared.Granularity.TheVariants.{Four, Eight, Sixteen, SixtyFour, Whole}

-- the size of a piece in bytes, or `whole`
abbrev pub granularity : List ℕ → Option Granularity
granularity text =
    if bytes_eq text (codes "4") then Some Four
    else if bytes_eq text (codes "8") then Some Eight
    else if bytes_eq text (codes "16") then Some Sixteen
    else if bytes_eq text (codes "64") then Some SixtyFour
    else if bytes_eq text (codes "whole") then Some Whole
    else None

-- whole requests where no value is given
abbrev pub WritesGranularity : Option (List ℕ) → Granularity → Type 0
WritesGranularity None g = g ≡ Whole
WritesGranularity (Some text) g = granularity text ≡ Some g
