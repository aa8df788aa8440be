-- The credits that a device advertises to the peer on its link.
use Rattle.std.specs.Prelude.{ℕ, ◌&&◌, Bool, nat_le}
use Rattle.flow_control.specs.declared.limits.LaneCredits.{LaneCredits}

-- completions are infinite
abbrev pub advertised : ℕ → ℕ → ℕ → ℕ → LaneCredits
advertised ph pd nph npd = record { ph = ph; pd = pd; nph = nph; npd = npd; cplh = 0; cpld = 0 }

abbrev pub is_between : ℕ → ℕ → ℕ → Bool
is_between least most first = nat_le least first && nat_le first most

-- finite; each packet can pass, and unused credit never exceeds 127 headers and 2047 data units
abbrev pub are_finite : ℕ → ℕ → ℕ → ℕ → Bool
are_finite ph pd nph npd = is_between 1 127 ph && is_between 8 2047 pd && is_between 1 127 nph && is_between 2 2047 npd
