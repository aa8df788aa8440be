-- What the value of an option writes that gives the credits of an endpoint behind a link.
use Rattle.std.specs.Prelude.{◌≡◌, ◌+◌, ◌-◌, ◌*◌, ◌==◌, ◌&&◌, nat_le, Bool, if◌then◌else◌, List, [], ◌∷◌, ℕ, Option, Some, None}
use Rattle.flow_control.specs.declared.limits.LaneCredits.{LaneCredits}
use Rattle.linked_engine.specs.Credits.{advertised, are_finite}

abbrev pub is_digit : ℕ → Bool
is_digit c = nat_le 48 c && nat_le c 57

-- the number of at most four decimal digits up to a comma or the end, behind digits that write `n`, and what stands behind the comma
unfoldable pub number_in : ℕ → List ℕ → Option (ℕ × Option (List ℕ))
number_in n [] = Some (n, None)
number_in n (c ∷ cs) =
    if c == 44 then Some (n, Some cs)
    else (if is_digit c && nat_le n 999 then number_in (n * 10 + (c - 48)) cs else None)

-- the next number, if a comma was there
abbrev pub next_number : Option (List ℕ) → Option (ℕ × Option (List ℕ))
next_number None = None
next_number (Some text) = number_in 0 text

-- finite credits, in the order of their numbers
abbrev pub finite : ℕ → ℕ → ℕ → ℕ → Option LaneCredits
finite ph pd nph npd = if are_finite ph pd nph npd then Some (advertised ph pd nph npd) else None

abbrev pub after_three : ℕ → ℕ → ℕ → Option (ℕ × Option (List ℕ)) → Option LaneCredits
after_three ph pd nph (Some (npd, None)) = finite ph pd nph npd
after_three ph pd nph _ = None

abbrev pub after_two : ℕ → ℕ → Option (ℕ × Option (List ℕ)) → Option LaneCredits
after_two ph pd (Some (nph, rest)) = after_three ph pd nph (next_number rest)
after_two ph pd None = None

abbrev pub after_one : ℕ → Option (ℕ × Option (List ℕ)) → Option LaneCredits
after_one ph (Some (pd, rest)) = after_two ph pd (next_number rest)
after_one ph None = None

abbrev pub after_none : Option (ℕ × Option (List ℕ)) → Option LaneCredits
after_none (Some (ph, rest)) = after_one ph (next_number rest)
after_none None = None

-- posted headers and data, non-posted headers and data, with commas between
abbrev pub credits : List ℕ → Option LaneCredits
credits text = after_none (number_in 0 text)

abbrev pub usual : LaneCredits
usual = advertised 16 64 16 16

-- those where no value is given
abbrev pub WritesCredits : Option (List ℕ) → LaneCredits → Type 0
WritesCredits None c = c ≡ usual
WritesCredits (Some text) c = credits text ≡ Some c
