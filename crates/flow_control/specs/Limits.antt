-- Which first values a lane can advertise.
use Rattle.std.specs.Prelude.{ℕ, ◌≡◌, ◌≤◌, ◌⊎◌}
use Rattle.dllp_core.specs.declared.packet.Class.{Class}
use Rattle.dllp_core.specs.declared.packet.Class.TheVariants.{Posted, NonPosted, Completion}
use Rattle.flow_control.specs.declared.limits.LaneCredits.{LaneCredits}

-- infinite, or at least so many and at most so many
abbrev pub IsInfiniteOrBetween : ℕ → ℕ → ℕ → Type 0
IsInfiniteOrBetween least most first = (first ≡ 0) ⊎ ((least ≤ first) × (first ≤ most))

-- the least finite data credit of a class: the greatest payload of 128 bytes, for AtomicOps 32
abbrev pub least_units : Class → ℕ
least_units Posted = 8
least_units NonPosted = 2
least_units Completion = 8

-- each packet can pass, and unused credit never exceeds 127 header and 2047 data units
pub record IsInLimits (credits : LaneCredits) : Type 0 where
  pub ph : IsInfiniteOrBetween 1 127 credits.ph
  pub pd : IsInfiniteOrBetween 8 2047 credits.pd
  pub nph : IsInfiniteOrBetween 1 127 credits.nph
  pub npd : IsInfiniteOrBetween 2 2047 credits.npd
  pub cplh : IsInfiniteOrBetween 1 127 credits.cplh
  pub cpld : IsInfiniteOrBetween 8 2047 credits.cpld
