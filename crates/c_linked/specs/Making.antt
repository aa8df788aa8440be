-- What an endpoint behind its link is made with.
use Rattle.std.specs.Prelude.{ℕ, ⊤, ◌&&◌, Bool, nat_le, if◌then◌else◌, Result, Ok, Err}
use Rattle.flow_control.specs.declared.limits.LaneCredits.{LaneCredits}
use Rattle.config_core.specs.SetupView.{SetupView, is_size}
use Rattle.c_linked.specs.SessionView.{SessionView, new_session}
use Rattle.c_linked.specs.declared.setup.FiniteCredits.{FiniteCredits}
use Rattle.c_linked.specs.declared.setup.LinkedSetup.{LinkedSetup}
use Rattle.c_linked.specs.declared.setup.NewFailure.{NewFailure}
use Rattle.c_linked.specs.declared.setup.NewFailure.TheVariants.{WrongSize, WrongCredits}

-- completions are infinite
abbrev pub advertised : FiniteCredits → LaneCredits
advertised c = record { ph = c.ph; pd = c.pd; nph = c.nph; npd = c.npd; cplh = 0; cpld = 0 }

abbrev pub setup_with : ℕ → ℕ → ℕ → FiniteCredits → Bool → LinkedSetup
setup_with size vendor device credits is_traced = record { size = size; vendor = vendor; device = device; credits = credits; is_traced = is_traced }

abbrev pub setup_of : LinkedSetup → SetupView
setup_of s = record { size = s.size; vendor = s.vendor; device = s.device }

abbrev pub is_between : ℕ → ℕ → ℕ → Bool
is_between least most first = nat_le least first && nat_le first most

-- finite; each packet can pass, and unused credit never exceeds 127 headers and 2047 data units
abbrev pub are_right : FiniteCredits → Bool
are_right c = is_between 1 127 c.ph && is_between 8 2047 c.pd && is_between 1 127 c.nph && is_between 2 2047 c.npd

-- the size is tested first
abbrev pub limit : LinkedSetup → Result ⊤ NewFailure
limit s = if is_size s.size then (if are_right s.credits then Ok tt else Err WrongCredits) else Err WrongSize

abbrev pub session_of : LinkedSetup → SessionView
session_of s = new_session (setup_of s) (advertised s.credits) s.is_traced
