-- Flow-control initialization of VC0 (sections 3.2 and 3.4).
use Rattle.std.specs.Prelude.{not, ◌==◌, ◌&&◌, ◌||◌, Bool, true, false, nat_le, Option, Some, None, is_some}
use Rattle.dllp_core.specs.declared.packet.Class.{Class}
use Rattle.dllp_core.specs.declared.packet.Class.TheVariants.{Posted, NonPosted, Completion}
use Rattle.flow_control.specs.declared.limits.LaneCredits.{LaneCredits}
use Rattle.port_core.specs.declared.init.LinkState.{LinkState}
use Rattle.port_core.specs.declared.init.LinkState.TheVariants.{Inactive, Init1, Init2, Active}
use Rattle.port_core.specs.declared.init.Advertised.{Advertised}
use Rattle.port_core.specs.declared.init.FirstCredits.{FirstCredits}

-- nothing is recorded
abbrev pub nothing_advertised : Advertised
nothing_advertised = record { posted = None; non_posted = None; completion = None }

-- the first value of a class stays
abbrev pub first_kept : Option FirstCredits → FirstCredits → Option FirstCredits
first_kept None new = Some new
first_kept (Some old) new = Some old

abbrev pub advertised_with : Advertised → Class → FirstCredits → Advertised
advertised_with a Posted new =
    record { posted = first_kept a.posted new; non_posted = a.non_posted; completion = a.completion }
advertised_with a NonPosted new =
    record { posted = a.posted; non_posted = first_kept a.non_posted new; completion = a.completion }
advertised_with a Completion new =
    record { posted = a.posted; non_posted = a.non_posted; completion = first_kept a.completion new }

-- Flag FI1: the credits of all three classes are recorded
abbrev pub fi1 : Advertised → Bool
fi1 a = is_some a.posted && is_some a.non_posted && is_some a.completion

-- an InitFC advertises at most 127 headers and 2047 data units
abbrev pub is_allowed : FirstCredits → Bool
is_allowed first = nat_le first.header 127 && nat_le first.units 2047

-- 0 is infinite
abbrev pub is_finite : FirstCredits → Bool
is_finite first = not (first.header == 0) || not (first.units == 0)

abbrev pub or_infinite : Option FirstCredits → FirstCredits
or_infinite None = record { header = 0; units = 0 }
or_infinite (Some first) = first

-- the credits that are recorded
abbrev pub credits_of : Advertised → LaneCredits
credits_of a =
    record {
      ph = (or_infinite a.posted).header;
      pd = (or_infinite a.posted).units;
      nph = (or_infinite a.non_posted).header;
      npd = (or_infinite a.non_posted).units;
      cplh = (or_infinite a.completion).header;
      cpld = (or_infinite a.completion).units;
    }

-- the credits of a class
abbrev pub first_of : LaneCredits → Class → FirstCredits
first_of credits Posted = record { header = credits.ph; units = credits.pd }
first_of credits NonPosted = record { header = credits.nph; units = credits.npd }
first_of credits Completion = record { header = credits.cplh; units = credits.cpld }

-- DL_Up: packets are received
abbrev pub is_up : LinkState → Bool
is_up Inactive = false
is_up Init1 = false
is_up Init2 = true
is_up Active = true

-- the state after what sets Flag FI2: a TLP, an InitFC2 or an UpdateFC
abbrev pub activated : LinkState → LinkState
activated Inactive = Inactive
activated Init1 = Init1
activated Init2 = Active
activated Active = Active
