-- Which points are shown. A point is a length of the history.
use Rattle.std.specs.Prelude.{ℕ, ◌-◌, ◌==◌, ◌&&◌, nat_lt, min, Bool, if◌then◌else◌, List, Option, Some, None, slice_get}
use Rattle.history_words.specs.Records.{Record}
use Rattle.history_words.specs.declared.flaws.Flaw.{Flaw}
use Rattle.flaw_places.specs.Places.{is_of_entry}
use Rattle.history_bars.specs.declared.scale.Scale.{Scale}
use Rattle.history_bars.specs.Words.{moment_of}
use Rattle.history_picture.specs.declared.scale.Window.{Window}

-- neither the first point nor the last one is chosen
abbrev pub is_open : Window → Bool
is_open w = (w.from == 0) && (w.to == 18446744073709551615)

-- there are more than 60 points after the first, and none are chosen
abbrev pub is_cut : Window → ℕ → Bool
is_cut w count = is_open w && nat_lt 60 count

-- what the window leaves of a history of that length
abbrev pub chosen : Window → ℕ → Scale
chosen w count = record {
  from = min w.from (min w.to count);
  span = min (min w.to count - min w.from (min w.to count)) 4294967295;
}

-- 60 points, up to 20 of them behind this one
abbrev pub around : ℕ → ℕ → Scale
around point count = record { from = min (point - 40) (count - 60); span = 60 }

-- what is shown of a history of that length, in which the first flaw is at this point
abbrev pub scale_of : Window → ℕ → ℕ → Scale
scale_of w point count = if is_cut w count then around point count else chosen w count

-- the point of a record, or the first one
abbrev pub point_or_first : Option ℕ → ℕ
point_or_first None = 0
point_or_first (Some n) = n

-- where a flaw is: at the point before the entry, or at the length that the history had at the record
abbrev pub point_of : List Record → Flaw → ℕ
point_of rs f = if is_of_entry f.kind then f.place else point_or_first (moment_of (slice_get rs f.place))

-- the point of the first flaw, or else the first one
abbrev pub flaw_point : List Record → Option Flaw → ℕ
flaw_point rs None = 0
flaw_point rs (Some f) = point_of rs f
