-- Where packets are sent on a lane, and where their arrows begin.
use Rattle.std.specs.Prelude.{ℕ, ◌+◌, ◌-◌, ◌≤◌, ◌==◌, if◌then◌else◌, List, [], ◌∷◌, ◌++◌, length, Option, Some}
use Rattle.fabric_steps.specs.Event.{Event, Seen}
use Rattle.chart_rows.specs.declared.row.PacketSent.{PacketSent}
use Rattle.chart_rows.specs.declared.row.Deed.{Deed}
use Rattle.chart_rows.specs.declared.row.Deed.TheVariants as deeds
use Rattle.chart_links.specs.Lanes.{Moved, followed, place_of}
use Rattle.chart_links.specs.ChartView.{ChartView, row_at, place_for, charted, headed}

-- an event that happened, its line of the script, and what was seen of it
pub record EventTale : Type 0 where
  pub line : ℕ
  pub event : Event
  pub what : Seen

-- what a chart is told: that a line of the script is a `settle`, whose events follow, or that an event happened
pub data Tale : Type 0 where
  Settles : ℕ → Tale
  Happens : EventTale → Tale

abbrev pub told : ChartView → EventTale → ChartView
told v t = charted v t.line t.event t.what

-- the row that the event gets, if it is shown
abbrev pub row_in : ChartView → EventTale → Option ℕ
row_in v t = row_at (place_for v t.line t.event t.what) (length v.page.rows)

-- what is drawn of it
abbrev pub deed_in : ChartView → EventTale → Deed
deed_in v t = (followed v.courses (row_in v t) t.event t.what).deed

-- the packet that goes onto the lane at this place of the list of lanes, in a row that is perhaps shown
abbrev pub sent_on : ℕ → Option ℕ → Deed → List (Option PacketSent)
sent_on k row (deeds.Sent lane number c) = if place_of lane == k then Some (record { number = number; carried = c; row = row }) ∷ [] else []
sent_on k row _ = []

-- the packet of an arrow on that lane; the arrow begins in its row
abbrev pub begun_on : ℕ → Deed → List (Option PacketSent)
begun_on k (deeds.Arrived lane fate arrival sent) = if place_of lane == k then sent ∷ [] else []
begun_on k _ = []

-- of all events, in turn
abbrev pub sendings : ℕ → ChartView → List Tale → List (Option PacketSent)
sendings k v [] = []
sendings k v (Tale.Settles line ∷ ts) = sendings k (headed v line) ts
sendings k v (Tale.Happens t ∷ ts) = sent_on k (row_in v t) (deed_in v t) ++ sendings k (told v t) ts

abbrev pub beginnings : ℕ → ChartView → List Tale → List (Option PacketSent)
beginnings k v [] = []
beginnings k v (Tale.Settles line ∷ ts) = beginnings k (headed v line) ts
beginnings k v (Tale.Happens t ∷ ts) = begun_on k (deed_in v t) ++ beginnings k (told v t) ts

-- a packet arrives on the lane only if one is under way, of which there are so many
abbrev pub NeverMore : ℕ → ℕ → ChartView → List Tale → Type 0
NeverMore k n v [] = Unit {0}
NeverMore k n v (Tale.Settles line ∷ ts) = NeverMore k n (headed v line) ts
NeverMore k n v (Tale.Happens t ∷ ts) =
    (length (begun_on k (deed_in v t)) ≤ n) × NeverMore k (n + length (sent_on k (row_in v t) (deed_in v t)) - length (begun_on k (deed_in v t))) (told v t) ts
