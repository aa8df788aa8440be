-- Where DLLPs are sent on a lane's wire back, and where their arrows begin; and what is still on the wires.
use Rattle.std.specs.Prelude.{ℕ, ◌==◌, if◌then◌else◌, List, [], ◌∷◌, ◌++◌, map, Option, Some, slice_get}
use Rattle.chart_rows.specs.declared.row.PacketSent.{PacketSent}
use Rattle.chart_rows.specs.declared.row.DllpSent.{DllpSent}
use Rattle.chart_rows.specs.declared.row.Deed.{Deed}
use Rattle.chart_rows.specs.declared.row.Deed.TheVariants as deeds
use Rattle.chart_links.specs.CourseView.{CourseView}
use Rattle.chart_links.specs.Lanes.{place_of, asked_found}
use Rattle.chart_links.specs.ChartView.{ChartView, headed}
use Rattle.chart_laws.specs.Arrows.{Tale, told, row_in, deed_in}

-- the DLLP that goes onto the wire back of the lane at this place of the list of lanes, in a row that is perhaps shown
abbrev pub dllp_sent_on : ℕ → Option ℕ → Deed → List (Option DllpSent)
dllp_sent_on k row (deeds.SentDllp lane d) = if place_of lane == k then Some (record { dllp = d; row = row }) ∷ [] else []
dllp_sent_on k row _ = []

-- the DLLP of an arrow on that lane; the arrow begins in its row
abbrev pub dllp_begun_on : ℕ → Deed → List (Option DllpSent)
dllp_begun_on k (deeds.ArrivedDllp lane fate sent replay) = if place_of lane == k then sent ∷ [] else []
dllp_begun_on k _ = []

-- of all events, in turn
abbrev pub dllp_sendings : ℕ → ChartView → List Tale → List (Option DllpSent)
dllp_sendings k v [] = []
dllp_sendings k v (Tale.Settles line ∷ ts) = dllp_sendings k (headed v line) ts
dllp_sendings k v (Tale.Happens t ∷ ts) = dllp_sent_on k (row_in v t) (deed_in v t) ++ dllp_sendings k (told v t) ts

abbrev pub dllp_beginnings : ℕ → ChartView → List Tale → List (Option DllpSent)
dllp_beginnings k v [] = []
dllp_beginnings k v (Tale.Settles line ∷ ts) = dllp_beginnings k (headed v line) ts
dllp_beginnings k v (Tale.Happens t ∷ ts) = dllp_begun_on k (deed_in v t) ++ dllp_beginnings k (told v t) ts

-- the packets and the DLLPs that are still on the wires of that lane
abbrev pub packets_left : ℕ → List CourseView → List (Option PacketSent)
packets_left k cs = asked_found (λ (c : CourseView). map (λ (p : PacketSent). Some p) c.wire) [] (slice_get cs k)

abbrev pub dllps_left : ℕ → List CourseView → List (Option DllpSent)
dllps_left k cs = asked_found (λ (c : CourseView). map (λ (d : DllpSent). Some d) c.back) [] (slice_get cs k)
