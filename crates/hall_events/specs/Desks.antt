-- The desk of a call: its seat at the table of a hall.
use Rattle.std.specs.Prelude.{ℕ, ◌≡◌, ◌≢◌, ◌<◌, List, [], ◌∷◌, length, drop}
use Rattle.fabric_steps.specs.Event.{Event, Seen}
use Rattle.hall_laws.specs.declared.part.PartValue.{PartValue}
use Rattle.hall_laws.specs.declared.token.Knowledge.{Knowledge}
use Rattle.hall_laws.specs.Calls.{IsSized, IsOf}
use Rattle.hall_laws.specs.Parts.{part_slot, IsPartName}
use Rattle.hall_laws.specs.Rule.{Known, Goes}
use Rattle.hall_laws.specs.Standing.{Values, token_of, Outside}
use Rattle.hall_events.specs.declared.desk.Desk.{Desk}
use Rattle.hall_events.specs.declared.desk.Held.{Held}
use Rattle.hall_events.specs.Holds.{having}

-- what the first token of the seat knows
abbrev pub knows : Desk → Knowledge
knows d = (token_of d.place.now.me.0).knows

-- the parts that it holds
abbrev pub held_at : Desk → Values
held_at d = (token_of d.place.now.me.0).held

-- the seat is at its table, which has a slot for each part of a fabric with so many requesters
abbrev pub IsAtTable : Desk → Type 0
IsAtTable d = IsSized d.steps.now.table_id d.requesters × (d.place.now.table_id ≡ d.steps.now.table_id)

-- and its first token has the desk's number
abbrev pub IsDesk : Desk → Type 0
IsDesk d = IsSized d.steps.now.table_id d.requesters × IsOf d.steps.now.table_id d.requesters d.number d.place.now

-- the desk of the same seat at the same table
abbrev pub IsSame : Desk → Desk → Type 0
IsSame d d' =
    (d'.steps ≡ d.steps) × (d'.number ≡ d.number) × (d'.requesters ≡ d.requesters) × (d'.place.ghost_name ≡ d.place.ghost_name)
    × (d'.place.now.table_id ≡ d.place.now.table_id) × (d'.place.now.id ≡ d.place.now.id)

-- the seat that knows this is still of the same hall
abbrev pub IsOfHall : Knowledge → Knowledge → Type 0
IsOfHall w w' = (w'.config ≡ w.config) × (w'.opened ≡ w.opened) × (w'.seats ≡ w.seats)

-- a part that is held, by its slot
abbrev pub entry : Held → ℕ × PartValue
entry h = (part_slot h.part, h.value)

-- the seat has one token, which knows this and holds these parts, as some sound fabric has them
abbrev pub Has : Desk → Knowledge → Values → Type 0
Has d w h = (d.place.now.me ≡ having w h) × Known d.place.now.me.0

-- the part is the one that was taken last, with the value that it had then
abbrev pub IsLast : Desk → Held → Type 0
IsLast d h =
    IsPartName d.requesters h.part × (d.place.now.me ≡ having (knows d) (entry h ∷ drop 1 (held_at d))) × Outside (part_slot h.part) (drop 1 (held_at d))

-- two parts of the fabric that are held, each in a slot of its own
abbrev pub AreApart : Desk → Held → Held → Type 0
AreApart d one two = IsPartName d.requesters one.part × IsPartName d.requesters two.part × (part_slot one.part ≢ part_slot two.part)

-- the two parts that were taken, one and then two, had values with which some event happens, and have those after it;
-- the seat then knows this
abbrev pub Happened : Desk → Held → Held → Knowledge → Type 0
Happened d one two after =
    (v : PartValue) × (w : PartValue) × (d.place.now.me ≡ having (knows d) ((part_slot two.part, w) ∷ ((part_slot one.part, v) ∷ [])))
    × (after.number ≡ (knows d).number) × (event : Event) × (what : Seen)
    × Goes event what (record { knows = knows d; held = (part_slot two.part, w) ∷ ((part_slot one.part, v) ∷ []) }) (part_slot one.part) one.value (record { knows = after; held = entry two ∷ [] })
