-- What the calls ask and tell.
use Rattle.std.specs.Prelude.{◌≡◌, ℕ, ◌+◌, ◌*◌, ◌^◌, ◌<◌, ◌≤◌, List, [], ◌∷◌, ◌++◌, length, Option, None}
use Rattle.tlp_core.specs.Limits.{most_requesters}
use Rattle.atomic_table.specs.Seated.{TableId}
use Rattle.atomic_table.specs.declared.shared.Seat.{Seat}
use Rattle.hall_laws.specs.declared.part.PartValue.{PartValue}
use Rattle.hall_laws.specs.declared.token.Token.{Token}
use Rattle.hall_laws.specs.declared.token.Knowledge.{Knowledge}
use Rattle.hall_laws.specs.Standing.{Sat, word_of, token_of, holding_first}
use Rattle.hall_laws.specs.Rule.{Known}

-- a slot and its word for each part of a fabric with so many requesters
abbrev pub IsSized : TableId → ℕ → Type 0
IsSized z r = (z.words ≡ word_of (9 * (1 + r))) × (z.slots ≡ 9 * (1 + r)) × (r ≤ most_requesters)

-- the table has this slot and its word, as one of the parts of at most eight ports
abbrev pub HasSlot : TableId → ℕ → Type 0
HasSlot z k = (word_of k < z.words) × (k < z.slots) × (z.slots ≤ 72)

-- the seat is of this table, and its first token has this number
abbrev pub IsOf : TableId → ℕ → ℕ → Seat (Option PartValue) (List Token) → Type 0
IsOf z r number s = (s.table_id ≡ z) × (0 < length s.me.0) × ((token_of s.me.0).knows.number ≡ number) × ((token_of s.me.0).knows.config.requesters ≡ r) × (number < 2 ^ 32)

-- the seat has one token, which holds nothing
abbrev pub IsIdle : Sat → Type 0
IsIdle m = (m ≡ (token_of m.0 ∷ [], [])) × ((token_of m.0).held ≡ [])

abbrev pub Took : Sat → ℕ → PartValue → Sat → Type 0
Took m k v m' = (m' ≡ (holding_first k v m.0, (k, None) ∷ m.1)) × Known (holding_first k v m.0)

-- the view of an idle seat that knows this
abbrev pub knowing : Knowledge → Sat
knowing w = (record { knows = w; held = [] } ∷ [], [])

abbrev pub serving_also : ℕ → Knowledge → Knowledge
serving_also n w = record w { served = w.served ++ n ∷ [] }
