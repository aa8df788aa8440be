-- Seats whose tokens go to one place.
use Rattle.std.specs.Prelude.{◌≡◌, List, [], map}
use Rattle.atomic_table.specs.Seated.{TableId}
use Rattle.fabric_steps.specs.Lists.{Each}
use Rattle.hall_laws.specs.declared.token.Token.{Token}
use Rattle.hall_core.specs.Views.{SeatView}

-- they are of this table
abbrev pub AreAt : TableId → List SeatView → Type 0
AreAt z seats = Each (λ (s : SeatView). s.table_id ≡ z) seats

-- the token of a seat, which holds nothing
abbrev pub token_at : SeatView → Token
token_at s = record { knows = s.knows; held = [] }

abbrev pub tokens_of : List SeatView → List Token
tokens_of seats = map token_at seats
