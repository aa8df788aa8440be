-- What a work seat carries from one seat to another.
use Rattle.std.specs.Prelude.{List}
use Rattle.seq_memory.specs.Entries.{Entry}
use Rattle.hall_laws.specs.declared.token.Knowledge.{Knowledge}
use Rattle.hall_laws.specs.Rule.{Begins}
use Rattle.hall_laws.specs.Tells.{Met}

-- one seat met at a history with another
pub record HaveMet (a b a' b' : Knowledge) : Type 0 where
  pub at : List Entry
  pub one : Met a at a'
  pub two : Met b at b'

-- a work seat met the seat that knew a, and then, having seen no less, the seat that knows b since
pub record IsCarried (a b : Knowledge) : Type 0 where
  pub a' : Knowledge
  pub b' : Knowledge
  pub empty : Knowledge
  pub laden : Knowledge
  pub there : Knowledge
  pub done : Knowledge
  pub taken : HaveMet a empty a' laden
  pub kept : Begins laden.seen there.seen
  pub given : HaveMet b' there b done
