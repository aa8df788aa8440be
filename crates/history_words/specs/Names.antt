-- The numbers and names under which flaws are told.
use Rattle.std.specs.Prelude.{ℕ, List, codes}
use Rattle.history_words.specs.declared.flaws.FlawKind.{FlawKind}
use Rattle.history_words.specs.declared.flaws.FlawKind.TheVariants as flaws

abbrev pub number_of : FlawKind → ℕ
number_of flaws.Numbering = 1
number_of flaws.Stranger = 2
number_of flaws.Twice = 3
number_of flaws.Order = 4
number_of flaws.Unasked = 5
number_of flaws.Again = 6
number_of flaws.Absent = 7
number_of flaws.Early = 8
number_of flaws.Late = 9
number_of flaws.Reply = 10
number_of flaws.Stale = 11
number_of flaws.Memory = 12
number_of flaws.Clock = 13

abbrev pub name_of : FlawKind → List ℕ
name_of flaws.Numbering = codes "Numbering"
name_of flaws.Stranger = codes "Stranger"
name_of flaws.Twice = codes "Twice"
name_of flaws.Order = codes "Order"
name_of flaws.Unasked = codes "Unasked"
name_of flaws.Again = codes "Again"
name_of flaws.Absent = codes "Absent"
name_of flaws.Early = codes "Early"
name_of flaws.Late = codes "Late"
name_of flaws.Reply = codes "Reply"
name_of flaws.Stale = codes "Stale"
name_of flaws.Memory = codes "Memory"
name_of flaws.Clock = codes "Clock"
