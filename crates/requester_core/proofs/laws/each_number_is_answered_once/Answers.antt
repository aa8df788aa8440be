use Rattle.std.proofs.Common.{sym, ap, ◌∙◌, zero-add}
use Rattle.std.specs.List.{range_with_len}
use Rattle.requester_core.specs.RequesterView.{fresh}
use Rattle.requester_core.proofs.Tags.{sound_fresh}
use Rattle.requester_core.proofs.Numbers.{gave_calls, sound_calls, not_yet, once}
use Rattle.requester_core.proofs.laws.each_number_is_answered_once.Goals as goal

pub returns-clause-numbers : goal.returns-clause-numbers
returns-clause-numbers c = λ port calls.
    let g = gave_calls (fresh port) calls in g.numbers ∙ ap (range_with_len 0) (sym (g.next ∙ zero-add g.count))

pub returns-clause-sound : goal.returns-clause-sound
returns-clause-sound c = λ port calls h1 h2. sound_calls (fresh port) calls (sound_fresh port h1 h2)

pub returns-clause-not_yet : goal.returns-clause-not_yet
returns-clause-not_yet c = λ port n calls h1 h2 o i. not_yet (fresh port) calls n (sound_fresh port h1 h2) o i

pub returns-clause-once : goal.returns-clause-once
returns-clause-once c = λ port calls h1 h2. once (fresh port) calls (sound_fresh port h1 h2)
