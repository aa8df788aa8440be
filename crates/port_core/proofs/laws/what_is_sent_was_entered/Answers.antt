use Rattle.std.proofs.Common.{◌%◌, List, length, sym, ap, ◌∙◌}
use Rattle.link_replay.specs.CargoView.{CargoView}
use Rattle.link_replay.specs.SenderView.{SenderView, next_number}
use Rattle.port_core.specs.Port.{new_port, choice_of}
use Rattle.port_core.specs.Runs.{story_of, story_in}
use Rattle.port_core.proofs.Stories.{new-story, calls-story}
use Rattle.port_core.proofs.Sent.{chosen-entered}
use Rattle.port_core.proofs.laws.what_is_sent_was_entered.Goals as goal

pub returns-clause-sent : goal.returns-clause-sent
returns-clause-sent c = λ ours calls number are e.
    let i = calls-story c.bytes_spell_one_dllp.ensures.spelled (story_of (new_port ours)) calls are (new-story ours) in
    chosen-entered c.transmitted_under_its_own_number.ensures (choice_of (story_in ours calls).port) (story_in ours calls).port (story_in ours calls).entered number i.sends e

pub returns-clause-next : goal.returns-clause-next
returns-clause-next c = λ ours calls are.
    let i = calls-story c.bytes_spell_one_dllp.ensures.spelled (story_of (new_port ours)) calls are (new-story ours) in
    sym (ap (λ (s : SenderView). next_number s) i.sends.leads)
    ∙ c.kept_are_the_last_accepted.ensures.next i.sends.calls i.sends.are
    ∙ ap (λ (xs : List CargoView). length xs % 4096) i.sends.taken
