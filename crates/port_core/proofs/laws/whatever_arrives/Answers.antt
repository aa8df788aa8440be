use Rattle.std.proofs.Common.{ℕ, ◌+◌, ◌%◌, List, length, sym, subst, ap, ◌∙◌, arith, zero-add}
use Rattle.std.proofs.lemmas.List.{length-map}
use Rattle.link_replay.specs.ReceiverView.{ReceiverView, fresh}
use Rattle.link_replay.specs.ReceiverRuns.{AreConsecutive}
use Rattle.link_replay.specs.CargoView.{CargoView}
use Rattle.link_replay.specs.SenderView.{SenderView, fresh as fresh_sender}
use Rattle.link_replay.specs.Runs.{KeepsTheLast, after_calls}
use Rattle.port_core.specs.Port.{new_port}
use Rattle.port_core.specs.Runs.{story_of, story_in}
use Rattle.port_core.proofs.Longer.{numbers_of}
use Rattle.port_core.proofs.Stories.{new-story, calls-story, not-active}
use Rattle.port_core.proofs.laws.whatever_arrives.Goals as goal

pub returns-clause-numbers : goal.returns-clause-numbers
returns-clause-numbers c = λ ours calls are.
    let i = calls-story c.bytes_spell_one_dllp.ensures.spelled (story_of (new_port ours)) calls are (new-story ours) in
    subst (λ (xs : List ℕ). AreConsecutive 0 xs) i.receives.numbers (c.hands_up_what_it_advanced_by.ensures.from_the_start i.receives.calls)

pub returns-clause-next : goal.returns-clause-next
returns-clause-next c = λ ours calls are.
    let i = calls-story c.bytes_spell_one_dllp.ensures.spelled (story_of (new_port ours)) calls are (new-story ours) in
    sym (ap (λ (v : ReceiverView). v.next) i.receives.leads)
    ∙ c.hands_up_what_it_advanced_by.ensures.advanced fresh i.receives.calls (omega arith)
    ∙ ap (λ (xs : List ℕ). (0 + length xs) % 4096) i.receives.numbers
    ∙ ap (λ (n : ℕ). n % 4096) (zero-add (length (numbers_of (story_in ours calls).accepted)) ∙ length-map (story_in ours calls).accepted (λ (packet : ℕ × List ℕ). packet.0))

pub returns-clause-kept : goal.returns-clause-kept
returns-clause-kept c = λ ours calls are.
    let i = calls-story c.bytes_spell_one_dllp.ensures.spelled (story_of (new_port ours)) calls are (new-story ours) in
    subst (λ (s : SenderView). KeepsTheLast (story_in ours calls).entered s) i.sends.leads
    (subst (λ (xs : List CargoView). KeepsTheLast xs (after_calls fresh_sender i.sends.calls)) i.sends.taken (c.kept_are_the_last_accepted.ensures.kept i.sends.calls i.sends.are))

pub returns-clause-before : goal.returns-clause-before
returns-clause-before c = λ ours calls are.
    (calls-story c.bytes_spell_one_dllp.ensures.spelled (story_of (new_port ours)) calls are (new-story ours)).before

pub returns-clause-closed : goal.returns-clause-closed
returns-clause-closed c = λ ours calls are ne.
    (calls-story c.bytes_spell_one_dllp.ensures.spelled (story_of (new_port ours)) calls are (new-story ours)).closed (not-active (story_in ours calls).port.state ne)
