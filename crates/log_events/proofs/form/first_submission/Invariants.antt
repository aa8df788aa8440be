use Rattle.std.proofs.Common.{◌≡◌, false, take}
use Rattle.std.specs.List.{list_any}
use Rattle.log_events.specs.Formed.{submits}
use Rattle.log_events.proofs.form.first_submission.Given as goal

abbrev pub invariant-loop-at : goal.invariant-loop-at
invariant-loop-at l = list_any (submits l.requester l.number) (take l.at l.records) ≡ false
