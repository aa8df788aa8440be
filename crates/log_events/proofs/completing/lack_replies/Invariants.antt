use Rattle.std.proofs.Common.{◌≡◌, false, take}
use Rattle.std.specs.List.{list_any}
use Rattle.log_events.specs.Completing.{lacks_reply}
use Rattle.log_events.proofs.completing.lack_replies.Given as goal

abbrev pub invariant-loop-place : goal.invariant-loop-place
invariant-loop-place l = list_any lacks_reply (take l.place l.records) ≡ false
