use Rattle.std.proofs.Common.{◌≡◌, false, take}
use Rattle.std.specs.List.{list_any}
use Rattle.history_words.specs.Trace.{answers_to}
use Rattle.search_engine.proofs.flaws.is_answered.Given as goal

abbrev pub invariant-loop-place : goal.invariant-loop-place
invariant-loop-place l = list_any (answers_to l.requester l.number) (take l.place l.records) ≡ false
