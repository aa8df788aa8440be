use Rattle.std.proofs.Common.{◌≡◌, drop}
use Rattle.std.specs.List.{list_any}
use Rattle.history_words.specs.Trace.{answers_to}
use Rattle.search_scene.proofs.ends.is_answered_from.Given as goal

abbrev pub invariant-loop-place : goal.invariant-loop-place
invariant-loop-place l = list_any (answers_to l.name.requester l.name.number) (drop l.from l.records) ≡ list_any (answers_to l.name.requester l.name.number) (drop l.place l.records)
