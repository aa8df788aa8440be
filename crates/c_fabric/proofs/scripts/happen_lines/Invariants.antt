use Rattle.std.proofs.Common.{length}
use Rattle.c_fabric.proofs.ScriptLemmas.{Stands}
use Rattle.c_fabric.proofs.scripts.happen_lines.Given as goal

abbrev pub invariant-loop-rest : goal.invariant-loop-rest
invariant-loop-rest l = Stands l.fn.session l.fn.buffer l.text l.session l.buffer l.done l.size l.rest

abbrev pub decreases-loop-rest : goal.decreases-loop-rest
decreases-loop-rest l = length l.rest
