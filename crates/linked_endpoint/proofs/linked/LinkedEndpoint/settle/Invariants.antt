use Rattle.linked_endpoint.specs.Linked.{turns_left}
use Rattle.linked_endpoint.proofs.Turns.{IsAt}
use Rattle.linked_endpoint.proofs.linked.LinkedEndpoint.settle.Given as goal

abbrev pub invariant-loop-self : goal.invariant-loop-self
invariant-loop-self l = IsAt l.fn.self l.fn.recording l.self l.recording

abbrev pub decreases-loop-self : goal.decreases-loop-self
decreases-loop-self l = turns_left l.self
