use Rattle.std.proofs.Common.{sym}
use Rattle.search_run.proofs.TrailLemmas.{behind}
use Rattle.search_run.proofs.trail.Rest.next.Goals as goal

pub invariant_of-self-2 : goal.invariant_of-self-2
invariant_of-self-2 c =
    let r = c.self.inside in
    behind r.marks.now r.requests.now r.bytes.now c.from-size.result c.self.invariant (sym c.if-is_empty.ensures) c.if-mark.false c.from-size.ensures
