use Rattle.std.proofs.Common.{◌∙◌, sym, subst}
use Rattle.search_places.specs.Known.{IsDeadEntry}
use Rattle.search_places.proofs.Knowing.{dead_alike}
use Rattle.search_places.proofs.memo.is_among.Goals as goal

pub returns-then-eq : goal.returns-then-eq
returns-then-eq c = λ log all hit.
    let entry = c.in-Some.entry.now in
    dead_alike log entry.key c.args.key.now (sym c.eq.ensures ∙ c.if-eq.true)
    (subst (IsDeadEntry log) (sym c.in-Some.ensures.lookup.1) (all c.loop-step.at entry c.in-Some.ensures.lookup.3.0))
