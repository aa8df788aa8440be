use Rattle.std.proofs.Common.{◌≡◌, List, length, subst, sym, arith, Option}
use Rattle.sweep_engine.specs.declared.piping.Said.{Said}
use Rattle.sweep_engine.specs.Pipe.{AreFound}
use Rattle.sweep_engine.proofs.Sweeps.{found_each, kept}
use Rattle.sweep_engine.proofs.judging.found_in.Goals as goal

pub returns-clause-found : goal.returns-clause-found
returns-clause-found g c =
    let o = c.args.batch.sweep.now in
    let new = c.fill.new.found in
    let all : length new ≡ c.in_ok-found.found.len = omega (arith, c.fill.auto.found, c.as_mut_slice.ensures.len) in
    subst (λ (found : List (Option Said)). AreFound o c.args.batch.first found) (sym (kept c.in_ok-found.found.len new _ all))
    (found_each o c.args.batch.first new (λ i d below. c.fill.ensures i d (omega (arith, below, c.fill.auto.found))))
