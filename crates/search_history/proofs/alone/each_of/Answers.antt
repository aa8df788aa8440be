use Rattle.std.proofs.Common.{ℕ, ◌≤◌, sym, subst, arith}
use Rattle.search_run.specs.Watched.{Spends}
use Rattle.search_history.specs.Looks.{IsOn, IsPartOf}
use Rattle.search_history.proofs.Watching.{saw_wider, spends_more, under}
use Rattle.search_history.proofs.alone.each_of.Goals as goal

pub returns-in-Dead-clause-saw : goal.returns-in-Dead-clause-saw
returns-in-Dead-clause-saw g c =
    let few : c.in_ok-found.field-0.found.states ≤ c.loop-number.left = omega (arith, c.in_ok-found.ensures.states) in
    let whole = c.args.task.whole.now in
    let log = c.args.task.field.log.now in
    subst (λ (n : ℕ). Spends g.W.Watch.sees (IsPartOf whole) c.args.bounds.choices n c.args.watch.now c.explored_on.new.watch) (sym c.so_far.ensures.choices)
    (spends_more g.W.Watch.sees (IsPartOf whole) c.args.bounds.choices c.loop-number.left c.in_ok-found.field-0.found.states _ _ _ few c.loop-number.invariant.1
    (saw_wider g.W.Watch.sees (IsOn log) (IsPartOf whole) (under whole log c.requires.of) c.in_ok-found.field-0.found.states _ _ c.in_ok-found.ensures.saw))

pub loop-number-preserved : goal.loop-number-preserved
loop-number-preserved g c =
    let few : c.in_ok-found.field-0.found.states ≤ c.loop-number.left = omega (arith, c.in_ok-found.ensures.states) in
    let whole = c.args.task.whole.now in
    let log = c.args.task.field.log.now in (
      omega (arith, c.loop-number.invariant.0),
      spends_more g.W.Watch.sees (IsPartOf whole) c.args.bounds.choices c.loop-number.left c.in_ok-found.field-0.found.states _ _ _ few c.loop-number.invariant.1
          (saw_wider g.W.Watch.sees (IsOn log) (IsPartOf whole) (under whole log c.requires.of) c.in_ok-found.field-0.found.states _ _ c.in_ok-found.ensures.saw),
    )
