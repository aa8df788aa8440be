use Rattle.std.proofs.Common.{List, subst}
use Rattle.log_runs.specs.Runs.{State}
use Rattle.search_places.specs.declared.steps.Done.{Done}
use Rattle.search_places.specs.Undo.{LeadsBy}
use Rattle.search_forced.proofs.GroupLemmas.{one_less}
use Rattle.search_forced.proofs.GroupLemmas.{undone}
use Rattle.search_forced.proofs.groups.take_back.Goals as goal

pub take_back-requires-clause-came : goal.take_back-requires-clause-came
take_back-requires-clause-came c =
    let log = c.args.log.now in
    let t = c.loop-done.place.state in
    let (s, leads) = c.loop-done.invariant.first in
    let (m, before, came) = one_less log s t c.pop.new.self.items c.in-Some.done (subst (λ (ds : List Done). LeadsBy log s ds t) c.in-Some.ensures.items leads) in
    (m, came)

pub loop-done-preserved : goal.loop-done-preserved
loop-done-preserved c =
    let log = c.args.log.now in
    let t = c.loop-done.place.state in
    let back : (s : State) → LeadsBy log s c.loop-done.steps.items t → LeadsBy log s c.pop.new.self.items c.take_back.new.self.state = λ s leads.
    undone log c.pop.new.self.items c.in-Some.done t c.take_back.new.self.state c.in_ok-take_back.ensures.state s (subst (λ (ds : List Done). LeadsBy log s ds t) c.in-Some.ensures.items leads) in
    record {
      place = c.in_ok-take_back.ensures.place;
      first = (c.loop-done.invariant.first.0, back c.loop-done.invariant.first.0 c.loop-done.invariant.first.1);
      each = λ s leads. back s (c.loop-done.invariant.each s leads);
    }
