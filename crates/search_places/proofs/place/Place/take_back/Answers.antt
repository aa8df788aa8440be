use Rattle.std.proofs.Common.{◌∙◌}
use Rattle.search_places.proofs.UndoLemmas.{act_undone}
use Rattle.search_places.proofs.place.Place.take_back.Goals as goal

pub returns-in_ok-act_back-in-Act-clause-state : goal.returns-in_ok-act_back-in-Act-clause-state
returns-in_ok-act_back-in-Act-clause-state c = λ m came.
    act_undone c.args.log.now m c.args.self.now.state c.act_back.new.self.state c.args.done.now c.in-Act.b came c.in-Act.is
    c.in_ok-act_back-in-Act.ensures.event c.in_ok-act_back-in-Act.ensures.acted
    (λ k e old. c.in_ok-act_back-in-Act.ensures.bytes k e (c.as_slice.ensures.value ∙ old))
