use Rattle.search_run.proofs.FrameLemmas.{none_lost, spared}
use Rattle.search_run.proofs.walk.spare.Goals as goal

pub returns-then-not-is_full-clause-lost : goal.returns-then-not-is_full-clause-lost
returns-then-not-is_full-clause-lost c = λ log stands. none_lost log c.args.walk.now stands

pub returns-clause-lost : goal.returns-clause-lost
returns-clause-lost c = λ log stands. spared log c.args.walk.now c.forget.new.self c.forget.result stands c.forget.ensures.some c.forget.ensures.none
