use Rattle.search_run.proofs.FrameLemmas.{begun}
use Rattle.search_run.proofs.walk.begin.Goals as goal

pub returns-clause-at : goal.returns-clause-at
returns-clause-at c = record {
  path = begun c.args.log.now c.new.result.frames c.new.result.done c.in_ok-first.field-0.state c.new.ensures.frames c.new.ensures.done c.in_ok-first.ensures.state;
  place = c.in_ok-first.ensures.place;
  known = c.new-2.ensures c.args.log.now;
}
