use Rattle.std.proofs.Common.{ℕ, Option, subst}
use Rattle.std.specs.Prelude.{IfSome}
use Rattle.log_runs.specs.Runs.{Dead}
use Rattle.search_run.proofs.FrameLemmas.{turned}
use Rattle.search_run.proofs.walk.advance.Goals as goal

pub rewind-requires : goal.rewind-requires
rewind-requires c =
    let log = c.args.log.now in
    let walk = c.args.walk.now in
    let dead : Dead log walk.here.state = subst (λ (o : Option ℕ). IfSome o (λ at. Dead log walk.here.state)) c.in-Some.is c.dead_at.ensures in
    record {
      path = turned log walk.stack.frames walk.stack.done walk.here.state c.requires.at.path dead;
      place = c.requires.at.place;
      known = c.requires.at.known;
    }
