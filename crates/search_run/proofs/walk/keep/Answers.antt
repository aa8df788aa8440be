use Rattle.std.proofs.Common.{◌≡◌, ap, sym, subst}
use Rattle.log_runs.specs.Runs.{State}
use Rattle.search_run.specs.StackView.{StackView}
use Rattle.search_run.specs.Frames.{PathFrom}
use Rattle.search_run.proofs.FrameLemmas.{kept}
use Rattle.search_run.proofs.walk.keep.Goals as goal

pub returns-clause-ready : goal.returns-clause-ready
returns-clause-ready c = λ log at more.
    let walk = c.args.walk.now in
    record {
      path = subst (λ (s : StackView). PathFrom log s.frames (λ (m : State) (P : Type 0). (m ≡ walk.here.state) × P)) (sym c.in_ok-close.ensures)
          (kept log walk.stack.frames walk.stack.done walk.here.state at.path more);
      none = ap (λ (s : StackView). s.done) c.in_ok-close.ensures;
      place = at.place;
      known = at.known;
    }
