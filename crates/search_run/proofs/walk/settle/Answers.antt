use Rattle.std.proofs.Common.{arith, List, [], ◌∷◌, ◌++◌, Option, sym, subst}
use Rattle.std.specs.Prelude.{IfSome}
use Rattle.log_runs.specs.declared.Step.{Step}
use Rattle.log_runs.specs.Runs.{State, IsForced}
use Rattle.search_places.specs.declared.steps.Done.{Done}
use Rattle.search_run.specs.StackView.{FrameView}
use Rattle.search_run.specs.Frames.{PathFrom, Here}
use Rattle.search_run.proofs.FrameLemmas.{moved}
use Rattle.search_run.proofs.walk.settle.Goals as goal

pub loop-step-preserved : goal.loop-step-preserved
loop-step-preserved c =
    let log = c.args.log.now in
    let walk = c.loop-step.walk in
    let stack = c.push-in-loop-step.new.self in
    let s = c.at_once.new.place.state in
    let u = c.take.new.self.state in
    let d = c.in_ok-done.done in
    let path_here = subst (λ (t : State). PathFrom log walk.stack.frames (Here log walk.stack.done t)) (sym c.in_ok-step.ensures.state) c.loop-step.invariant.0.path in
    let there : IsForced log s c.in-Some.step = subst (λ (o : Option Step). IfSome o (IsForced log s)) c.in-Some.is c.in_ok-step.ensures.forced in
    let forced = subst (IsForced log s) (sym c.in_ok-done.ensures.step) there in
    let path = moved log walk.stack.frames walk.stack.done s u d path_here forced c.in_ok-done.ensures.came in (
      record {
        path = subst (λ (ds : List Done). PathFrom log stack.frames (Here log ds u)) (sym c.in_ok-push-2.ensures.done)
            (subst (λ (fs : List FrameView). PathFrom log fs (Here log (walk.stack.done ++ d ∷ []) u)) (sym c.in_ok-push-2.ensures.frames) path);
        place = c.in_ok-done.ensures.place;
        known = c.loop-step.invariant.0.known;
      },
      omega (arith, c.loop-step.invariant.1, c.saturating_sub-walk.ensures),
    )
