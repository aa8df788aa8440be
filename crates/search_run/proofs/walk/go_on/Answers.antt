use Rattle.std.proofs.Common.{◌∙◌, refl, List, [], ◌∷◌, ◌++◌, ap, sym, subst}
use Rattle.log_runs.specs.Runs.{next}
use Rattle.search_places.specs.declared.steps.Done.{Done}
use Rattle.search_run.specs.StackView.{FrameView}
use Rattle.search_places.specs.Undo.{LeadsBy}
use Rattle.search_run.specs.Frames.{PathFrom, Here}
use Rattle.search_run.proofs.FrameLemmas.{taken, one_more}
use Rattle.search_run.proofs.walk.go_on.Goals as goal

pub returns-clause-at : goal.returns-clause-at
returns-clause-at c =
    let log = c.args.log.now in
    let walk = c.args.walk.now in
    let stack = c.push-2.new.self in
    let u = c.take.new.self.state in
    let d = c.in_ok-done.done in
    let path = taken log walk.stack.frames c.args.step walk.here.state u d c.requires.step.path c.in_ok-done.ensures.came c.in_ok-done.ensures.step in
    record {
      path = subst (λ (fs : List FrameView). PathFrom log fs (Here log stack.done u)) (sym c.in_ok-push-2.ensures.frames)
          (subst (λ (ds : List Done). PathFrom log walk.stack.frames (Here log ds u))
          (sym (c.in_ok-push-2.ensures.done ∙ ap (λ (ds : List Done). ds ++ d ∷ []) c.requires.step.none)) path);
      place = c.in_ok-done.ensures.place;
      known = c.requires.step.known;
    }

pub returns-clause-led : goal.returns-clause-led
returns-clause-led c =
    let log = c.args.log.now in
    let s = c.args.walk.now.here.state in
    let u = c.take.new.self.state in
    let d = c.in_ok-done.done in
    subst (λ (ds : List Done). LeadsBy log s ds u) (sym (c.in_ok-push-2.ensures.done ∙ ap (λ (ds : List Done). ds ++ d ∷ []) c.requires.step.none))
    (one_more log s s u [] d refl c.in_ok-done.ensures.came)

pub returns-clause-next : goal.returns-clause-next
returns-clause-next c = sym (c.in_ok-done.ensures.came.led ∙ ap (next c.args.log.now c.args.walk.now.here.state) c.in_ok-done.ensures.step)
