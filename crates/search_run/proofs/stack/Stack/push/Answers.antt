use Rattle.std.proofs.Common.{◌∙◌, ap}
use Rattle.search_run.specs.StackView.{StackView}
use Rattle.search_run.proofs.StackLemmas.{put}
use Rattle.search_run.proofs.stack.Stack.push.Goals as goal

pub returns-clause-frames : goal.returns-clause-frames
returns-clause-frames c =
    let s = c.self.inside in
    (put s.frames.items s.closed s.trail c.push.new.self s.notes.items c.args.done.now c.self.invariant c.in_ok-push.ensures.more).1
    ∙ ap (λ (v : StackView). v.frames) c.self.view_is
