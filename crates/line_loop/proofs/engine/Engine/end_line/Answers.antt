use Rattle.std.proofs.Common.{◌≡◌, ◌++◌, ◌∙◌, Bool, List, ℕ, ap, ap₂, if◌then◌else◌}
use Rattle.line_loop.specs.Run.{Answer}
use Rattle.line_loop.specs.Engine.{on_ended_line}
use Rattle.line_loop.proofs.LineLemmas.{ended-kept}
use Rattle.line_loop.proofs.engine.Engine.end_line.Given as given
use Rattle.line_loop.proofs.engine.Engine.end_line.Goals as goal

-- the answer to what is kept is that to all
same : (g : given.Over) (c : goal.After-clear g) → on_ended_line g.P.Responder.responses c.keep.new.self.responder c.as_slice.result.now
    ≡ on_ended_line g.P.Responder.responses c.args.self.now.responder (c.args.self.now.line.items ++ c.args.tail.now)
same g c =
    ap₂ (on_ended_line g.P.Responder.responses) c.keep.ensures.responder (c.as_slice.ensures.value ∙ c.keep.ensures.line)
    ∙ ended-kept g.P.Responder.responses c.args.self.now.responder (c.args.self.now.line.items ++ c.args.tail.now)

pub returns-clause-responder : goal.returns-clause-responder
returns-clause-responder g c =
    let a = c.in_ok-verdict-2.ensures.ok in
    c.note-2.ensures.responder ∙ a.state ∙ ap (λ (x : Answer g.row.P.Denot). x.state) (same g c)

pub returns-clause-text : goal.returns-clause-text
returns-clause-text g c =
    let a = c.in_ok-verdict-2.ensures.ok in
    c.note-2.ensures.pending ∙ a.text
    ∙ ap₂ (λ (p t : List ℕ). p ++ t) c.keep.ensures.pending (ap (λ (x : Answer g.row.P.Denot). x.text) (same g c))

pub returns-clause-status : goal.returns-clause-status
returns-clause-status g c =
    let a = c.in_ok-verdict-2.ensures.ok in
    c.note-2.ensures.status
    ∙ ap₂ (λ (t : Bool) (s : ℕ). if t then 1 else s) (a.is_fault ∙ ap (λ (x : Answer g.row.P.Denot). x.is_fault) (same g c)) c.keep.ensures.status
