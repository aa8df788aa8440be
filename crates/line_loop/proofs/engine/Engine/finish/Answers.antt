use Rattle.std.proofs.Common.{◌∙◌, ◌++◌, Bool, List, ℕ, [], ap, sym, subst, if◌then◌else◌}
use Rattle.std.proofs.lemmas.List.{append-nil}
use Rattle.line_loop.specs.Run.{Run, IsBeginning, run_of}
use Rattle.line_loop.proofs.LineLemmas.{on_err, stands-begins, answered-begins, ended}
use Rattle.line_loop.proofs.engine.Engine.finish.Goals as goal

pub returns-clause-ok : goal.returns-clause-ok
returns-clause-ok g c = λ start written read s.
    let r = g.P.Responder.responses in
    let a = c.in_ok-verdict.ensures.ok in
    let whole = ended r start c.end_last.new.self.responder c.note.new.self.responder c.end_last.new.self.pending.items c.note.new.self.pending.items
    c.end_last.new.self.status c.note.new.self.status written read (c.in_ok-end_last.ensures.ok start written read s)
    (c.note.ensures.responder ∙ a.state) (c.note.ensures.pending ∙ a.text)
    (c.note.ensures.status ∙ ap (λ (t : Bool). if t then 1 else c.end_last.new.self.status) a.is_fault) in
    (sym (ap (λ (run : Run g.row.P.Denot). run.status) whole), sym (ap (λ (run : Run g.row.P.Denot). run.text) whole))

pub returns-in_err-end_last-clause-err : goal.returns-in_err-end_last-clause-err
returns-in_err-end_last-clause-err g c = on_err c.from_residual.result (λ start written read s.
    let r = g.P.Responder.responses in
    let b = stands-begins r start c.args.self.now.responder c.args.self.now.line.items c.args.self.now.pending.items c.args.self.now.status written read s [] in
    let now : IsBeginning (written ++ c.args.self.now.pending.items) (run_of r start read).text =
    subst (λ (t : List ℕ). IsBeginning (written ++ c.args.self.now.pending.items) (run_of r start t).text) (append-nil read) b in
    subst (λ (t : List ℕ). IsBeginning (written ++ t) (run_of r start read).text) (sym c.in_err-end_last.ensures.err) now)

pub returns-in_err-verdict-clause-err : goal.returns-in_err-verdict-clause-err
returns-in_err-verdict-clause-err g c = on_err c.from_residual-in_err-verdict.result (λ start written read s.
    let r = g.P.Responder.responses in
    let b = answered-begins r start c.end_last.new.self.responder c.end_last.new.self.pending.items c.end_last.new.self.status written read (c.in_ok-end_last.ensures.ok start written read s) in
    subst (λ (t : List ℕ). IsBeginning (written ++ t) (run_of r start read).text) (sym c.in_err-verdict.ensures.err) b)
