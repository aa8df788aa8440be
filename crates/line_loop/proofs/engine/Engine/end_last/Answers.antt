use Rattle.std.proofs.Common.{◌≡◌, ◌∙◌, ◌++◌, ◌==◌, Bool, List, ℕ, [], ap, sym, length, false, true, if◌then◌else◌}
use Rattle.std.proofs.lemmas.Bool.{eqb-true}
use Rattle.std.proofs.lemmas.List.{nil_from_length}
use Rattle.line_loop.specs.Run.{Answer}
use Rattle.line_loop.specs.Engine.{on_last_line}
use Rattle.line_loop.proofs.LineLemmas.{stands-end, stands-last}
use Rattle.line_loop.proofs.engine.Engine.end_last.Goals as goal

-- the test for an empty line
empty : (xs : List ℕ) (b : Bool) → b ≡ (length xs == 0) → b ≡ true → xs ≡ []
empty xs b e h = nil_from_length xs (eqb-true (length xs) 0 (sym e ∙ h))

some : (xs : List ℕ) (b : Bool) → b ≡ (length xs == 0) → b ≡ false → xs ≡ [] → ⊥
some xs b e h n =
    let yes : b ≡ true = e ∙ ap (λ (t : List ℕ). length t == 0) n in
    cc

pub returns-then-is_empty-clause-ok : goal.returns-then-is_empty-clause-ok
returns-then-is_empty-clause-ok g c = λ start written read s.
    stands-end g.P.Responder.responses start c.args.self.now.responder c.args.self.now.line.items c.args.self.now.pending.items c.args.self.now.status written read s
    (empty c.args.self.now.line.items c.is_empty.result c.is_empty.ensures c.if-is_empty.true)

pub returns-clause-ok : goal.returns-clause-ok
returns-clause-ok g c = λ start written read s.
    let a = c.in_ok-verdict.ensures.ok in
    let same = ap (on_last_line g.P.Responder.responses c.args.self.now.responder) c.as_slice.ensures.value in
    stands-last g.P.Responder.responses start c.args.self.now.responder c.note.new.self.responder c.args.self.now.line.items
    c.args.self.now.pending.items c.note.new.self.pending.items c.args.self.now.status c.note.new.self.status written read s
    (some c.args.self.now.line.items c.is_empty.result c.is_empty.ensures c.if-is_empty.false)
    (c.note.ensures.responder ∙ a.state ∙ ap (λ (x : Answer g.row.P.Denot). x.state) same)
    (c.note.ensures.pending ∙ a.text ∙ ap (λ (x : Answer g.row.P.Denot). c.args.self.now.pending.items ++ x.text) same)
    (c.note.ensures.status ∙ ap (λ (t : Bool). if t then 1 else c.args.self.now.status) (a.is_fault ∙ ap (λ (x : Answer g.row.P.Denot). x.is_fault) same))
