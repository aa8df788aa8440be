use Rattle.std.proofs.Common.{◌≡◌, ◌∙◌, ◌++◌, ◌+◌, ◌-◌, List, ℕ, [], ◌∷◌, ap, sym, subst, take, drop, length, append_assoc, arith}
use Rattle.std.proofs.lemmas.Grind.{common_steps}
use Rattle.line_loop.specs.Run.{IsBeginning, run_of}
use Rattle.line_loop.specs.Engine.{Stands}
use Rattle.hex_text.specs.LineFacts.{none-before, none-at-all, cut-at}
use Rattle.line_loop.proofs.LineLemmas.{on_err, stands-begins, stands-feed, stands-keep}
use Rattle.line_loop.proofs.engine.Engine.feed.Goals as goal

-- all that is left behind a place
left : (xs : List ℕ) (n : ℕ) → take (length xs - n) (drop n xs) ≡ drop n xs
left xs n = grind (arith, common_steps)

pub returns-in_err-end_line-clause-err : goal.returns-in_err-end_line-clause-err
returns-in_err-end_line-clause-err g c = on_err c.from_residual.result (λ start written read s. λ more.
    let r = g.P.Responder.responses in
    let h = c.loop-end.invariant in
    let rest = c.loop-end.rest.now in
    let pending = c.loop-end.self.pending.items in
    let b = stands-begins r start c.loop-end.self.responder c.loop-end.self.line.items pending c.loop-end.self.status written (read ++ h.0) (h.2 start written read s) (rest ++ more) in
    let all : (read ++ h.0) ++ (rest ++ more) ≡ (read ++ c.args.bytes.now) ++ more =
    sym (append_assoc (read ++ h.0) rest more) ∙ ap (λ (t : List ℕ). t ++ more) (append_assoc read h.0 rest ∙ ap (λ (t : List ℕ). read ++ t) (sym h.1)) in
    let now : IsBeginning (written ++ pending) (run_of r start ((read ++ c.args.bytes.now) ++ more)).text =
    subst (λ (t : List ℕ). IsBeginning (written ++ pending) (run_of r start t).text) all b in
    subst (λ (t : List ℕ). IsBeginning (written ++ t) (run_of r start ((read ++ c.args.bytes.now) ++ more)).text) (sym c.in_err-end_line.ensures.err) now)

pub loop-end-preserved : goal.loop-end-preserved
loop-end-preserved g c =
    let r = g.P.Responder.responses in
    let h = c.loop-end.invariant in
    let found = c.in-Some.ensures in
    let e = c.in_ok-end_line.ensures in
    let rest = c.loop-end.rest.now in
    let k = c.in-Some.end in
    let new = c.end_line.new.self in
    let line = take k rest ++ 10 ∷ [] in (
      h.0 ++ line,
      h.1 ∙ ap (λ (t : List ℕ). h.0 ++ t) (cut-at rest k found.0.high found.1) ∙ sym (append_assoc h.0 line (drop (k + 1) rest))
          ∙ ap (λ (t : List ℕ). (h.0 ++ line) ++ t) (sym (left rest (k + 1))),
      λ start written read s.
          let one = none-before rest k (omega (arith, found.0.high)) found.0.before in
          let fed = stands-feed r start c.loop-end.self.responder new.responder c.loop-end.self.line.items c.loop-end.self.pending.items new.pending.items
          (take k rest) c.loop-end.self.status new.status written (read ++ h.0) (h.2 start written read s) one e.responder e.text e.status in
          let all = subst (λ (t : List ℕ). Stands r start new.responder [] new.pending.items new.status written t) (append_assoc read h.0 line) fed in
          subst (λ (l : List ℕ). Stands r start new.responder l new.pending.items new.status written (read ++ (h.0 ++ line))) (sym e.line) all,
    )

pub returns-clause-ok : goal.returns-clause-ok
returns-clause-ok g c = λ start written read s.
    let r = g.P.Responder.responses in
    let h = c.loop-end.invariant in
    let k = c.keep.ensures in
    let rest = c.loop-end.rest.now in
    let new = c.keep.new.self in
    let kept = stands-keep r start c.loop-end.self.responder c.loop-end.self.line.items new.line.items c.loop-end.self.pending.items c.loop-end.self.status
    written (read ++ h.0) rest (h.2 start written read s) (none-at-all rest c.in_default.ensures) k.line in
    let all : (read ++ h.0) ++ rest ≡ read ++ c.args.bytes.now = append_assoc read h.0 rest ∙ ap (λ (t : List ℕ). read ++ t) (sym h.1) in
    rw (k.responder, k.pending, k.status, ← all) kept
