use Rattle.std.proofs.Common.{◌∙◌, ◌++◌, ◌+◌, List, ℕ, [], ◌∷◌, ap, sym, subst, take, drop, append_assoc, arith}
use Rattle.hex_text.specs.LineFacts.{none-before, none-at-all, cut-at}
use Rattle.search_engine.specs.Kept.{KeepsUpTo}
use Rattle.search_engine.proofs.KeepingLemmas.{keeps-feed, keeps-more, left}
use Rattle.search_engine.proofs.keeping.KeptText.take_lines.Goals as goal

pub loop-end-preserved : goal.loop-end-preserved
loop-end-preserved c =
    let h = c.loop-end.invariant in
    let found = c.in-Some.ensures in
    let e = c.in_ok-end_line.ensures in
    let rest = c.loop-end.rest.now in
    let k = c.in-Some.end in
    let new = c.end_line.new.self in
    let line = take k rest ++ 10 ∷ [] in (
      h.0 ++ line,
      h.1 ∙ ap (λ (t : List ℕ). h.0 ++ t) (cut-at rest k found.0.high found.1) ∙ sym (append_assoc h.0 line (drop (k + 1) rest))
          ∙ ap (λ (t : List ℕ). (h.0 ++ line) ++ t) (sym (left rest (k + 1))),
      λ read s.
          let one = none-before rest k (omega (arith, found.0.high)) found.0.before in
          let fed = keeps-feed (read ++ h.0) c.loop-end.self.text.items new.text.items c.loop-end.self.line.items (take k rest) (h.2 read s) one e.text in
          let all = subst (λ (t : List ℕ). KeepsUpTo t new.text.items []) (append_assoc read h.0 line) fed in
          subst (λ (l : List ℕ). KeepsUpTo (read ++ (h.0 ++ line)) new.text.items l) (sym e.line) all,
    )

pub returns : goal.returns
returns c = λ read s.
    let h = c.loop-end.invariant in
    let rest = c.loop-end.rest.now in
    let new = c.keep.new.self in
    let kept = keeps-more (read ++ h.0) c.loop-end.self.text.items c.loop-end.self.line.items new.line.items rest (h.2 read s)
    (none-at-all rest c.in_default.ensures) c.keep.ensures.line in
    let all = subst (λ (t : List ℕ). KeepsUpTo t c.loop-end.self.text.items new.line.items) (append_assoc read h.0 rest ∙ ap (λ (t : List ℕ). read ++ t) (sym h.1)) kept in
    subst (λ (t : List ℕ). KeepsUpTo (read ++ c.args.bytes.now) t new.line.items) (sym c.keep.ensures.text) all
