use Rattle.std.proofs.Common.{◌∙◌, ◌-◌, vec_len, refl, sym, arith}
use Rattle.std.proofs.lemmas.Bool.{eqb-false}
use Rattle.search_run.proofs.StackLemmas.{lowers}
use Rattle.search_run.proofs.stack.lower.Goals as goal

pub returns-clause-some : goal.returns-clause-some
returns-clause-some c =
    let ms = c.args.frames.now in
    let m = c.index-mark.result.now in
    λ so. lowers ms.items (c.len-last.result - 1) m (record { done = m.done; noted = m.noted - 1 })
    (let some = eqb-false (vec_len ms) 0 (sym c.is_empty.ensures ∙ c.if-is_empty.false) in omega (arith, c.len-last.ensures, ms.ok.0, some)) c.index-mark.ensures refl (omega (arith, c.if-mark-eq0.false))
