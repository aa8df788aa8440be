use Rattle.std.proofs.Common.{◌≡◌, ◌∙◌, ◌++◌, List, ℕ, [], take, refl, ap, subst, Option}
use Rattle.std.proofs.lemmas.List.{append-nil}
use Rattle.std.specs.Io.KnownBytes.{Consumes}
use Rattle.search_engine.proofs.KnownLemmas.{consumes-then, on_err}
use Rattle.search_engine.proofs.input.read_rest.Goals as goal

-- nothing more came
no_more : (u v w : Option (List ℕ)) (read came : List ℕ) (n : ℕ) → n ≡ 0 → Consumes u v read → Consumes v w (take n came) → Consumes u w read
no_more u v w read came n zero x y =
    let none : take n came ≡ [] = rw zero refl in
    subst (λ (t : List ℕ). Consumes u w t) (ap (λ (t : List ℕ). read ++ t) none ∙ append-nil read) (consumes-then u v w read (take n came) x y)

pub returns-in_err-end-clause-err : goal.returns-in_err-end-clause-err
returns-in_err-end-clause-err g c = on_err c.from_residual.result (_, consumes-then _ _ _ _ _ c.loop.invariant.1 c.in-Ok.ensures.bytes.0)

pub returns-then-count-eq0-clause-ok : goal.returns-then-count-eq0-clause-ok
returns-then-count-eq0-clause-ok g c =
    let h = c.loop.invariant in (
      h.0,
      no_more _ _ _ h.0 c.read.new.buf c.in-Ok.count c.if-count-eq0.true h.1 c.in-Ok.ensures.bytes.0,
      c.in_ok-end.ensures h.0 h.2,
    )

pub returns-in_err-take-clause-err : goal.returns-in_err-take-clause-err
returns-in_err-take-clause-err g c = on_err c.from_residual-in_err-take.result (_, consumes-then _ _ _ _ _ c.loop.invariant.1 c.in-Ok.ensures.bytes.0)

pub loop-preserved : goal.loop-preserved
loop-preserved g c =
    let h = c.loop.invariant in
    let came = take c.in-Ok.count c.read.new.buf in
    (h.0 ++ came, consumes-then _ _ _ h.0 came h.1 c.in-Ok.ensures.bytes.0, c.in_ok-take.ensures h.0 h.2, c.read.auto.buf ∙ h.3)
