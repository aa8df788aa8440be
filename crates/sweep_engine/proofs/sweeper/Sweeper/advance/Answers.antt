use Rattle.std.proofs.Common.{◌≡◌, ◌∙◌, [], List, length, refl, sym, ap, subst, arith, Option, Result, Ok, Err, OnOk}
use Rattle.std.proofs.lemmas.List.{append-nil}
use Rattle.line_loop.specs.Run.{IsBeginning}
use Rattle.sweep_engine.specs.declared.piping.Said.{Said}
use Rattle.sweep_engine.specs.Pipe.{AreFound}
use Rattle.sweep_engine.specs.Sweep.{Swept, prefixed}
use Rattle.sweep_engine.proofs.Sweeps.{Appends-none, on_err, with_text, stands_more, begins_more}
use Rattle.sweep_engine.proofs.sweeper.Sweeper.advance.Goals as goal

either_ok : {T E P Q : Type 0} (r : Result T E) → OnOk r P → (P → Q) → OnOk r Q
either_ok (Ok x) p f = f p
either_ok (Err e) p f = tt

-- all lines of a sweep are written
all_written : (w v v' : Swept) → w ≡ v → v' ≡ record v { text = [] } → w ≡ prefixed v.text v'
all_written w v v' e f = e ∙ ap (with_text v.ok v.status v.has_ended) (sym (append-nil v.text)) ∙ sym (ap (prefixed v.text) f)

pub returns-in_err-found-clause-err : goal.returns-in_err-found-clause-err
returns-in_err-found-clause-err g c = on_err c.from_residual.result (
  [],
  Appends-none _,
  λ n written place s. begins_more c.args.batch.sweep.now n c.args.batch.first c.args.batch.count written [] c.args.self.now [] s c.requires.going place tt (omega arith) (c.args.self.now.text, refl),
)

pub returns-in_err-flush-clause-err : goal.returns-in_err-flush-clause-err
returns-in_err-flush-clause-err g c =
    let t = c.tell_all-told.ensures.told in
    let e = c.as_slice.ensures.value in
    let k = c.in_err-flush.ensures.part in
    on_err c.from_residual-in_err-flush.result (
      k.0,
      k.2,
      λ n written place s.
          begins_more c.args.batch.sweep.now n c.args.batch.first c.args.batch.count written k.0 c.args.self.now t.0 s c.requires.going place
          (t.4 c.args.batch.first (subst (λ (fs : List (Option Said)). AreFound c.args.batch.sweep.now c.args.batch.first fs) (sym e) c.in_ok-found.ensures.found)) (omega (arith, t.2, ap (λ (fs : List (Option Said)). length fs) e, c.in_ok-found.ensures.count))
          (subst (λ (w : Swept). IsBeginning k.0 w.text) t.3 k.1),
    )

pub returns-clause-ok : goal.returns-clause-ok
returns-clause-ok g c =
    let t = c.tell_all-told.ensures.told in
    let e = c.as_slice.ensures.value in
    let text = c.tell_all-told.new.self.text in
    either_ok c.tell_all-told.result t.1 (λ number. (
      text,
      c.in_ok-flush.ensures.text,
      λ n written place s.
          stands_more c.args.batch.sweep.now n c.args.batch.first c.args.batch.count written text c.args.self.now c.flush.new.self t.0 s c.requires.going place
          (t.4 c.args.batch.first (subst (λ (fs : List (Option Said)). AreFound c.args.batch.sweep.now c.args.batch.first fs) (sym e) c.in_ok-found.ensures.found)) (omega (arith, number, ap (λ (fs : List (Option Said)). length fs) e, c.in_ok-found.ensures.count))
          (all_written _ c.tell_all-told.new.self c.flush.new.self (sym t.3) c.in_ok-flush.ensures.left),
    ))

pub returns-clause-err : goal.returns-clause-err
returns-clause-err g c =
    let t = c.tell_all-told.ensures.told in
    let e = c.as_slice.ensures.value in
    let text = c.tell_all-told.new.self.text in
    on_err c.tell_all-told.result (
      text,
      c.in_ok-flush.ensures.text,
      λ n written place s.
          begins_more c.args.batch.sweep.now n c.args.batch.first c.args.batch.count written text c.args.self.now t.0 s c.requires.going place
          (t.4 c.args.batch.first (subst (λ (fs : List (Option Said)). AreFound c.args.batch.sweep.now c.args.batch.first fs) (sym e) c.in_ok-found.ensures.found)) (omega (arith, t.2, ap (λ (fs : List (Option Said)). length fs) e, c.in_ok-found.ensures.count))
          ([], ap (λ (w : Swept). w.text) (sym t.3) ∙ sym (append-nil text)),
    )
