use Rattle.std.proofs.Common.{◌≡◌, ◌+◌, ◌++◌, ◌∙◌, ◌∷◌, refl, ℕ, List, sym, ap, subst, length, take, drop, arith, Result, Ok, Err}
use Rattle.std.proofs.lemmas.Bool.Decides.{nat_tests}
use Rattle.std.proofs.lemmas.Result.{err_from_is_err_and}
use Rattle.hex_text.specs.Lines.{lines_of, said}
use Rattle.c_buffer.specs.declared.outcome.Failure.{Failure}
use Rattle.c_buffer.specs.declared.outcome.Failure.TheVariants.{NoMemory}
use Rattle.c_fabric.specs.Calls.{EventCall}
use Rattle.c_fabric.specs.Scripts.{line_call, IsLineCall}
use Rattle.c_fabric.proofs.ScriptLemmas.{line-next, other-err, as-err, no-err, stands-then, stops, stops-left, cuts, ends, ends-left}
use Rattle.c_fabric.proofs.scripts.happen_lines.Goals as goal

pub returns-in_err-size-clause-outcome : goal.returns-in_err-size-clause-outcome
returns-in_err-size-clause-outcome c =
    let f = c.in_err-size.field-0.0 in
    let p = err_from_is_err_and c.from_residual.result c.from_residual.ensures.1 in
    rw (p.1, p.2) (λ other. sym (stops c.args.session.now c.args.buffer.now c.args.text.now c.loop-rest.session c.loop-rest.buffer c.loop-rest.done c.loop-rest.size c.loop-rest.rest.now c.split_at.result.0.now c.split_at.result.1.now c.loop-rest.invariant (line-next c.loop-rest.rest.now c.split_at.result.0.now c.split_at.result.1.now c.first_line.result c.first_line.ensures.line c.split_at.ensures.front c.split_at.ensures.back) f
    (sym (ap (λ (e : EventCall). e.outcome) (ap (λ (line : List ℕ). line_call c.loop-rest.session line (drop c.loop-rest.size c.loop-rest.buffer)) c.said.ensures)) ∙ sym (c.in_err-size.ensures.outcome (other-err f other)))))

pub returns-in_err-size-clause-left : goal.returns-in_err-size-clause-left
returns-in_err-size-clause-left c =
    let f = c.in_err-size.field-0.0 in
    let p = err_from_is_err_and c.from_residual.result c.from_residual.ensures.1 in
    rw (p.1, p.2) (λ other.
    stops-left c.args.session.now c.args.buffer.now c.args.text.now c.loop-rest.session c.loop-rest.buffer c.loop-rest.done c.loop-rest.size c.loop-rest.rest.now c.split_at.result.0.now c.split_at.result.1.now c.loop-rest.invariant (line-next c.loop-rest.rest.now c.split_at.result.0.now c.split_at.result.1.now c.first_line.result c.first_line.ensures.line c.split_at.ensures.front c.split_at.ensures.back)
    c.happen_behind.new.session c.happen_behind.new.buffer f
    (sym (ap (λ (e : EventCall). e.outcome) (ap (λ (line : List ℕ). line_call c.loop-rest.session line (drop c.loop-rest.size c.loop-rest.buffer)) c.said.ensures)) ∙ sym (c.in_err-size.ensures.outcome (other-err f other)))
    (c.in_err-size.ensures.session (other-err f other) ∙ ap (λ (e : EventCall). e.session) (ap (λ (line : List ℕ). line_call c.loop-rest.session line (drop c.loop-rest.size c.loop-rest.buffer)) c.said.ensures))
    (c.in_err-size.ensures.buffer (other-err f other) ∙ ap (λ (e : EventCall). take c.loop-rest.size c.loop-rest.buffer ++ e.buffer) (ap (λ (line : List ℕ). line_call c.loop-rest.session line (drop c.loop-rest.size c.loop-rest.buffer)) c.said.ensures)))

pub returns-in_err-size-clause-no_memory : goal.returns-in_err-size-clause-no_memory
returns-in_err-size-clause-no_memory c =
    let f = c.in_err-size.field-0.0 in
    let p = err_from_is_err_and c.from_residual.result c.from_residual.ensures.1 in
    rw (p.1, p.2) (λ e.
    cuts c.args.session.now c.args.buffer.now c.args.text.now c.loop-rest.session c.loop-rest.buffer c.loop-rest.done c.loop-rest.size c.loop-rest.rest.now c.split_at.result.0.now c.split_at.result.1.now c.loop-rest.invariant (line-next c.loop-rest.rest.now c.split_at.result.0.now c.split_at.result.1.now c.first_line.result c.first_line.ensures.line c.split_at.ensures.front c.split_at.ensures.back)
    c.happen_behind.new.session c.happen_behind.new.buffer (c.in_err-size.ensures.unchanged (as-err f e)).0 (c.in_err-size.ensures.unchanged (as-err f e)).1
    (subst (λ (line : List ℕ). IsLineCall c.loop-rest.session line (drop c.loop-rest.size c.loop-rest.buffer)) c.said.ensures (c.in_err-size.ensures.no_memory (as-err f e))))

pub loop-rest-preserved : goal.loop-rest-preserved
loop-rest-preserved c =
    stands-then c.args.session.now c.args.buffer.now c.args.text.now c.loop-rest.session c.loop-rest.buffer c.loop-rest.done c.loop-rest.size c.loop-rest.rest.now c.split_at.result.0.now c.split_at.result.1.now c.loop-rest.invariant (line-next c.loop-rest.rest.now c.split_at.result.0.now c.split_at.result.1.now c.first_line.result c.first_line.ensures.line c.split_at.ensures.front c.split_at.ensures.back)
    c.happen_behind.new.session c.happen_behind.new.buffer _ _ c.in_ok-size.field-0
    (sym (ap (λ (e : EventCall). e.outcome) (ap (λ (line : List ℕ). line_call c.loop-rest.session line (drop c.loop-rest.size c.loop-rest.buffer)) c.said.ensures)) ∙ sym (c.in_ok-size.ensures.outcome (no-err c.in_ok-size.field-0)))
    (c.in_ok-size.ensures.session (no-err c.in_ok-size.field-0) ∙ ap (λ (e : EventCall). e.session) (ap (λ (line : List ℕ). line_call c.loop-rest.session line (drop c.loop-rest.size c.loop-rest.buffer)) c.said.ensures))
    (c.in_ok-size.ensures.buffer (no-err c.in_ok-size.field-0) ∙ ap (λ (e : EventCall). take c.loop-rest.size c.loop-rest.buffer ++ e.buffer) (ap (λ (line : List ℕ). line_call c.loop-rest.session line (drop c.loop-rest.size c.loop-rest.buffer)) c.said.ensures))
    refl refl (omega (arith, c.in_ok-size.ensures.range, c.happen_behind.auto.buffer)) (omega (arith, c.split_at.ensures.front_len, c.split_at.ensures.back_len, c.first_line.ensures.range.1))

pub returns-clause-outcome : goal.returns-clause-outcome
returns-clause-outcome c = λ other. sym (ends c.args.session.now c.args.buffer.now c.args.text.now c.loop-rest.session c.loop-rest.buffer c.loop-rest.done c.loop-rest.size c.loop-rest.rest.now c.loop-rest.invariant (grind (arith, nat_tests)))

pub returns-clause-left : goal.returns-clause-left
returns-clause-left c = λ other. ends-left c.args.session.now c.args.buffer.now c.args.text.now c.loop-rest.session c.loop-rest.buffer c.loop-rest.done c.loop-rest.size c.loop-rest.rest.now c.loop-rest.invariant (grind (arith, nat_tests))
