use Rattle.std.proofs.Common.{◌≡◌, ◌-◌, ◌*◌, ℕ, refl, sym, subst, ◌∙◌}
use Rattle.std.specs.Prelude.{reverse}
use Rattle.tlp_core.specs.Enables.{dw_enables, enables}
use Rattle.completer_core.specs.Span.{lead, span}
use Rattle.completer_core.proofs.Spans.{span_none, span_one, span_more}
use Rattle.completer_core.proofs.span.byte_count.Goals as goal
use Rattle.completer_core.proofs.span.byte_count.Goals.{then-dw-eq1, else-dw-eq1}

pub returns-then-first-eq0-clause-value : goal.returns-then-first-eq0-clause-value
returns-then-first-eq0-clause-value c = sym (span_none c.args.dw c.args.address c.args.first c.args.last c.requires.enabled c.if-first-eq0.true)

-- the two leads, at the end that the branch chose
at_end : (n m k m' k' : ℕ) → m ≡ m' → k ≡ k' → n - m - k ≡ n - m' - k'
at_end n m k m' k' e1 e2 = rw (e1, e2) refl

pub returns-clause-value : goal.returns-clause-value
returns-clause-value c =
    at_end (4 * c.args.dw) c.from.result c.from-2.result (lead (dw_enables c.args.first)) (lead (reverse (dw_enables c.if-dw-eq1.end))) (c.from.ensures ∙ c.before_first.ensures.value) (c.from-2.ensures ∙ c.behind_last.ensures.value)
    ∙ elim c.if-dw-eq1.branch [
      | then-dw-eq1 w ↦ subst (λ end. 4 * c.args.dw - lead (dw_enables c.args.first) - lead (reverse (dw_enables end)) ≡ span (enables c.args.dw c.args.first c.args.last)) (sym w.end-is) (span_one c.args.dw c.args.first c.args.last c.requires.first c.if-first-eq0.false w.if-dw-eq1.true)
      | else-dw-eq1 w ↦ subst (λ end. 4 * c.args.dw - lead (dw_enables c.args.first) - lead (reverse (dw_enables end)) ≡ span (enables c.args.dw c.args.first c.args.last)) (sym w.end-is) (span_more c.args.dw c.args.address c.args.first c.args.last c.requires.first c.requires.last c.if-first-eq0.false c.requires.some w.if-dw-eq1.false c.requires.enabled)
    ]
