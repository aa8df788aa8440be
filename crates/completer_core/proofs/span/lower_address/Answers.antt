use Rattle.std.proofs.Common.{◌+◌, ◌%◌, sym, ap, ◌∙◌}
use Rattle.completer_core.proofs.Spans.{address_none, address_some}
use Rattle.completer_core.proofs.span.lower_address.Goals as goal

pub returns-then-first-eq0-clause-value : goal.returns-then-first-eq0-clause-value
returns-then-first-eq0-clause-value c = sym (address_none c.args.dw c.args.address c.args.first c.args.last c.requires.enabled c.if-first-eq0.true)

pub returns-else-first-eq0-clause-value : goal.returns-else-first-eq0-clause-value
returns-else-first-eq0-clause-value c = ap (λ n. c.args.address % 128 + n) c.before_first.ensures.value ∙ address_some c.args.dw c.args.address c.args.first c.args.last c.requires.some c.requires.first c.if-first-eq0.false c.requires.aligned
