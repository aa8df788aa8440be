use Rattle.std.proofs.Common.{◌∙◌, ap, sym}
use Rattle.tlp_core.specs.TlpView.{TlpView}
use Rattle.endpoint_core.proofs.Replies.{count_is, lower_is, no_request}
use Rattle.endpoint_core.proofs.completions.counts_of.Goals as goal

pub returns-in-Completion-clause-count : goal.returns-in-Completion-clause-count
returns-in-Completion-clause-count c =
    count_is c.args.request.now c.in_ok-refused.refused c.in-Completion.completer c.in-Completion.byte_count c.in-Completion.lower c.in-Completion.status (sym c.in_ok-refused.ensures.completion) (ap (λ (t : TlpView). t.body) (sym c.refused.view_is) ∙ c.in-Completion.is)

pub returns-in-Completion-clause-lower : goal.returns-in-Completion-clause-lower
returns-in-Completion-clause-lower c =
    lower_is c.args.request.now c.in_ok-refused.refused c.in-Completion.completer c.in-Completion.byte_count c.in-Completion.lower c.in-Completion.status (sym c.in_ok-refused.ensures.completion) (ap (λ (t : TlpView). t.body) (sym c.refused.view_is) ∙ c.in-Completion.is)

pub returns-in-Request-clause-none : goal.returns-in-Request-clause-none
returns-in-Request-clause-none c =
    absurd (no_request c.args.request.now c.in_ok-refused.refused c.in-Request.address c.in-Request.first c.in-Request.last (sym c.in_ok-refused.ensures.completion) (ap (λ (t : TlpView). t.body) (sym c.refused.view_is) ∙ c.in-Request.is))
