use Rattle.operation_text.specs.Words.{words_behind}
use Rattle.record_text.specs.Forms as fields
use Rattle.trace_text.proofs.FrontLemmas.{behind_three}
use Rattle.trace_text.proofs.line.sub.Goals as goal

pub returns-clause-behind : goal.returns-clause-behind
returns-clause-behind c =
    behind_three fields.requester fields.number fields.count (words_behind c.args.rest) (words_behind c.in_ok-requester.rest)
    (words_behind c.in_ok-number.rest) (words_behind c.in_ok-n.rest) _ _ _ c.in_ok-requester.ensures c.in_ok-number.ensures c.in_ok-n.ensures
