use Rattle.operation_text.specs.Words.{words_behind}
use Rattle.record_text.specs.Forms as fields
use Rattle.trace_text.proofs.FrontLemmas.{behind_two}
use Rattle.trace_text.proofs.line.ent.Goals as goal

pub returns-clause-behind : goal.returns-clause-behind
returns-clause-behind c =
    behind_two fields.requester fields.number (words_behind c.args.rest) (words_behind c.in_ok-requester.rest) (words_behind c.in_ok-number.rest) _ _
    c.in_ok-requester.ensures c.in_ok-number.ensures
