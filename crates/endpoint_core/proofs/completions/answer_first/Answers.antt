use Rattle.std.proofs.Common.{◌∙◌}
use Rattle.endpoint_core.proofs.Replies.{front_bytes}
use Rattle.endpoint_core.proofs.completions.answer_first.Goals as goal

pub returns-then-dw-ne0-clause-bytes : goal.returns-then-dw-ne0-clause-bytes
returns-then-dw-ne0-clause-bytes c = λ op is e.
    c.answer_front.ensures.bytes ∙ front_bytes c.args.place.base c.args.dw c.args.bytes.now c.args.request.now op c.requires c.if-dw-ne0.true is e
