use Rattle.std.proofs.Common.{◌∙◌, sym}
use Rattle.seq_memory.specs.Step.{answer}
use Rattle.op_pieces.specs.Pieces.{front}
use Rattle.endpoint_core.proofs.Replies.{none_from}
use Rattle.endpoint_core.proofs.completions.answer_front.Goals as goal

pub returns-in_err-counts-clause-completion : goal.returns-in_err-counts-clause-completion
returns-in_err-counts-clause-completion c = λ op e.
    let r = answer c.args.place.base 128 c.args.bytes.now (front c.args.dw op) in
    c.from_residual-in_err-counts.ensures
    ∙ sym (none_from c.args.place.completer c.args.read.now r (c.in_err-counts.ensures.none op r e))
