use Rattle.std.proofs.Common.{◌∙◌}
use Rattle.svg_text.proofs.Chains.{cut_back}
use Rattle.svg_text.proofs.writing.put_both.Goals as goal

pub returns-in-Err-clause-err : goal.returns-in-Err-clause-err
returns-in-Err-clause-err c =
    cut_back c.args.out.now.items c.args.first.now _ _ c.len-before.result (c.len-before.ensures ∙ c.args.out.now.ok.0)
    (c.in-Err.ensures.items ∙ c.in_ok-extend_from_slice.ensures.items) c.truncate.ensures.items
