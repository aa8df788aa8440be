use Rattle.std.proofs.Common.{◌∙◌, ap, List, ℕ, ◌++◌}
use Rattle.hex_text.proofs.HexLemmas.{four_digits}
use Rattle.hex_text.proofs.writing.put_group.Goals as goal

pub returns-clause-text : goal.returns-clause-text
returns-clause-text c =
    c.extend.ensures.text ∙ ap (λ (zs : List ℕ). c.args.text.now ++ zs) (four_digits c.args.bytes.now c.digits_of-first.result c.digits_of-second.result c.digits_of-third.result c.digits_of-fourth.result c.args.behind c.requires.four c.digits_of-first.ensures c.digits_of-second.ensures c.digits_of-third.ensures c.digits_of-fourth.ensures)
