use Rattle.script_text.proofs.Operations.{op-spelled}
use Rattle.script_text.proofs.laws.an_operation_in_range_is_spelled.Goals as goal

pub returns : goal.returns
returns c =
    let digits = c.own_digits_spell_number.ensures in
    op-spelled (record { decimal = digits.decimal; hexadecimal = digits.hexadecimal })
