use Rattle.script_text.proofs.ReadBack.{line-of-event}
use Rattle.script_text.proofs.laws.own_line_spells_event.Goals as goal

pub returns : goal.returns
returns c =
    let digits = c.own_digits_spell_number.ensures in
    let ops = c.own_text_spells_operation.ensures in
    line-of-event (record {
      decimal_back = digits.decimal;
      hexadecimal_back = digits.hexadecimal;
      decimal_word = digits.decimal_word;
      decimal_last = digits.decimal_last;
      hexadecimal_word = digits.hexadecimal_word;
      printed = digits.printed;
      short = digits.short;
      op_back = ops.read_back;
      op_printed = ops.printed;
      op_short = ops.short;
    })
