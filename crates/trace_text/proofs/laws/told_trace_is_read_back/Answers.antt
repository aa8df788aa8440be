use Rattle.trace_text.proofs.ReadBack.{Laws, told-back}
use Rattle.trace_text.proofs.laws.told_trace_is_read_back.Goals as goal

laws : (c : goal.After-own_text_spells_reply) → Laws
laws c =
    let numbers = c.own_digits_spell_number.ensures in
    let ops = c.own_text_spells_operation.ensures in
    let replies = c.own_text_spells_reply.ensures in
    record {
      range = numbers.range;
      decimal_back = numbers.decimal;
      hexadecimal_back = numbers.hexadecimal;
      decimal_word = numbers.decimal_word;
      decimal_last = numbers.decimal_last;
      hexadecimal_word = numbers.hexadecimal_word;
      printed = numbers.printed;
      short = numbers.short;
      op_back = ops.read_back;
      op_printed = ops.printed;
      op_short = ops.short;
      reply_back = replies.read_back;
      reply_printed = replies.printed;
      reply_short = replies.short;
    }

pub returns : goal.returns
returns c = told-back (laws c)
