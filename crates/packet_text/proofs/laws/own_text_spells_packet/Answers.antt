use Rattle.packet_text.proofs.OpLemmas.{Laws}
use Rattle.packet_text.proofs.PacketBack.{packet-back, one-packet}
use Rattle.packet_text.proofs.BytesLemmas.{Spellings, packet-is}
use Rattle.packet_text.proofs.LineLemmas.{Printing, printed, letter, short}
use Rattle.packet_text.proofs.laws.own_text_spells_packet.Goals as goal

laws : (c : goal.After-bytes_spell_one_dllp) → Laws
laws c =
    let numbers = c.own_digits_spell_number.ensures in
    record {
      decimal_back = numbers.decimal;
      hexadecimal_back = numbers.hexadecimal;
      decimal_word = numbers.decimal_word;
      decimal_last = numbers.decimal_last;
      op_back = c.own_text_spells_operation.ensures.read_back;
    }

spellings : (c : goal.After-bytes_spell_one_dllp) → Spellings
spellings c = record {
  of_tlps = c.reading_is_spelling.ensures.spelled;
  of_dllps = c.bytes_spell_one_dllp.ensures.spelled;
  of_requests = c.reading_is_spelling-2.ensures.fits;
}

printing : (c : goal.After-bytes_spell_one_dllp) → Printing
printing c = record {
  of_decimal = λ n. (c.own_digits_spell_number.ensures.printed n).0;
  of_hexadecimal = λ n. (c.own_digits_spell_number.ensures.printed n).1;
  hexadecimal_short = λ n h. (c.own_digits_spell_number.ensures.short n h).1;
  of_op = c.own_text_spells_operation.ensures.printed;
  op_short = c.own_text_spells_operation.ensures.short;
}

pub returns-clause-read_back : goal.returns-clause-read_back
returns-clause-read_back c = packet-back (laws c)

pub returns-clause-one_packet : goal.returns-clause-one_packet
returns-clause-one_packet c = one-packet (laws c)

pub returns-clause-of_bytes : goal.returns-clause-of_bytes
returns-clause-of_bytes c = packet-is (spellings c)

pub returns-clause-printed : goal.returns-clause-printed
returns-clause-printed c = printed (laws c) (printing c)

pub returns-clause-letter : goal.returns-clause-letter
returns-clause-letter c = letter (laws c) (printing c)

pub returns-clause-short : goal.returns-clause-short
returns-clause-short c = short (laws c) (printing c)
