use Rattle.std.proofs.Common.{◌++◌}
use Rattle.std.specs.Prelude.{codes}
use Rattle.std.specs.Fmt.{decimal}
use Rattle.operation_text.specs.Texts.{octet_text}
use Rattle.packet_text.specs.Texts as texts
use Rattle.packet_text.proofs.TextLemmas.{then}
use Rattle.packet_text.proofs.writing.put_completer.Goals as goal

pub returns-clause-text : goal.returns-clause-text
returns-clause-text c =
    let id = texts.id_text c.args.completer in
    let count = decimal c.args.byte_count in
    let lower = octet_text c.args.lower in
    let end = c.write_octet.new.out.bytes in
    then c.args.out.now.bytes c.push_str.new.self.bytes end (codes " by ") (id ++ (codes " count " ++ (count ++ (codes " lower " ++ lower)))) c.push_str.ensures.bytes
    (then c.push_str.new.self.bytes c.put_id.new.out.bytes end id (codes " count " ++ (count ++ (codes " lower " ++ lower))) c.put_id.ensures.text
    (then c.put_id.new.out.bytes c.push_str-2.new.self.bytes end (codes " count ") (count ++ (codes " lower " ++ lower)) c.push_str-2.ensures.bytes
    (then c.push_str-2.new.self.bytes c.write_decimal.new.out.bytes end count (codes " lower " ++ lower) (rw (← c.from.ensures) c.write_decimal.ensures.text)
    (then c.write_decimal.new.out.bytes c.push_str-3.new.self.bytes end (codes " lower ") lower c.push_str-3.ensures.bytes c.write_octet.ensures.text))))
