use Rattle.std.proofs.Common.{◌++◌}
use Rattle.std.specs.Prelude.{codes}
use Rattle.operation_text.specs.Texts.{octet_text}
use Rattle.packet_text.specs.Texts as texts
use Rattle.packet_text.proofs.TextLemmas.{then}
use Rattle.packet_text.proofs.writing.put_id_and_tag.Goals as goal

pub returns-clause-text : goal.returns-clause-text
returns-clause-text c =
    let id = texts.id_text c.args.requester in
    let tag = octet_text c.args.tag in
    let end = c.write_octet.new.out.bytes in
    then c.args.out.now.bytes c.put_id.new.out.bytes end id (codes " tag " ++ tag) c.put_id.ensures.text
    (then c.put_id.new.out.bytes c.push_str.new.self.bytes end (codes " tag ") tag c.push_str.ensures.bytes c.write_octet.ensures.text)
