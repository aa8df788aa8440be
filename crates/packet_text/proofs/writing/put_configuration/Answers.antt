use Rattle.std.proofs.Common.{◌++◌}
use Rattle.std.specs.Prelude.{codes}
use Rattle.packet_text.specs.Texts as texts
use Rattle.packet_text.proofs.TextLemmas.{then}
use Rattle.packet_text.proofs.writing.put_configuration.Goals as goal

pub returns-clause-text : goal.returns-clause-text
returns-clause-text c =
    let r = c.args.request.now in
    let access = texts.access_text r.writes r.is_type_1 in
    let function = texts.function_text r.bus r.device r.function in
    let register = texts.register_text r.register r.enables in
    let written = texts.written_text r.writes r.value in
    let origin = texts.id_and_tag_text r.requester r.tag in
    let end = c.put_id_and_tag.new.out.bytes in
    then c.args.out.now.bytes c.put_access.new.out.bytes end access (codes " " ++ (function ++ (codes " " ++ (register ++ (written ++ (codes " from " ++ origin)))))) c.put_access.ensures.text
    (then c.put_access.new.out.bytes c.push_str.new.self.bytes end (codes " ") (function ++ (codes " " ++ (register ++ (written ++ (codes " from " ++ origin))))) c.push_str.ensures.bytes
    (then c.push_str.new.self.bytes c.put_function.new.out.bytes end function (codes " " ++ (register ++ (written ++ (codes " from " ++ origin)))) c.put_function.ensures.text
    (then c.put_function.new.out.bytes c.push_str-2.new.self.bytes end (codes " ") (register ++ (written ++ (codes " from " ++ origin))) c.push_str-2.ensures.bytes
    (then c.push_str-2.new.self.bytes c.put_register.new.out.bytes end register (written ++ (codes " from " ++ origin)) c.put_register.ensures.text
    (then c.put_register.new.out.bytes c.put_written.new.out.bytes end written (codes " from " ++ origin) c.put_written.ensures.text
    (then c.put_written.new.out.bytes c.push_str-3.new.self.bytes end (codes " from ") origin c.push_str-3.ensures.bytes c.put_id_and_tag.ensures.text))))))
