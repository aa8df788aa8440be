use Rattle.std.proofs.Common.{◌++◌}
use Rattle.std.specs.Prelude.{codes}
use Rattle.operation_text.specs.Texts.{op_text}
use Rattle.packet_text.specs.Texts as texts
use Rattle.packet_text.proofs.TextLemmas.{then}
use Rattle.packet_text.proofs.writing.put_request.Goals as goal

pub returns-clause-text : goal.returns-clause-text
returns-clause-text c =
    let t = c.args.tlp.now in
    let op = op_text c.args.op.now in
    let origin = texts.origin_text t in
    let class = texts.class_text t.tc t.attr in
    let end = c.put_class.new.out.bytes in
    then c.args.out.now.bytes c.write_op.new.out.bytes end op (codes " from " ++ (origin ++ class)) c.write_op.ensures.text
    (then c.write_op.new.out.bytes c.push_str.new.self.bytes end (codes " from ") (origin ++ class) c.push_str.ensures.bytes
    (then c.push_str.new.self.bytes c.put_origin.new.out.bytes end origin class c.put_origin.ensures.text c.put_class.ensures.text))
