use Rattle.std.proofs.Common.{◌++◌, ◌∙◌, ap}
use Rattle.packet_text.specs.Texts as texts
use Rattle.packet_text.proofs.writing.put_origin.Goals as goal

pub returns-clause-text : goal.returns-clause-text
returns-clause-text c =
    c.put_id_and_tag.ensures.text ∙ ap (λ t. c.args.out.now.bytes ++ texts.origin_text t) c.tlp.view_is
