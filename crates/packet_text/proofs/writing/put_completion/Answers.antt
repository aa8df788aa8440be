use Rattle.std.proofs.Common.{◌≡◌, ◌++◌, ◌∙◌, ap, sym}
use Rattle.std.specs.Prelude.{codes}
use Rattle.tlp_core.specs.declared.packet.Body.{Body}
use Rattle.tlp_core.specs.declared.packet.Body.TheVariants as bodies
use Rattle.tlp_core.specs.TlpView.{TlpView}
use Rattle.packet_text.specs.Texts as texts
use Rattle.packet_text.proofs.TextLemmas.{then}
use Rattle.packet_text.proofs.writing.put_completion.Goals as goal

pub returns-clause-text : goal.returns-clause-text
returns-clause-text c =
    let t = c.args.tlp.now in
    let status = texts.status_text c.in-Completion.status in
    let bytes = texts.data_text t.kind t.payload in
    let origin = texts.origin_text t in
    let completer = texts.completer_text c.in-Completion.completer c.in-Completion.byte_count c.in-Completion.lower in
    let class = texts.class_text t.tc t.attr in
    let end = c.put_class.new.out.bytes in
    let body : t.body ≡ bodies.Completion c.in-Completion.completer c.in-Completion.status c.in-Completion.byte_count c.in-Completion.lower =
    sym (ap (λ (p : TlpView). p.body) c.tlp.view_is) ∙ c.in-Completion.is in
    then c.args.out.now.bytes c.push_str.new.self.bytes end (codes "completion ") (status ++ (bytes ++ (codes " to " ++ (origin ++ (completer ++ class))))) c.push_str.ensures.bytes
    (then c.push_str.new.self.bytes c.put_status.new.out.bytes end status (bytes ++ (codes " to " ++ (origin ++ (completer ++ class)))) c.put_status.ensures.text
    (then c.put_status.new.out.bytes c.put_data.new.out.bytes end bytes (codes " to " ++ (origin ++ (completer ++ class))) c.put_data.ensures.text
    (then c.put_data.new.out.bytes c.push_str-2.new.self.bytes end (codes " to ") (origin ++ (completer ++ class)) c.push_str-2.ensures.bytes
    (then c.push_str-2.new.self.bytes c.put_origin.new.out.bytes end origin (completer ++ class) c.put_origin.ensures.text
    (then c.put_origin.new.out.bytes c.put_completer.new.out.bytes end completer class c.put_completer.ensures.text c.put_class.ensures.text)))))
    ∙ ap (λ (b : Body). c.args.out.now.bytes ++ texts.completion_text t b) (sym body)
