use Rattle.std.proofs.Common.{◌≡◌, ◌∙◌, refl, sym, ap}
use Rattle.dllp_core.specs.declared.packet.Class.TheVariants.{Posted, NonPosted, Completion}
use Rattle.tlp_core.specs.TlpView.{TlpView}
use Rattle.flow_control.specs.Needs.{class_of}
use Rattle.flow_control.proofs.Merged.{split_push}
use Rattle.flow_control.proofs.classes.Classes.add.Goals.{in-Posted+in_ok-push_back-in-Posted, in-NonPosted+in_ok-push_back-in-NonPosted, in-Completion+in_ok-push_back-in-Completion}
use Rattle.flow_control.proofs.classes.Classes.add.Goals as goal

pub returns-clause-ok : goal.returns-clause-ok
returns-clause-ok c all s =
    let kind : class_of c.args.tlp.kind ≡ c.class_of-class.result = ap (λ (t : TlpView). class_of t.kind) (sym c.tlp.view_is) ∙ sym c.class_of-class.ensures in
    elim c.match-class.branch [
      | in-Posted+in_ok-push_back-in-Posted w ↦ rw w.self-is (split_push Posted all (record { arrival = c.args.self.now.next; tlp = c.args.tlp; mark = c.args.mark }) c.args.self.now _ (kind ∙ w.in-Posted.is) (w.in_ok-push_back-in-Posted.ensures.items, refl, refl) s refl refl c.requires)
      | in-NonPosted+in_ok-push_back-in-NonPosted w ↦ rw w.self-is (split_push NonPosted all (record { arrival = c.args.self.now.next; tlp = c.args.tlp; mark = c.args.mark }) c.args.self.now _ (kind ∙ w.in-NonPosted.is) (refl, w.in_ok-push_back-in-NonPosted.ensures.items, refl) s refl refl c.requires)
      | in-Completion+in_ok-push_back-in-Completion w ↦ rw w.self-is (split_push Completion all (record { arrival = c.args.self.now.next; tlp = c.args.tlp; mark = c.args.mark }) c.args.self.now _ (kind ∙ w.in-Completion.is) (refl, refl, w.in_ok-push_back-in-Completion.ensures.items) s refl refl c.requires)
    ]
