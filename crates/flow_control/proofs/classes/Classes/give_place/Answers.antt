use Rattle.std.proofs.Common.{◌∙◌, refl, ap, Some}
use Rattle.dllp_core.specs.declared.packet.Class.TheVariants.{Posted, NonPosted, Completion}
use Rattle.flow_control.specs.Arrivals.{past}
use Rattle.flow_control.proofs.Anew.{anew_step}
use Rattle.flow_control.proofs.classes.Classes.give_place.Goals.{in-Posted, in-NonPosted, in-Completion}
use Rattle.flow_control.proofs.classes.Classes.give_place.Goals as goal

pub returns-clause-numbered : goal.returns-clause-numbered
returns-clause-numbered c items a h =
    elim c.match-class.branch [
      | in-Posted w ↦ rw w.self-is (anew_step Posted items c.args.place c.args.cut c.past.result c.oldest.result c.args.self.now _ a c.oldest.ensures.first (c.in-Some.is ∙ ap (λ d. Some d) w.in-Posted.is) (w.renumber.ensures, refl, refl) (c.past.ensures ∙ ap (λ d. past d c.args.cut) w.in-Posted.is) refl)
      | in-NonPosted w ↦ rw w.self-is (anew_step NonPosted items c.args.place c.args.cut c.past.result c.oldest.result c.args.self.now _ a c.oldest.ensures.first (c.in-Some.is ∙ ap (λ d. Some d) w.in-NonPosted.is) (refl, w.renumber-in-NonPosted.ensures, refl) (c.past.ensures ∙ ap (λ d. past d c.args.cut) w.in-NonPosted.is) refl)
      | in-Completion w ↦ rw w.self-is (anew_step Completion items c.args.place c.args.cut c.past.result c.oldest.result c.args.self.now _ a c.oldest.ensures.first (c.in-Some.is ∙ ap (λ d. Some d) w.in-Completion.is) (refl, refl, w.renumber-in-Completion.ensures) (c.past.ensures ∙ ap (λ d. past d c.args.cut) w.in-Completion.is) refl)
    ]
