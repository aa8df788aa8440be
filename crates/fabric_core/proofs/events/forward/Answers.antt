use Rattle.std.proofs.Common.{Ok, ap, ℕ, subst, sym, ◌∙◌}
use Rattle.fabric_core.proofs.Entering.{enters_on, item_is, ok_is}
use Rattle.fabric_core.specs.Answers.{and_then, map_ok, enter_on}
use Rattle.tlp_core.specs.TlpView.{TlpView}
use Rattle.tlp_core.specs.Layout.{Spells, canonical}
use Rattle.lane_core.specs.Steps.{ReceiverEndView, after_take}
use Rattle.fabric_core.proofs.events.forward.Goals as goal

pub returns-in-Ok-clause-answers : goal.returns-in-Ok-clause-answers
returns-in-Ok-clause-answers c =
    let h = c.in-Ok.ensures.ok in
    ap (λ i. and_then i (λ x. map_ok (enter_on c.args.sender.now x.0 x.1) (λ s'. (after_take c.args.receiver.now c.args.place, s')))) (item_is c.args.receiver.now c.args.place h.packet h.mark h.takeable h.there)
    ∙ ap (λ e. map_ok e (λ s'. (after_take c.args.receiver.now c.args.place, s'))) (enters_on c.args.sender.now h.packet h.mark c.forward_ends.new.to h.may h.sent)
    ∙ ap (λ (r : ReceiverEndView). Ok (r, c.forward_ends.new.to)) (sym h.left)

pub returns-in-Ok-clause-fits : goal.returns-in-Ok-clause-fits
returns-in-Ok-clause-fits c =
    let h = c.in-Ok.ensures.ok in
    record { spelled = λ t mark e. subst (λ (x : TlpView × ℕ). Spells (canonical x.0) x.0) (ok_is (h.packet, h.mark) (t, mark) (sym (item_is c.args.receiver.now c.args.place h.packet h.mark h.takeable h.there) ∙ e)) h.spelled }
