use Rattle.std.proofs.Common.{◌∙◌, refl}
use Rattle.flow_control.proofs.Anew.{IsKept, kept_by, pushed_sound, pushed_ok}
use Rattle.flow_control.proofs.classes.Classes.push.Goals.{then-self+in_ok-reserve, else-self}
use Rattle.flow_control.proofs.classes.Classes.push.Goals as goal

pub returns-clause-sound : goal.returns-clause-sound
returns-clause-sound c =
    let kept : IsKept c.args.self.now c.if-self.self =
    elim c.if-self.branch [
      | then-self+in_ok-reserve w ↦ rw w.self-is (w.number_anew.ensures.sound, w.number_anew.ensures.items ∙ (kept_by c.args.self.now w.reserve.new.self c.requires w.in_ok-reserve.ensures.queues).1)
      | else-self w ↦ rw w.self-is (c.requires, refl)
    ] in
    pushed_sound c.add.result (record { arrival = c.if-self.self.next; tlp = c.args.tlp; mark = c.args.mark }) c.if-self.self c.add.new.self c.add.ensures.ok c.add.ensures.err kept.0

pub returns-clause-ok : goal.returns-clause-ok
returns-clause-ok c =
    let kept : IsKept c.args.self.now c.if-self.self =
    elim c.if-self.branch [
      | then-self+in_ok-reserve w ↦ rw w.self-is (w.number_anew.ensures.sound, w.number_anew.ensures.items ∙ (kept_by c.args.self.now w.reserve.new.self c.requires w.in_ok-reserve.ensures.queues).1)
      | else-self w ↦ rw w.self-is (c.requires, refl)
    ] in
    pushed_ok c.add.result (record { arrival = c.if-self.self.next; tlp = c.args.tlp; mark = c.args.mark }) c.args.self.now c.if-self.self c.add.new.self c.add.ensures.ok kept
