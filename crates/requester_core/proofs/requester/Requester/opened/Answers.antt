use Rattle.std.proofs.Common.{arith, ap, ◌∙◌}
use Rattle.tlp_core.specs.TlpView.{TlpView}
use Rattle.requester_core.specs.RequesterView.{RequesterView}
use Rattle.requester_core.proofs.Tags.{prepared_tag, prepared_number, prepared_next, sound_spent}
use Rattle.requester_core.proofs.requester.Requester.opened.Goals as goal

pub open_tag-requires : goal.open_tag-requires
open_tag-requires c =
    let number = ap (λ (s : RequesterView). s.next) c.self.view_is in
    let tag = ap (λ (t : TlpView). t.tag) c.request.view_is in
    let kind = ap (λ (t : TlpView). t.kind) c.request.view_is in
    let sound = c.self.invariant.0 in
    let h = prepared_tag c.args.self.now c.requires.op c.args.request.now (omega (arith, number, sound.numbers)) (prepared_next c.args.self.now c.requires.op (c.requires.number, c.args.request.now) c.requires.is) (λ e. c.in_default.not-MemoryWrite (kind ∙ e)) in
    record { lowest = tag ∙ h.0; number = number; few = h.1 }

pub invariant_of-self : goal.invariant_of-self
invariant_of-self c =
    let number = ap (λ (s : RequesterView). s.next) c.self.view_is in
    let sound = c.self.invariant.0 in
    let few = prepared_number c.args.self.now c.requires.op c.args.request.now (omega (arith, number, sound.numbers)) (prepared_next c.args.self.now c.requires.op (c.requires.number, c.args.request.now) c.requires.is) in
    (sound_spent _ sound (omega (arith, number, few)), c.self.invariant.1)
