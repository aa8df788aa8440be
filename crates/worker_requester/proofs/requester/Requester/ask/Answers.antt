use Rattle.std.proofs.Common.{◌≡◌, ◌∙◌, ap, sym, subst, arith}
use Rattle.std.specs.Prelude.{Some}
use Rattle.std.proofs.lemmas.Option.{slice_get-get_or}
use Rattle.tlp_core.specs.Operation.{is_posted}
use Rattle.hall_laws.specs.Tells.{SubmitTells}
use Rattle.worker_requester.proofs.Steps.{follows_open, follows_posted}
use Rattle.worker_requester.proofs.requester.Requester.ask.Goals as goal

pub overflow_add-self-then-not-is_posted : goal.overflow_add-self-then-not-is_posted
overflow_add-self-then-not-is_posted g c = omega (arith, c.requires.follows.keeps.few)

pub returns-then-not-is_posted-clause-follows : goal.returns-then-not-is_posted-clause-follows
returns-then-not-is_posted-clause-follows g c =
    let q = c.args.self.now in
    let op = c.copy_of-in-Ok.result in
    let same : c.copy_of.result ≡ op = c.copy_of.ensures ∙ sym c.copy_of-in-Ok.ensures in
    let s : SubmitTells q.seat.knows c.in-Ok.submitted.number op c.in-Ok.submitted.n c.submit.new.seat.knows =
    subst (λ o. SubmitTells q.seat.knows c.in-Ok.submitted.number o c.in-Ok.submitted.n c.submit.new.seat.knows) same c.in-Ok.ensures.submitted in
    follows_open q c.submit.new.seat op c.in-Ok.submitted.number c.in-Ok.submitted.n c.requires.follows c.requires.none c.requires.next
    (slice_get-get_or q.script.now q.next c.index-self-self.result c.requires.next ∙ ap Some (sym c.copy_of-in-Ok.ensures)) s c.submit.ensures.seat
    (ap is_posted c.copy_of-in-Ok.ensures ∙ sym c.is_posted.ensures ∙ c.if-not-is_posted.true)

pub returns-else-not-is_posted-clause-follows : goal.returns-else-not-is_posted-clause-follows
returns-else-not-is_posted-clause-follows g c =
    let q = c.args.self.now in
    let op = c.copy_of-in-Ok.result in
    let same : c.copy_of.result ≡ op = c.copy_of.ensures ∙ sym c.copy_of-in-Ok.ensures in
    let s : SubmitTells q.seat.knows c.in-Ok.submitted.number op c.in-Ok.submitted.n c.submit.new.seat.knows =
    subst (λ o. SubmitTells q.seat.knows c.in-Ok.submitted.number o c.in-Ok.submitted.n c.submit.new.seat.knows) same c.in-Ok.ensures.submitted in
    follows_posted q c.submit.new.seat op c.in-Ok.submitted.number c.in-Ok.submitted.n c.requires.follows c.requires.none c.requires.next
    (slice_get-get_or q.script.now q.next c.index-self-self.result c.requires.next ∙ ap Some (sym c.copy_of-in-Ok.ensures)) s c.submit.ensures.seat
    (ap is_posted c.copy_of-in-Ok.ensures ∙ sym c.is_posted.ensures ∙ c.if-not-is_posted.false)
