use Rattle.std.proofs.Common.{◌∙◌, sym, ap, refl}
use Rattle.std.proofs.lemmas.Result.{IfOk-weaker}
use Rattle.line_loop.specs.Run.{is_fault}
use Rattle.packet_engine.specs.CompleterView.{without_history}
use Rattle.packet_engine.proofs.RequestLemmas.{numbers-used}
use Rattle.packet_engine.proofs.tlp.Device.answer_request.Goals as goal

pub returns-then-number-clause-ok : goal.returns-then-number-clause-ok
returns-then-number-clause-ok c =
    let used = numbers-used without_history c.args.self.now c.args.request.now _ (sym c.count-number.ensures ∙ c.if-number.true) in
    IfOk-weaker c.tell.result _ _ (λ verdict h. rw used (record { state = refl; text = h.1; is_fault = ap is_fault h.0 })) c.tell.ensures.ok
