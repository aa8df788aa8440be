use Rattle.std.proofs.Common.{◌≡◌, ◌∙◌, ap, sym, subst, Ok}
use Rattle.std.proofs.lemmas.Result.{IfOk-weaker}
use Rattle.hex.specs.Hex.{decode_of}
use Rattle.hex_text.specs.Line.{digits_of}
use Rattle.line_loop.specs.Run.{Answer, IsAnswer}
use Rattle.endpoint_engine.specs.Lines.{DeviceLines, answer_tlp}
use Rattle.endpoint_engine.proofs.lines.Asked.take.Goals as goal

pub returns-clause-ok : goal.returns-clause-ok
returns-clause-ok c =
    let read = c.read.ensures.read c.if-not-read.false ∙ ap Ok (sym c.bytes.ensures) in
    let same : answer_tlp c.self.inside.lines (Ok c.bytes.result.now) ≡ answer_tlp c.args.self.now (decode_of (digits_of c.args.digits.now)) =
    ap (answer_tlp c.self.inside.lines) (sym read) ∙ ap (λ (u : DeviceLines). answer_tlp u (decode_of (digits_of c.args.digits.now))) c.self.view_is in
    IfOk-weaker c.take.result _ _
    (λ verdict h. subst (λ (a : Answer DeviceLines). IsAnswer c.take.new.self c.args.out.now.items c.take.new.out.items verdict a) same h)
    c.take.ensures.ok
