use Rattle.std.proofs.Common.{◌≡◌, ◌≢◌, ◌∙◌, ◌==◌, length, slice_index, false, sym, ap, refl, subst, Ok}
use Rattle.std.proofs.lemmas.Result.{IfOk-weaker}
use Rattle.tlp_core.specs.Faults.{reading}
use Rattle.hex_text.specs.Lines.{is_skipped}
use Rattle.line_loop.specs.Run.{Answer, IsAnswer}
use Rattle.hex_text.specs.Line.{digits_of}
use Rattle.packet_engine.specs.Tlp.{answer_line, answer_reading}
use Rattle.packet_engine.specs.CompleterView.{CompleterView, without_history}
use Rattle.packet_engine.proofs.RequestLemmas.{line-read}
use Rattle.packet_engine.proofs.tlp.CompleterResponder.on_line.Goals as goal

pub returns-clause-ok : goal.returns-clause-ok
returns-clause-ok c =
    let line = c.args.line.now in
    let kept : is_skipped line ≡ false = sym c.is_skipped.ensures ∙ c.if-is_skipped.false in
    let read = c.read.ensures.read c.if-not-read.false ∙ ap Ok (sym c.bytes.ensures) in
    let same : answer_reading without_history c.self.inside.device (reading c.bytes.result.now) ≡ answer_line without_history c.args.self.now line =
    sym (line-read without_history c.self.inside.device line (digits_of line) c.bytes.result.now kept refl read)
    ∙ ap (λ (k : CompleterView). answer_line without_history k line) c.self.view_is in
    IfOk-weaker c.answer_bytes.result _ _
    (λ verdict h. subst (λ (a : Answer CompleterView). IsAnswer c.answer_bytes.new.self c.args.out.now.items c.answer_bytes.new.out.items verdict a) same h)
    c.answer_bytes.ensures.ok
