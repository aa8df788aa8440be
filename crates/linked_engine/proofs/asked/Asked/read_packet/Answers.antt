use Rattle.std.proofs.Common.{◌≡◌, ◌∙◌, ℕ, List, ap, sym, subst, Result, Ok}
use Rattle.std.proofs.lemmas.Result.{IfOk-weaker}
use Rattle.hex.specs.Hex.{decode_of}
use Rattle.hex.specs.declared.error.FromHexError.{FromHexError}
use Rattle.hex_text.specs.Line.{digits_of}
use Rattle.line_loop.specs.Run.{Answer, IsAnswer}
use Rattle.linked_engine.specs.Lines.{LinkLines, answer_packet_bytes}
use Rattle.linked_engine.proofs.asked.Asked.read_packet.Goals as goal

pub returns-clause-ok : goal.returns-clause-ok
returns-clause-ok c =
    let read = c.read.ensures.read c.if-not-read.false ∙ ap Ok (sym c.bytes.ensures) in
    let same : answer_packet_bytes c.self.inside.lines (Ok c.bytes.result.now) c.args.mark ≡ answer_packet_bytes c.args.self.now (decode_of (digits_of c.args.digits.now)) c.args.mark =
    ap (λ (r : Result (List ℕ) FromHexError). answer_packet_bytes c.self.inside.lines r c.args.mark) (sym read)
    ∙ ap (λ (u : LinkLines). answer_packet_bytes u (decode_of (digits_of c.args.digits.now)) c.args.mark) c.self.view_is in
    IfOk-weaker c.take_packet.result _ _
    (λ verdict h. subst (λ (a : Answer LinkLines). IsAnswer c.take_packet.new.self c.args.out.now.items c.take_packet.new.out.items verdict a) same h)
    c.take_packet.ensures.ok
