use Rattle.std.proofs.Common.{◌≡◌, ◌∙◌, sym, ap, subst}
use Rattle.std.proofs.lemmas.Result.{IfOk-weaker}
use Rattle.link_crc.specs.declared.check.LcrcCheck.{LcrcCheck}
use Rattle.link_crc.specs.Checks.{lcrc_check_of, framed}
use Rattle.line_loop.specs.Run.{Answer, IsAnswer}
use Rattle.linked_engine.specs.Crcs.{without_last}
use Rattle.linked_engine.specs.Lines.{LinkLines, answer_arrival, answer_checked}
use Rattle.linked_engine.proofs.Checking.{arrives}
use Rattle.linked_engine.proofs.lines.Lines.come_checked.Goals as goal

pub returns-in-Some-clause-ok : goal.returns-in-Some-clause-ok
returns-in-Some-clause-ok c =
    let is = ap (λ (k : LcrcCheck). framed k c.args.framing) (sym c.check_packet.ensures) ∙ sym c.framed.ensures ∙ c.in-Some.is in
    let same : answer_arrival c.args.self.now c.without_lcrc.result.now c.in-Some.check ≡ answer_checked c.args.self.now (framed (lcrc_check_of c.args.bytes.now) c.args.framing) (without_last 4 c.args.bytes.now) =
    arrives c.args.self.now (framed (lcrc_check_of c.args.bytes.now) c.args.framing) c.in-Some.check c.without_lcrc.result.now (without_last 4 c.args.bytes.now) is c.without_lcrc.ensures in
    IfOk-weaker c.come.result _ _
    (λ verdict h. subst (λ (a : Answer LinkLines). IsAnswer c.come.new.self c.args.out.now.items c.come.new.out.items verdict a) same h)
    c.come.ensures.ok
