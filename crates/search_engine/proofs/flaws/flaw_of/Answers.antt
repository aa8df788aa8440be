use Rattle.std.proofs.Common.{◌∙◌, sym}
use Rattle.search_engine.proofs.FlawLemmas.{again, unasked}
use Rattle.search_engine.proofs.flaws.flaw_of.Goals as goal

pub returns-then-is_answered : goal.returns-then-is_answered
returns-then-is_answered c =
    again c.args.before.now c.args.item.now c.in-Ans.requester c.in-Ans.number c.in-Ans.n c.in-Ans.reply c.in-Ans.is (sym c.is_answered.ensures ∙ c.if-is_answered.true)

pub returns-else-is_answered : goal.returns-else-is_answered
returns-else-is_answered c =
    unasked c.args.before.now c.args.item.now c.in-Ans.requester c.in-Ans.number c.in-Ans.n c.in-Ans.reply c.in-Ans.is (sym c.is_answered.ensures ∙ c.if-is_answered.false)
