use Rattle.std.proofs.Common.{rules, ◌≡◌, ◌∙◌, ◌++◌, ◌∷◌, []}
use Rattle.script_text.specs.Texts.{told_text}
use Rattle.c_fabric.proofs.SettleLemmas.{line-next, line-past}
use Rattle.c_fabric.proofs.settling.lines_of.Goals as goal

pub loop-record-preserved : goal.loop-record-preserved
loop-record-preserved c =
    let before = c.loop-record.lines.items in
    let text : c.as_bytes.result.now ≡ told_text c.record-item.result ++ 10 ∷ [] = search rules in
    let put : c.extend_from_slice.new.self.items ≡ before ++ (told_text c.record-item.result ++ 10 ∷ []) = search rules in
    line-next c.args.collected.now c.loop-record.record-index c.record-item.result before c.extend_from_slice.new.self.items c.loop-record-test.true c.record-item.is put
    ∙ c.loop-record.invariant

pub returns : goal.returns
returns c = line-past c.args.collected.now c.loop-record.record-index c.loop-record.lines.items c.loop-record-test.false ∙ c.loop-record.invariant
