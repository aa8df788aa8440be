use Rattle.std.proofs.Common.{◌+◌, drop, arith, length-drop}
use Rattle.std.proofs.lemmas.List.{take_all}
use Rattle.hex_text.specs.LineFacts.{none-before, none-at-all}
use Rattle.search_reasons.proofs.LineLemmas.{said-behind, said-none}
use Rattle.search_reasons.proofs.telling.next_line.Goals as goal

pub returns-in-Some-clause-line : goal.returns-in-Some-clause-line
returns-in-Some-clause-line c =
    let text = c.args.text.now in
    let found = c.in-Some.ensures in
    said-behind text _ _ c.in-Some.end found.0.high found.1 (none-before text c.in-Some.end (omega (arith, found.0.high)) found.0.before) c.without_return.ensures
    (take_all _ (drop (c.in-Some.end + 1) text) (omega (arith, length-drop (c.in-Some.end + 1) text)))

pub returns-in-None-clause-line : goal.returns-in-None-clause-line
returns-in-None-clause-line c = said-none c.args.text.now (none-at-all c.args.text.now c.in-None.ensures)
