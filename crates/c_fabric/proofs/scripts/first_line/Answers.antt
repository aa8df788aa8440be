use Rattle.std.proofs.Common.{arith}
use Rattle.hex_text.specs.LineFacts.{none-before, none-at-all}
use Rattle.c_fabric.proofs.ScriptLemmas.{line-feed, line-last}
use Rattle.c_fabric.proofs.scripts.first_line.Goals as goal

pub returns-in-Some-clause-line : goal.returns-in-Some-clause-line
returns-in-Some-clause-line c =
    let text = c.args.text.now in
    let found = c.in-Some.ensures in
    line-feed text c.in-Some.end found.0.high found.1 (none-before text c.in-Some.end (omega (arith, found.0.high)) found.0.before)

pub returns-in-None-clause-line : goal.returns-in-None-clause-line
returns-in-None-clause-line c = line-last c.args.text.now c.requires (none-at-all c.args.text.now c.in-None.ensures)
