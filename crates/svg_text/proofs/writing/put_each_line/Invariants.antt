use Rattle.std.proofs.Common.{◌≡◌, ◌++◌, drop}
use Rattle.svg_text.specs.Shapes.{lines}
use Rattle.svg_text.specs.Xml.{text_of}
use Rattle.svg_text.proofs.writing.put_each_line.Given as goal

abbrev pub invariant-loop-rule : goal.invariant-loop-rule
invariant-loop-rule l = l.out.items ++ text_of (lines (drop l.rule-index l.rules)) ≡ l.fn.out.items ++ text_of (lines l.rules)
