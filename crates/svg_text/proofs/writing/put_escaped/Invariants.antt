use Rattle.std.proofs.Common.{◌≡◌, ◌++◌, drop}
use Rattle.svg_text.specs.Xml.{escaped}
use Rattle.svg_text.proofs.writing.put_escaped.Given as goal

abbrev pub invariant-loop-byte : goal.invariant-loop-byte
invariant-loop-byte l = l.out.items ++ escaped (drop l.byte-index l.text) ≡ l.fn.out.items ++ escaped l.text
