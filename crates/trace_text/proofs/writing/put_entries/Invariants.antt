use Rattle.std.proofs.Common.{◌≡◌, ◌++◌, drop, map}
use Rattle.std.specs.Prelude.{string_bytes}
use Rattle.trace_text.specs.Texts.{entry_line, lines_text}
use Rattle.trace_text.proofs.writing.put_entries.Given as goal

abbrev pub invariant-loop-index : goal.invariant-loop-index
invariant-loop-index g l =
    let xs = (g.C.AsClaim.claim l.claim).memory.entries in
    string_bytes l.text ++ lines_text (map entry_line (drop l.index xs)) ≡ string_bytes l.fn.text ++ lines_text (map entry_line xs)
