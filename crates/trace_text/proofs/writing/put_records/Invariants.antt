use Rattle.std.proofs.Common.{◌≡◌, ◌++◌, drop, map}
use Rattle.std.specs.Prelude.{string_bytes}
use Rattle.trace_text.specs.Texts.{record_line, lines_text}
use Rattle.trace_text.proofs.writing.put_records.Given as goal

abbrev pub invariant-loop-place : goal.invariant-loop-place
invariant-loop-place g l =
    let xs = (g.C.AsClaim.claim l.claim).records in
    string_bytes l.text ++ lines_text (map record_line (drop l.place xs)) ≡ string_bytes l.fn.text ++ lines_text (map record_line xs)
