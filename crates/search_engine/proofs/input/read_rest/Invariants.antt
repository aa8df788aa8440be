use Rattle.std.proofs.Common.{◌≡◌, List, ℕ, length}
use Rattle.std.specs.Io.KnownBytes.{Consumes}
use Rattle.search_engine.specs.Kept.{KeepsUpTo}
use Rattle.search_engine.proofs.input.read_rest.Given as goal

abbrev pub invariant-loop : goal.invariant-loop
invariant-loop g l = (read : List ℕ) × Consumes (g.R.Read.remaining l.fn.reader) (g.R.Read.remaining l.reader) read
    × KeepsUpTo read l.kept.text.items l.kept.line.items × (length l.buffer ≡ 8192)
