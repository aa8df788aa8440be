use Rattle.std.proofs.Common.{◌≡◌, ◌++◌, List, ℕ, length}
use Rattle.search_engine.specs.Kept.{KeepsUpTo}
use Rattle.search_engine.proofs.keeping.KeptText.take_lines.Given as goal

abbrev pub invariant-loop-end : goal.invariant-loop-end
invariant-loop-end l = (done : List ℕ) × (l.bytes ≡ done ++ l.rest)
    × ((read : List ℕ) → KeepsUpTo read l.fn.self.text.items l.fn.self.line.items → KeepsUpTo (read ++ done) l.self.text.items l.self.line.items)

abbrev pub decreases-loop-end : goal.decreases-loop-end
decreases-loop-end l = length l.rest
