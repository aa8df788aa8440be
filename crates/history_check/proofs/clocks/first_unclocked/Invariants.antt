use Rattle.std.proofs.Common.{ℕ, ◌≡◌, take, None}
use Rattle.std.specs.Prelude.{nat_lt}
use Rattle.std.specs.List.{list_any}
use Rattle.history_words.specs.Flaws.{moment, first_at, clock_at}
use Rattle.history_check.proofs.clocks.first_unclocked.Given as goal

abbrev pub invariant-loop-a : goal.invariant-loop-a
invariant-loop-a g l = record {
  clean : first_at (clock_at (g.C.AsClaim.claim l.claim).records (g.C.AsClaim.claim l.claim).memory.entries) l.a ≡ None;
  last : (n : ℕ) → list_any (λ r. nat_lt n (moment r)) (take l.a (g.C.AsClaim.claim l.claim).records) ≡ nat_lt n l.last;
}
