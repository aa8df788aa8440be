use Rattle.std.proofs.Common.{◌≡◌, List, ℕ, ◌++◌, ◌-◌, ◌≤◌, length, take, drop, arith}
use Rattle.std.proofs.lemmas.Grind.{common_steps}
use Rattle.line_loop.proofs.KnownLemmas.{Appends-then}
use Rattle.line_loop.proofs.output.write_out.Goals as goal

cut : (all done rest : List ℕ) (n : ℕ) → all ≡ done ++ rest → n ≤ length rest → all ≡ (done ++ take n rest) ++ take (length rest - n) (drop n rest)
cut all done rest n e h = grind (arith, common_steps)

pub loop-rest-preserved : goal.loop-rest-preserved
loop-rest-preserved g c =
    let h = c.loop-rest.invariant in
    let n = c.in-Ok.count in
    let rest = c.loop-rest.rest.now in
    (h.0 ++ take n rest, cut _ h.0 rest n h.1 c.in-Ok.ensures.bound, Appends-then _ _ _ h.0 (take n rest) h.2 c.in-Ok.ensures.bytes)
