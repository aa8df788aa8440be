use Rattle.std.proofs.Common.{◌≡◌, ◌++◌, ◌∷◌, [], ◌∙◌, rules}
use Rattle.std.proofs.lemmas.List.{replicate-append-replicate}
use Rattle.run_engine.specs.Counting.{addition}
use Rattle.run_engine.proofs.plan.script_of.Goals as goal

pub loop-place-preserved : goal.loop-place-preserved
loop-place-preserved c =
    let pushed : c.push.new.self.items ≡ c.loop-place.script.items ++ c.addition.result ∷ [] = search rules in
    pushed ∙ (λ j. c.loop-place.invariant j ++ c.addition.ensures j ∷ []) ∙ replicate-append-replicate c.loop-place._place 1 addition
