use Rattle.std.proofs.Common.{◌≡◌, ◌++◌, ◌∷◌, [], ◌∙◌, map, ap, rules}
use Rattle.std.proofs.lemmas.List.{map-append, replicate-append-replicate}
use Rattle.run_engine.specs.Counting.{script_of}
use Rattle.run_engine.proofs.Plans.{items_of}
use Rattle.run_engine.proofs.plan.scripts_of.Goals as goal

pub loop-place-preserved : goal.loop-place-preserved
loop-place-preserved c =
    let script = c.in_ok-script.script in
    let pushed : c.push.new.self.items ≡ c.loop-place.scripts.items ++ script ∷ [] = search rules in
    ap (map items_of) pushed ∙ map-append items_of c.loop-place.scripts.items (script ∷ []) ∙ (λ j. c.loop-place.invariant j ++ c.in_ok-script.ensures j ∷ []) ∙ replicate-append-replicate c.loop-place._place 1 (script_of c.args.each)
