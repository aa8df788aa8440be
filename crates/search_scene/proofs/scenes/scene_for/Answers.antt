use Rattle.std.proofs.Common.{ℕ, length, All, ap, refl, subst, arith}
use Rattle.search_reasons.specs.Lines.{lines_in}
use Rattle.search_scene.specs.Scenes.{Joins}
use Rattle.search_scene.proofs.SceneLemmas.{shows}
use Rattle.search_scene.proofs.scenes.scene_for.Goals as goal

pub returns : goal.returns
returns c =
    shows c.args.case.read.seen.now _ c.saturating_sub-last.result _ (lines_in c.args.text.now) _ c.in_ok-known.known.history.memory.entries _ _ _
    c.in_ok-title.ensures c.in_ok-places.ensures c.saturating_sub-last.ensures c.in_ok-known.ensures.history c.in_ok-lines.ensures c.deref-3.ensures.value refl
    c.in_ok-bars.ensures.bars (omega (arith, c.in_ok-bars.ensures.few, c.in_ok-chosen.ensures)) c.in_ok-bars.ensures.each
    (subst (λ (n : ℕ). All (Joins n) c.in_ok-arrows.arrows.items) (ap length c.deref-5.ensures.value) c.in_ok-arrows.ensures)
