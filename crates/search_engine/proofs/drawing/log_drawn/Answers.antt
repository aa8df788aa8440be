use Rattle.std.proofs.Common.{◌≡◌, ◌∙◌, ◌-◌, ◌++◌, ℕ, List, ap, subst}
use Rattle.history_words.specs.TraceView.{TraceView}
use Rattle.search_reasons.specs.Lines.{lines_in}
use Rattle.search_picture.specs.Picture.{scene_text}
use Rattle.search_scene.specs.Scenes.{Shows}
use Rattle.search_engine.proofs.drawing.log_drawn.Goals as goal

pub returns : goal.returns
returns c = λ t is.
    let same : c.in-Ok.log ≡ t = cc (is, c.in-Ok.ensures.ok) in
    let of_log : c.case_of.result.read.seen.now ≡ t = c.case_of.ensures.seen ∙ same in
    let shows : Shows c.case_of.result.read.seen.now (c.case_of.result.read.count - 1) (lines_in c.args.text.now) c.in_ok-scene.scene = c.in_ok-scene.ensures in (
      c.in_ok-scene.scene,
      subst (λ (n : ℕ). Shows t (n - 1) (lines_in c.args.text.now) c.in_ok-scene.scene) c.case_of.ensures.count
          (subst (λ (u : TraceView). Shows u (c.case_of.result.read.count - 1) (lines_in c.args.text.now) c.in_ok-scene.scene) of_log shows),
      c.in_ok-put_scene.ensures.ok ∙ ap (λ (xs : List ℕ). xs ++ scene_text c.in_ok-scene.scene) c.new-picture.ensures.items,
    )
