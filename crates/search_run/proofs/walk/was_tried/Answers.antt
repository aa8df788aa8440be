use Rattle.std.proofs.Common.{◌-◌, length, take, drop}
use Rattle.std.proofs.lemmas.List.Elements.{All-contains, All-drop, All-take}
use Rattle.search_run.specs.Frames.{LeadsNowhere}
use Rattle.search_run.proofs.FrameLemmas.{noted_dead}
use Rattle.search_run.proofs.walk.was_tried.Goals as goal

pub returns : goal.returns
returns c = λ so log stands.
    let walk = c.args.walk.now in
    let xs = c.noted-noted.result.now in
    let n = c.args.from in
    let P = LeadsNowhere log walk.here.state in
    All-contains P (take (length xs - n) (drop n xs)) c.args.step
    (All-take P (length xs - n) (drop n xs) (All-drop P n xs (noted_dead log walk xs stands c.noted-noted.ensures))) (c.has_step.ensures so)
