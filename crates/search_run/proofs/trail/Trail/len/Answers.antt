use Rattle.std.proofs.Common.{◌∙◌, List, length, ap, sym}
use Rattle.search_places.specs.declared.steps.Done.{Done}
use Rattle.search_run.proofs.TrailLemmas.{one_each}
use Rattle.search_run.proofs.trail.Trail.len.Goals as goal

pub returns : goal.returns
returns c =
    let t = c.self.inside in
    c.len.ensures ∙ t.marks.ok.0 ∙ sym (one_each t.marks.items t.requests.items t.bytes.items) ∙ ap (λ (ds : List Done). length ds) c.self.view_is
