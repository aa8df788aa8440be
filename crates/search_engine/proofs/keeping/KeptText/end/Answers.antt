use Rattle.std.proofs.Common.{◌∙◌, ◌++◌, List, ℕ, ap}
use Rattle.search_engine.proofs.KeepingLemmas.{keeps-end}
use Rattle.search_engine.proofs.keeping.KeptText.end.Goals as goal

pub returns : goal.returns
returns c = λ read s.
    let text = c.args.self.text.items in
    keeps-end read text _ c.args.self.line.items s
    (c.in_ok-extend_from_slice.ensures.items ∙ ap (λ (t : List ℕ). text ++ t) c.as_slice.ensures.value)
