use Rattle.std.proofs.Common.{◌∙◌, ◌++◌, List, ℕ, ap, ap₂}
use Rattle.search_engine.specs.Kept.{ended, kept_of}
use Rattle.search_engine.proofs.KeepingLemmas.{kept-twice}
use Rattle.search_engine.proofs.keeping.KeptText.end_line.Goals as goal

pub returns-clause-text : goal.returns-clause-text
returns-clause-text c =
    let line = c.args.self.now.line.items ++ c.args.tail.now in
    c.in_ok-put_line.ensures
    ∙ ap₂ (λ (t l : List ℕ). t ++ ended l) c.keep.ensures.text (ap kept_of (c.as_slice.ensures.value ∙ c.keep.ensures.line) ∙ kept-twice line)
