use Rattle.std.proofs.Common.{◌≡◌, ◌∙◌, ℕ, [], true, ap, subst}
use Rattle.std.specs.Prelude.{◌==◌}
use Rattle.search_run.specs.StackView.{StackView}
use Rattle.search_run.proofs.StackLemmas.{empty_so}
use Rattle.search_run.proofs.stack.Stack.is_empty.Goals as goal

pub returns : goal.returns
returns c =
    let s = c.self.inside in
    subst (λ (v : StackView). (c.is_empty.result ≡ true → v.frames ≡ []) × (v.frames ≡ [] → c.is_empty.result ≡ true)) c.self.view_is
    (empty_so s.frames.items s.trail s.notes.items c.is_empty.result (c.is_empty.ensures ∙ ap (λ (n : ℕ). n == 0) s.frames.ok.0))
