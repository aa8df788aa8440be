use Rattle.std.proofs.Common.{◌≡◌, ◌∙◌, ℕ, List, length, ◌<◌, sym, subst}
use Rattle.std.specs.Prelude.{slice_index}
use Rattle.search_words.proofs.RoleLemmas.{zeros_refuse}
use Rattle.search_words.proofs.roles.changes_zeros.Goals as goal

pub returns : goal.returns
returns c = λ yes base block n answered.
    let h = c.has_byte.ensures yes in
    let d = c.in-Data.data in
    let inside = subst (λ (xs : List ℕ). h.0 < length xs) c.as_slice.ensures.value h.1 in
    let other = subst (λ (xs : List ℕ). slice_index xs h.0 ≡ 0 → ⊥) c.as_slice.ensures.value h.2 in
    zeros_refuse c.what_is_needed_is_there.ensures base block n h.0 c.args.op.now d (sym c.is_atomic.ensures ∙ c.if-not-is_atomic.false) inside other
    (answered ∙ c.in-Data.is)
