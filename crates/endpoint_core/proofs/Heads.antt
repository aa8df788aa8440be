-- The head of the queue.
use Rattle.std.proofs.Common.{◌≡◌, ◌≢◌, ℕ, ◌<◌, false, List, [], ◌∷◌, length, slice_index_or, slice_set, inl, inr, refl, sym, subst, arith}
use Rattle.std.specs.Prelude.{◌==◌, ◌⊎◌}
use Rattle.std.proofs.lemmas.Bool.Decides.{nat_tests}
use Rattle.tlp_core.specs.TlpView.{TlpView}
use Rattle.endpoint_core.specs.declared.waiting.Waiting.{Waiting}
use Rattle.endpoint_core.specs.declared.waiting.Waiting.TheVariants as waits
use Rattle.endpoint_core.specs.Steps.{advanced, head_behind}
use Rattle.endpoint_core.specs.Blocks.{CanAdvance, CanGoOn, IsCut, gone_on}

is_cut : (n : ℕ) (t : TlpView) → n ≢ 0 → (n ≡ 0) ⊎ IsCut n t → IsCut n t
is_cut n t some (inl e) = absurd (some e)
is_cut n t some (inr c) = c

goes_on : (n : ℕ) (w : Waiting) (ws : List Waiting) → n ≢ 0 → CanAdvance n (w ∷ ws) → CanGoOn n w
goes_on n (waits.Memory t) ws some can = is_cut n t some can
goes_on n (waits.Configuration r) ws some can = tt
goes_on n (waits.Poisoned t) ws some can = tt
goes_on n (waits.Refused d e) ws some can = tt

pub can_go_on : (n : ℕ) (w : Waiting) (ws : List Waiting) → n ≢ 0 → 0 < length ws → w ≡ slice_index_or ws 0 w → CanAdvance n ws → CanGoOn n w
can_go_on n w [] some more is can = absurd (omega (arith, more))
can_go_on n w (x ∷ ws) some more is can = subst (CanGoOn n) (sym is) (goes_on n x ws some can)

behind_head : (n : ℕ) (w : Waiting) (ws : List Waiting) → gone_on n w ∷ ws ≡ head_behind n (w ∷ ws)
behind_head n (waits.Memory t) ws = refl
behind_head n (waits.Configuration r) ws = refl
behind_head n (waits.Poisoned t) ws = refl
behind_head n (waits.Refused d e) ws = refl

at_head : (n : ℕ) (w : Waiting) (ws : List Waiting) → n ≢ 0 → gone_on n w ∷ ws ≡ advanced n (w ∷ ws)
at_head n w ws some =
    let no : (n == 0) ≡ false = grind (arith, nat_tests) in
    rw (no) (behind_head n w ws)

pub head_gone_on : (n : ℕ) (w : Waiting) (ws : List Waiting) → n ≢ 0 → 0 < length ws → w ≡ slice_index_or ws 0 w → slice_set ws 0 (gone_on n w) ≡ advanced n ws
head_gone_on n w [] some more is = absurd (omega (arith, more))
head_gone_on n w (x ∷ ws) some more is = subst (λ (v : Waiting). slice_set (x ∷ ws) 0 (gone_on n v) ≡ advanced n (x ∷ ws)) (sym is) (at_head n x ws some)
