-- Which bytes of several DW are enabled.
use Rattle.std.proofs.Common.{◌≡◌, ◌∙◌, ℕ, zero, suc, ◌+◌, ◌-◌, ◌*◌, ◌/◌, ◌<◌, ◌≤◌, true, false, eqb, ◌++◌, length, get_or, replicate, refl, sym, ap, arith, length-append}
use Rattle.std.proofs.lemmas.List.{length-replicate, get_or_append_left, get_or-append_right}
use Rattle.std.proofs.lemmas.Bool.{ne_eqb}
use Rattle.tlp_core.specs.Enables.{dw_enables, enables}
use Rattle.seq_memory.specs.Step.{is_enabled}

pub several : (dw f l : ℕ) → (dw ≡ 1 → ⊥) → enables dw f l ≡ (dw_enables f ++ replicate (4 * (dw - 2)) true) ++ dw_enables l
unfolding enables
several dw f l n =
    let not_one : eqb dw 1 ≡ false = ne_eqb dw 1 n in
    rw not_one refl

pub of_one : (dw f l at : ℕ) → dw ≡ 1 → get_or (dw_enables f) at false ≡ is_enabled dw f l at
unfolding enables
of_one dw f l at e = rw e refl

pub long : (f n : ℕ) → length (dw_enables f ++ replicate n true) ≡ 4 + n
long f n = length-append (dw_enables f) (replicate n true) ∙ ap (λ k. 4 + k) (length-replicate n true)

all_true : (n k : ℕ) → k < n → get_or (replicate n true) k false ≡ true
all_true zero k l = absurd (omega (arith, l))
all_true (suc n) zero l = refl
all_true (suc n) (suc k) l = all_true n k (omega (arith, l))

pub of_first : (dw f l at : ℕ) → (dw ≡ 1 → ⊥) → at < 4 → get_or (dw_enables f) at false ≡ is_enabled dw f l at
of_first dw f l at n low =
    let front = dw_enables f ++ replicate (4 * (dw - 2)) true in
    sym (ap (λ es. get_or es at false) (several dw f l n)
    ∙ get_or_append_left front (dw_enables l) false at (omega (arith, low, long f (4 * (dw - 2))))
    ∙ get_or_append_left (dw_enables f) (replicate (4 * (dw - 2)) true) false at low)

pub of_middle : (dw f l at : ℕ) → (dw ≡ 1 → ⊥) → 4 ≤ at → (at - 4) / 4 < dw - 2 → true ≡ is_enabled dw f l at
of_middle dw f l at n low high =
    let front = dw_enables f ++ replicate (4 * (dw - 2)) true in
    let inner : at - 4 < 4 * (dw - 2) = omega (arith, high) in
    sym (ap (λ es. get_or es at false) (several dw f l n)
    ∙ get_or_append_left front (dw_enables l) false at (omega (arith, inner, low, long f (4 * (dw - 2))))
    ∙ get_or-append_right (dw_enables f) (replicate (4 * (dw - 2)) true) 4 at false refl low
    ∙ all_true (4 * (dw - 2)) (at - 4) inner)

pub of_last : (dw f l at : ℕ) → (dw ≡ 1 → ⊥) → 4 ≤ at → dw - 2 ≤ (at - 4) / 4 → get_or (dw_enables l) (at - 4 - 4 * (dw - 2)) false ≡ is_enabled dw f l at
of_last dw f l at n low high =
    let front = dw_enables f ++ replicate (4 * (dw - 2)) true in
    let inner : 4 * (dw - 2) ≤ at - 4 = omega (arith, high) in
    sym (ap (λ es. get_or es at false) (several dw f l n)
    ∙ get_or-append_right front (dw_enables l) (4 + 4 * (dw - 2)) at false (long f (4 * (dw - 2))) (omega (arith, inner, low))
    ∙ ap (λ k. get_or (dw_enables l) k false) (omega (arith, inner, low)))
