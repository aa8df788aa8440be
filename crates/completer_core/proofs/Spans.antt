-- Byte Count and Lower Address from the byte enables of the first and last DW alone.
use Rattle.std.proofs.Common.{◌≡◌, ◌≢◌, ℕ, zero, suc, ◌+◌, ◌-◌, ◌*◌, ◌/◌, ◌%◌, ◌<◌, ◌≤◌, Bool, true, false, List, [], ◌∷◌, ◌++◌, length, refl, ap, ◌∙◌, inl, inr, arith, length-append}
use Rattle.std.specs.Prelude.{◌==◌, IsTrue, reverse, replicate, ◌⊎◌}
use Rattle.std.proofs.lemmas.Bool.Decides.{nat_tests}
use Rattle.std.proofs.lemmas.List.{reverse-append, length-replicate}
use Rattle.tlp_core.specs.Enables.{dw_enables, enables, are_enables}
use Rattle.completer_core.specs.Span.{lead, is_empty, span, low_address}

-- a DW with an enabled byte
pub some_enabled : (f : ℕ) → f < 16 → f ≢ 0 → lead (dw_enables f) < 4
some_enabled f h n = grind (arith, nat_tests)

pub some_enabled_behind : (f : ℕ) → f < 16 → f ≢ 0 → lead (reverse (dw_enables f)) < 4
some_enabled_behind f h n = grind (arith, nat_tests)

-- the rest does not matter behind an enabled byte
lead_front : (a b c d : Bool) (rest : List Bool) → lead (a ∷ b ∷ c ∷ d ∷ []) < 4 → lead (a ∷ b ∷ c ∷ d ∷ rest) ≡ lead (a ∷ b ∷ c ∷ d ∷ [])
lead_front true b c d rest h = refl
lead_front false true c d rest h = refl
lead_front false false true d rest h = refl
lead_front false false false true rest h = refl
lead_front false false false false rest h = omega (arith, h)

-- an access of one DW
one_dw : (f l : ℕ) → enables 1 f l ≡ dw_enables f
unfolding enables
one_dw f l = refl

-- an access of more
more_dws : (dw f l : ℕ) → 2 ≤ dw → enables dw f l ≡ dw_enables f ++ replicate (4 * (dw - 2)) true ++ dw_enables l
unfolding enables
more_dws dw f l h = grind (arith, nat_tests)

-- the rule of byte enables, at one DW and at more
pub not_one : (dw a f l : ℕ) → dw ≢ 1 → IsTrue (are_enables dw a f l) → (f ≢ 0) × (l ≢ 0)
not_one dw a f l n h = grind (arith, nat_tests)

is_one : (dw a f l : ℕ) → IsTrue (are_enables dw a f l) → f ≡ 0 → dw ≡ 1
is_one dw a f l h e = grind (arith, nat_tests)

pub span_none : (dw a f l : ℕ) → IsTrue (are_enables dw a f l) → f ≡ 0 → span (enables dw f l) ≡ 1
span_none dw a f l h e = rw (is_one dw a f l h e, one_dw f l, e) refl

pub address_none : (dw a f l : ℕ) → IsTrue (are_enables dw a f l) → f ≡ 0 → low_address a (enables dw f l) ≡ a % 128
address_none dw a f l h e = rw (is_one dw a f l h e, one_dw f l, e) refl

pub one_or_more : (dw : ℕ) → 1 ≤ dw → (dw ≡ 1) ⊎ (2 ≤ dw)
one_or_more zero h = absurd (omega (arith, h))
one_or_more (suc zero) h = inl refl
one_or_more (suc (suc n)) h = inr (omega arith)

-- where the first byte of the first DW is found, it is that of the whole access
lead_by : (dw f l : ℕ) → f < 16 → f ≢ 0 → (dw ≡ 1) ⊎ (2 ≤ dw) → lead (enables dw f l) ≡ lead (dw_enables f)
lead_by dw f l lt n (inl e) = rw e (ap lead (one_dw f l))
lead_by dw f l lt n (inr h) = ap lead (more_dws dw f l h) ∙ lead_front (f % 2 == 1) (f / 2 % 2 == 1) (f / 4 % 2 == 1) (f / 8 % 2 == 1) (replicate (4 * (dw - 2)) true ++ dw_enables l) (some_enabled f lt n)

lead_behind : (dw f l : ℕ) → 2 ≤ dw → l < 16 → l ≢ 0 → lead (reverse (enables dw f l)) ≡ lead (reverse (dw_enables l))
lead_behind dw f l h lt n =
    let all : reverse (enables dw f l) ≡ reverse (dw_enables l) ++ reverse (dw_enables f ++ replicate (4 * (dw - 2)) true) =
    ap reverse (more_dws dw f l h) ∙ reverse-append (dw_enables f ++ replicate (4 * (dw - 2)) true) (dw_enables l) in
    ap lead all ∙ lead_front (l / 8 % 2 == 1) (l / 4 % 2 == 1) (l / 2 % 2 == 1) (l % 2 == 1) (reverse (dw_enables f ++ replicate (4 * (dw - 2)) true)) (some_enabled_behind l lt n)

length_more : (dw f l : ℕ) → 2 ≤ dw → length (enables dw f l) ≡ 4 * dw
length_more dw f l h =
    let e : length (replicate (4 * (dw - 2)) true ++ dw_enables l) ≡ 4 * (dw - 2) + 4 =
    length-append (replicate (4 * (dw - 2)) true) (dw_enables l) ∙ ap (λ n. n + 4) (length-replicate (4 * (dw - 2)) true) in
    ap length (more_dws dw f l h) ∙ omega (arith, e, h)

pub length_by : (dw f l : ℕ) → (dw ≡ 1) ⊎ (2 ≤ dw) → length (enables dw f l) ≡ 4 * dw
length_by dw f l (inl e) = rw e (ap length (one_dw f l))
length_by dw f l (inr h) = length_more dw f l h

-- a DW at least, and a byte of the first one enabled
is_not_empty : (es : List Bool) (n m : ℕ) → lead es ≡ m → m < 4 → length es ≡ 4 * n → 1 ≤ n → is_empty es ≡ false
is_not_empty es n m e1 lt e2 h = grind (arith, nat_tests)

span_is : (es : List Bool) (n m k : ℕ) → lead es ≡ m → lead (reverse es) ≡ k → length es ≡ 4 * n → m < 4 → 1 ≤ n → 4 * n - m - k ≡ span es
span_is es n m k e1 e2 e3 lt h = rw (is_not_empty es n m e1 lt e3 h, e1, e2, e3) refl

low_is : (a : ℕ) (es : List Bool) (n m : ℕ) → lead es ≡ m → length es ≡ 4 * n → m < 4 → 1 ≤ n → a % 4 ≡ 0 → a % 128 + m ≡ low_address a es
low_is a es n m e1 e2 lt h e = rw (is_not_empty es n m e1 lt e2 h, e1) (omega (arith, e, lt))

pub span_one : (dw f l : ℕ) → f < 16 → f ≢ 0 → dw ≡ 1 → 4 * dw - lead (dw_enables f) - lead (reverse (dw_enables f)) ≡ span (enables dw f l)
span_one dw f l hf n e = span_is (enables dw f l) dw (lead (dw_enables f)) (lead (reverse (dw_enables f))) (lead_by dw f l hf n (inl e)) (rw e (ap (λ es. lead (reverse es)) (one_dw f l))) (length_by dw f l (inl e)) (some_enabled f hf n) (omega (arith, e))

pub span_more : (dw a f l : ℕ) → f < 16 → l < 16 → f ≢ 0 → 1 ≤ dw → dw ≢ 1 → IsTrue (are_enables dw a f l) → 4 * dw - lead (dw_enables f) - lead (reverse (dw_enables l)) ≡ span (enables dw f l)
span_more dw a f l hf hl n some more ok =
    let h : 2 ≤ dw = grind (arith, some, more) in
    span_is (enables dw f l) dw (lead (dw_enables f)) (lead (reverse (dw_enables l))) (lead_by dw f l hf n (inr h)) (lead_behind dw f l h hl (not_one dw a f l more ok).1) (length_by dw f l (inr h)) (some_enabled f hf n) some

pub address_some : (dw a f l : ℕ) → 1 ≤ dw → f < 16 → f ≢ 0 → a % 4 ≡ 0 → a % 128 + lead (dw_enables f) ≡ low_address a (enables dw f l)
address_some dw a f l h hf n e = low_is a (enables dw f l) dw (lead (dw_enables f)) (lead_by dw f l hf n (one_or_more dw h)) (length_by dw f l (one_or_more dw h)) (some_enabled f hf n) h e
