-- What a request can be answered.
use Rattle.std.proofs.Common.{◌≡◌, ◌∙◌, ◌⊎◌, inl, inr, ℕ, zero, suc, ◌+◌, ◌-◌, ◌*◌, ◌<◌, ◌≤◌, Bool, true, false, List, [], ◌∷◌, ◌++◌, length, get_or, replicate, None, refl, sym, ap, subst, arith, length-append}
use Rattle.std.specs.Prelude.{slice_index}
use Rattle.std.proofs.lemmas.Bool.{cases_eq}
use Rattle.std.proofs.lemmas.List.{length-replicate}
use Rattle.arrayvec.specs.ArrayVec.{ArrayVec}
use Rattle.tlp_core.specs.Ops.{Op}
use Rattle.tlp_core.specs.declared.operation.OpOf.TheVariants as ops
use Rattle.tlp_core.specs.Enables.{dw_enables, enables}
use Rattle.tlp_core.specs.Operation.{address_of, count_of}
use Rattle.seq_memory.specs.declared.reply.ReplyOf.TheVariants as replies
use Rattle.seq_memory.specs.Step.{merged, bytes_at, read_back, answer, answer_by, refusal, data_of, is_enabled}
use Rattle.search_effects.specs.Effects.{AreSameBut, is_needed}
use Rattle.search_effects.proofs.Places.{inside, data_served, byte_there, length_place}
use Rattle.search_effects.proofs.Apart.{answers_alike}
use Rattle.search_effects.proofs.Enabling.{several, long}
use Rattle.search_effects.proofs.Needs.{same_items}
use Rattle.search_effects.proofs.Staying.{merged_disabled}

-- the enabled bytes decide what is merged
merged_same : (es : List Bool) (xs ys zs : List ℕ) → length xs ≡ length ys → ((k : ℕ) → k < length xs → get_or es k false ≡ true → get_or xs k 0 ≡ get_or ys k 0) → merged es xs zs ≡ merged es ys zs
merged_same [] xs ys zs size same = refl
merged_same (b ∷ es) [] [] zs size same = refl
merged_same (b ∷ es) [] (y ∷ ys) zs size same = absurd (omega (arith, size))
merged_same (b ∷ es) (x ∷ xs) [] zs size same = absurd (omega (arith, size))
merged_same (b ∷ es) (x ∷ xs) (y ∷ ys) [] size same = refl
merged_same (true ∷ es) (x ∷ xs) (y ∷ ys) (z ∷ zs) size same =
    let here : x ≡ y = same 0 (omega arith) refl in
    let rest = merged_same es xs ys zs (omega (arith, size)) (λ k l e. same (suc k) (omega (arith, l)) e) in
    rw (here, rest) refl
merged_same (false ∷ es) (x ∷ xs) (y ∷ ys) (z ∷ zs) size same =
    let rest = merged_same es xs ys zs (omega (arith, size)) (λ k l e. same (suc k) (omega (arith, l)) e) in
    rw rest refl

-- ---- reads that need no byte of another

Away : Op → Op → Type 0
Away one other = (at : ℕ) → at < count_of one → is_needed one at ≡ true → (address_of one + at < address_of other) ⊎ (address_of other + count_of other ≤ address_of one + at)

read_same : (base block a dw f l : ℕ) (m n : List ℕ) (other : Op) → Away (ops.Read a dw f l) other → AreSameBut base other m n
    → answer base block n (ops.Read a dw f l) ≡ answer base block m (ops.Read a dw f l)
unfolding Away
read_same base block a dw f l m n other away same =
    let op = ops.Read a dw f l in
    let i = a - base in
    let c = 4 * dw in
    let back : List ℕ → _ = λ xs. read_back op xs in
    ap (λ z. answer_by (refusal base z block op) (read_back op (bytes_at n i c))) same.size
    ∙ answers_alike (refusal base (length m) block op) (read_back op (bytes_at n i c)) (read_back op (bytes_at m i c)) (λ served.
    let (low, high) = inside base block (length m) op served in
    let in_m : length (bytes_at m i c) ≡ c = length_place m i c (omega (arith, low, high)) in
    let in_n : length (bytes_at n i c) ≡ c = length_place n i c (omega (arith, low, high, same.size)) in
    ap data_of (merged_same (enables dw f l) (bytes_at n i c) (bytes_at m i c) (replicate c 0) (in_n ∙ sym in_m) (λ k h e.
    let below : k < c = omega (arith, h, in_n) in
    let out : (base + (i + k) < address_of other) ⊎ (address_of other + count_of other ≤ base + (i + k)) = elim (away k below e) [
      | inl before ↦ inl (omega (arith, low, before))
      | inr behind ↦ inr (omega (arith, low, behind))
    ] in
    byte_there n i c k below ∙ same.others (i + k) out ∙ sym (byte_there m i c k below))))

pub seen_same : (base block : ℕ) (m n : List ℕ) (one other : Op) → ((a : ℕ) × (d : ℕ) × (f : ℕ) × (l : ℕ) × (one ≡ ops.Read a d f l))
    → ((at : ℕ) → at < count_of one → is_needed one at ≡ true → (address_of one + at < address_of other) ⊎ (address_of other + count_of other ≤ address_of one + at))
    → AreSameBut base other m n → answer base block n one ≡ answer base block m one
unfolding Away
seen_same base block m n one other (a, d, f, l, is) away same =
    subst (λ o. answer base block n o ≡ answer base block m o) (sym is)
    (read_same base block a d f l m n other (subst (λ o. Away o other) is away) same)

-- ---- data that no memory gives

merged_length : (es : List Bool) (xs ys : List ℕ) (c : ℕ) → length xs ≡ c → length ys ≡ c → c ≤ length es → length (merged es xs ys) ≡ c
merged_length [] xs ys c lx ly le = omega (arith, le)
merged_length (b ∷ es) [] ys c lx ly le = lx
merged_length (b ∷ es) (x ∷ xs) [] c lx ly le = ly
merged_length (b ∷ es) (x ∷ xs) (y ∷ ys) c lx ly le =
    let inner = merged_length es xs ys (length xs) refl (omega (arith, lx, ly)) (omega (arith, lx, le)) in
    omega (arith, inner, lx)

enough_one : (dw f l : ℕ) → dw ≡ 1 → 4 * dw ≤ length (enables dw f l)
unfolding enables
enough_one dw f l e = rw e (omega arith)

enough : (dw f l : ℕ) → 4 * dw ≤ length (enables dw f l)
enough dw f l = elim (cases_eq dw 1) [
  | inl one ↦ enough_one dw f l one
  | inr more ↦
      let e : length (enables dw f l) ≡ 4 + 4 * (dw - 2) + 4 =
      ap length (several dw f l more) ∙ length-append (dw_enables f ++ replicate (4 * (dw - 2)) true) (dw_enables l) ∙ ap (λ n. n + 4) (long f (4 * (dw - 2))) in
      omega (arith, e)
]

given : (op : Op) (base block : ℕ) (m : List ℕ) (d : ArrayVec ℕ) → answer base block m op ≡ replies.Data d
    → (length (bytes_at m (address_of op - base) (count_of op)) ≡ count_of op) × (read_back op (bytes_at m (address_of op - base) (count_of op)) ≡ replies.Data d)
given op base block m d e =
    let (served, there) = data_served (refusal base (length m) block op) (read_back op (bytes_at m (address_of op - base) (count_of op))) d e in
    let (low, high) = inside base block (length m) op served in
    (length_place m (address_of op - base) (count_of op) (omega (arith, low, high)), there)

pub data_length : (op : Op) (base block : ℕ) (m : List ℕ) (d : ArrayVec ℕ) → answer base block m op ≡ replies.Data d → length d.items ≡ count_of op
data_length (ops.Read a dw f l) base block m d e =
    let (size, there) = given (ops.Read a dw f l) base block m d e in
    let place = bytes_at m (a - base) (4 * dw) in
    sym (ap length (same_items (merged (enables dw f l) place (replicate (4 * dw) 0)) d there))
    ∙ merged_length (enables dw f l) place (replicate (4 * dw) 0) (4 * dw) size (length-replicate {A = ℕ} (4 * dw) 0) (enough dw f l)
data_length (ops.Write a f l bytes) base block m d e =
    let (size, there) = given (ops.Write a f l bytes) base block m d e in
    absurd (cc)
data_length (ops.FetchAdd a w x) base block m d e =
    let (size, there) = given (ops.FetchAdd a w x) base block m d e in
    sym (ap length (same_items (bytes_at m (a - base) (count_of (ops.FetchAdd a w x))) d there)) ∙ size
data_length (ops.Swap a w x) base block m d e =
    let (size, there) = given (ops.Swap a w x) base block m d e in
    sym (ap length (same_items (bytes_at m (a - base) (count_of (ops.Swap a w x))) d there)) ∙ size
data_length (ops.Cas a w x y) base block m d e =
    let (size, there) = given (ops.Cas a w x y) base block m d e in
    sym (ap length (same_items (bytes_at m (a - base) (count_of (ops.Cas a w x y))) d there)) ∙ size

zeros_at : (n k : ℕ) → ◌≡◌ {A = ℕ} (get_or (replicate n 0) k 0) 0
zeros_at zero k = refl
zeros_at (suc n) zero = refl
zeros_at (suc n) (suc k) = zeros_at n k

-- a byte that a read doesn't need is 0
needless_zero : (base block a dw f l at : ℕ) (m : List ℕ) (d : ArrayVec ℕ) → answer base block m (ops.Read a dw f l) ≡ replies.Data d
    → at < length d.items → is_needed (ops.Read a dw f l) at ≡ false → slice_index d.items at ≡ 0
needless_zero base block a dw f l at m d e h out =
    let (size, there) = given (ops.Read a dw f l) base block m d e in
    let place = bytes_at m (a - base) (4 * dw) in
    let same = same_items (merged (enables dw f l) place (replicate (4 * dw) 0)) d there in
    sym (ap (λ xs. get_or xs at 0) same)
    ∙ merged_disabled (enables dw f l) place (replicate (4 * dw) 0) at out (subst (λ xs. at < length xs) (sym same) h)
    ∙ zeros_at (4 * dw) at

pub needless : (op : Op) (seen : List ℕ) → ((a : ℕ) × (d : ℕ) × (f : ℕ) × (l : ℕ) × (op ≡ ops.Read a d f l))
    → ((at : ℕ) × (at < length seen) × (is_needed op at ≡ false) × (slice_index seen at ≡ 0 → ⊥))
    → (base block : ℕ) (m : List ℕ) (d : ArrayVec ℕ) → d.items ≡ seen → answer base block m op ≡ replies.Data d → ⊥
needless op seen (a, dw, f, l, is) (at, h, out, other) base block m d items e =
    other (sym (ap (λ xs. slice_index xs at) items)
    ∙ needless_zero base block a dw f l at m d (subst (λ o. answer base block m o ≡ replies.Data d) is e) (subst (λ xs. at < length xs) (sym items) h) (subst (λ o. is_needed o at ≡ false) is out))
