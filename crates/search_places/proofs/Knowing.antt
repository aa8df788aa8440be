-- Keys of dead states, one more of them, and keys that are equal.
use Rattle.std.proofs.Common.{◌≡◌, ◌∙◌, ◌≤◌, ◌+◌, ◌-◌, ◌*◌, Bool, true, List, ◌∷◌, [], ◌++◌, ℕ, length, take, drop, subst, sym, ap, append_assoc, arith}
use Rattle.std.specs.Prelude.{◌&&◌, ◌==◌, nat_eq, replicate}
use Rattle.std.proofs.lemmas.List.{take_all, take-append-le, drop-append-le, append-nil, length-drop, replicate-append-replicate, take-append-drop}
use Rattle.std.specs.Cmp.Lexicographic.{pointwise}
use Rattle.std.specs.List.{All}
use Rattle.std.proofs.lemmas.Bool.{and_parts, eqb-true}
use Rattle.std.proofs.lemmas.Slice.Eq.{bytes_eq-Decides}
use Rattle.std.proofs.lemmas.List.Elements.{All-push}
use Rattle.log_runs.specs.LogView.{LogView}
use Rattle.log_runs.specs.Runs.{Dead}
use Rattle.search_places.specs.declared.memo.Key.{Key}
use Rattle.search_places.specs.declared.memo.Entry.{Entry}
use Rattle.search_places.specs.PlaceView.{PlaceView}
use Rattle.search_places.specs.Pending.{IsTable}
use Rattle.search_places.specs.Places.{IsPlace}
use Rattle.search_places.specs.Known.{laid, whole, IsDeadKey, IsDeadEntry}
use Rattle.search_places.proofs.Tables.{table_unique}

pub pushed : (log : LogView) (es ns : List Entry) (k : Key) (next : ℕ) → ns ≡ es ++ (record { key = k; next = next }) ∷ [] → All (IsDeadEntry log) es → IsDeadKey log k → All (IsDeadEntry log) ns
pushed log es ns k next e all dead = subst (All (IsDeadEntry log)) (sym e) (All-push (IsDeadEntry log) es (record { key = k; next = next }) all dead)

-- what `==` of two keys computes
abbrev pub same_key : Key → Key → Bool
same_key p q =
    (p.event == q.event) && (pointwise nat_eq p.pending.items q.pending.items && (pointwise nat_eq p.gaps.items q.gaps.items && (pointwise nat_eq p.bytes.items q.bytes.items && (p.after == q.after))))

-- a key that is equal to a dead one is dead
pub dead_alike : (log : LogView) (p q : Key) → same_key p q ≡ true → IsDeadKey log p → IsDeadKey log q
dead_alike log p q e dead =
    let gaps = pointwise nat_eq p.gaps.items q.gaps.items in
    let blocks = pointwise nat_eq p.bytes.items q.bytes.items in
    let (en, rest) = and_parts (p.event == q.event) (pointwise nat_eq p.pending.items q.pending.items && (gaps && (blocks && (p.after == q.after)))) e in
    let (ep, zeros) = and_parts (pointwise nat_eq p.pending.items q.pending.items) (gaps && (blocks && (p.after == q.after))) rest in
    let (ef, most) = and_parts gaps (blocks && (p.after == q.after)) zeros in
    let (eb, el) = and_parts blocks (p.after == q.after) most in
    let one : p.event ≡ q.event = eqb-true p.event q.event en in
    let two : p.pending.items ≡ q.pending.items = (bytes_eq-Decides p.pending.items q.pending.items).0 ep in
    let three : p.gaps.items ≡ q.gaps.items = (bytes_eq-Decides p.gaps.items q.gaps.items).0 ef in
    let four : p.bytes.items ≡ q.bytes.items = (bytes_eq-Decides p.bytes.items q.bytes.items).0 eb in
    let five : p.after ≡ q.after = eqb-true p.after q.after el in
    λ acted t. rw (← one, ← three, ← four, ← five) (dead acted (subst (λ ps. IsTable log p.event ps acted) (sym two) (subst (λ n. IsTable log n q.pending.items acted) (sym one) t)))

-- one block more behind zeros
pub laid_more : (gaps bytes : List ℕ) (gap : ℕ) (block : List ℕ) → length bytes ≡ 64 * length gaps → length block ≡ 64
    → laid (gaps ++ gap ∷ []) (bytes ++ block) ≡ laid gaps bytes ++ replicate gap 0 ++ block
laid_more [] [] gap block e full =
    let all : take 64 block ≡ block = rw (← full) (take_all (length block) block (omega arith)) in
    rw all (append-nil (replicate gap 0 ++ block))
laid_more [] (x ∷ bytes) gap block e full = absurd (omega (arith, e))
laid_more (g ∷ gaps) bytes gap block e full =
    let long : 64 ≤ length bytes = omega (arith, e) in
    let rest : length (drop 64 bytes) ≡ 64 * length gaps = let h = length-drop 64 bytes in omega (arith, h, e, long) in
    let more = laid_more gaps (drop 64 bytes) gap block rest full in
    let old = replicate g 0 ++ take 64 bytes in
    let old_laid = laid gaps (drop 64 bytes) in
    ap (λ ys. replicate g 0 ++ ys ++ laid (gaps ++ gap ∷ []) (drop 64 (bytes ++ block))) (take-append-le 64 bytes block long)
    ∙ ap (λ ys. replicate g 0 ++ take 64 bytes ++ laid (gaps ++ gap ∷ []) ys) (drop-append-le 64 bytes block long)
    ∙ ap (λ ys. replicate g 0 ++ take 64 bytes ++ ys) more
    ∙ sym (append_assoc old (old_laid ++ replicate gap 0) block)
    ∙ ap (λ ys. ys ++ block) (sym (append_assoc old old_laid (replicate gap 0)))

-- a block of zeros more at the end
pub zeros_more : (xs block : List ℕ) (n m : ℕ) → m ≡ n + 64 → block ≡ replicate 64 0 → xs ++ replicate m 0 ≡ xs ++ replicate n 0 ++ block
zeros_more xs block n m e zeros =
    ap (λ k. xs ++ replicate k 0) e ∙ ap (λ ys. xs ++ ys) (sym (replicate-append-replicate n 64 0))
    ∙ sym (append_assoc xs (replicate n 0) (replicate 64 0)) ∙ ap (λ ys. xs ++ replicate n 0 ++ ys) (sym zeros)

-- a block more behind the zeros at the end
pub block_more : (gaps bytes more later : List ℕ) (gap : ℕ) (block : List ℕ) → length bytes ≡ 64 * length gaps → length block ≡ 64
    → more ≡ gaps ++ gap ∷ [] → later ≡ bytes ++ block → laid more later ++ replicate 0 0 ≡ laid gaps bytes ++ replicate gap 0 ++ block
block_more gaps bytes more later gap block e full is_more is_later =
    append-nil (laid more later) ∙ ap (λ gs. laid gs later) is_more ∙ ap (λ xs. laid (gaps ++ gap ∷ []) xs) is_later
    ∙ laid_more gaps bytes gap block e full

-- a block of what is left
pub block_behind : (xs ys rest all : List ℕ) → xs ++ rest ≡ all → ys ≡ xs ++ take 64 rest → ys ++ take (length rest - 64) (drop 64 rest) ≡ all
block_behind xs ys rest all e is =
    ap (λ n. ys ++ take n (drop 64 rest)) (sym (length-drop 64 rest)) ∙ ap (λ zs. ys ++ zs) (take_all (length (drop 64 rest)) (drop 64 rest) (omega arith))
    ∙ ap (λ zs. zs ++ drop 64 rest) is ∙ append_assoc xs (take 64 rest) (drop 64 rest) ∙ ap (λ zs. xs ++ zs) (take-append-drop 64 rest) ∙ e

-- a place is dead if its key is
pub known_dead : (log : LogView) (p : PlaceView) (k : Key) → k.event ≡ p.state.event → k.pending.items ≡ p.pending → whole k ≡ p.state.bytes → IsPlace log p → IsDeadKey log k → Dead log p.state
known_dead log p k event pending bytes place dead =
    let table : IsTable log k.event k.pending.items p.state.acted =
    subst (λ n. IsTable log n k.pending.items p.state.acted) (sym event) (subst (λ ps. IsTable log p.state.event ps p.state.acted) (sym pending) place.table) in
    rw (← event, ← bytes) (dead p.state.acted table)

-- the key of a dead place
pub key_of_dead : (log : LogView) (p : PlaceView) (k : Key) → k.event ≡ p.state.event → k.pending.items ≡ p.pending → whole k ≡ p.state.bytes
    → IsPlace log p → Dead log p.state → IsDeadKey log k
key_of_dead log p k event pending bytes place dead acted t =
    let table : IsTable log p.state.event p.pending acted =
    subst (λ ps. IsTable log p.state.event ps acted) pending (subst (λ n. IsTable log n k.pending.items acted) event t) in
    let same : acted ≡ p.state.acted = table_unique log p.state.event p.pending acted p.state.acted table place.table in
    rw (event, bytes, same) dead
