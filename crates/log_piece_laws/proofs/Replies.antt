-- The replies of a request's pieces are its reply in parts.
use Rattle.std.proofs.Common.{◌≡◌, ◌∙◌, ℕ, zero, suc, ◌-◌, ◌*◌, ◌≤◌, ◌++◌, ◌∷◌, [], List, Some, None, Bool, true, false, eqb, length, drop, replicate, refl, sym, ap, subst, inl, inr, arith, length-append, length-drop}
use Rattle.std.specs.Prelude.{slice_get, ◌&&◌, if◌then◌else◌}
use Rattle.std.specs.List.{list_all}
use Rattle.std.proofs.lemmas.Bool.{cases_Bool}
use Rattle.std.proofs.lemmas.Bool.Decides.{nat_tests}
use Rattle.std.proofs.lemmas.List.{append-nil, take_at, drop_at, length-replicate, length-take-le}
use Rattle.std.proofs.lemmas.Option.{same_Some}
use Rattle.tlp_core.specs.Ops.{Op}
use Rattle.tlp_core.specs.declared.operation.OpOf.TheVariants as ops
use Rattle.tlp_core.specs.Enables.{dw_enables, enables}
use Rattle.tlp_core.specs.Operation.{is_posted, count_of}
use Rattle.seq_memory.specs.Entries.{Reply}
use Rattle.seq_memory.specs.Limits.{Extent}
use Rattle.seq_memory.specs.Step.{refusal, merged, bytes_at, data_of, answer, answer_by, read_back}
use Rattle.op_pieces.specs.Pieces.{dw_of, cut, is_served, parts, front_of, back_of, returned}
use Rattle.log_pieces.specs.Pieces.{pieces}
use Rattle.log_piece_laws.specs.Device.{together}
use Rattle.log_piece_laws.proofs.Cuts.{cut_by, cut_last}
use Rattle.log_piece_laws.proofs.Serving.{served_lies}

-- ---- data in turn

-- each reply is data, as much as its operation has bytes
abbrev pub AreData : List Op → List Reply → Type 0
AreData xs rs = (j : ℕ) (op : Op) (r : Reply) → slice_get xs j ≡ Some op → slice_get rs j ≡ Some r → (bytes : List ℕ) × (r ≡ data_of bytes) × (length bytes ≡ count_of op)

turns : (op : Op) (xs : List Op) (r : Reply) (rs : List Reply) → length rs ≡ length xs → AreData (op ∷ xs) (r ∷ rs) → parts (op ∷ xs) (data_of (returned (r ∷ rs))) ≡ r ∷ rs
turns op [] r [] many are =
    let (bytes, is, long) = are 0 op r refl refl in
    ap (λ (q : Reply). data_of (returned (q ∷ [])) ∷ []) is ∙ ap (λ v. data_of v ∷ []) (append-nil bytes) ∙ ap (λ (q : Reply). q ∷ []) (sym is)
turns op [] r (s ∷ rs) many are = absurd (omega (arith, many))
turns op (other ∷ xs) r [] many are = absurd (omega (arith, many))
turns op (other ∷ xs) r (s ∷ rs) many are =
    let (bytes, is, long) = are 0 op r refl refl in
    let rest = returned (s ∷ rs) in
    let whole : data_of (returned (r ∷ s ∷ rs)) ≡ data_of (bytes ++ rest) = ap (λ (q : Reply). data_of (returned (q ∷ s ∷ rs))) is in
    let head : front_of (count_of op) (data_of (bytes ++ rest)) ≡ r = ap data_of (take_at bytes rest (count_of op) long) ∙ sym is in
    let tail : back_of (count_of op) (data_of (bytes ++ rest)) ≡ data_of rest = ap data_of (drop_at bytes rest (count_of op) long) in
    ap (parts (op ∷ other ∷ xs)) whole ∙ ap (λ q. q ∷ parts (other ∷ xs) (back_of (count_of op) (data_of (bytes ++ rest)))) head
    ∙ ap (λ q. r ∷ parts (other ∷ xs) q) tail ∙ ap (λ q. r ∷ q) (turns other xs s rs (omega (arith, many)) (λ j o q a b. are (suc j) o q a b))

one_reply : (op : Op) (rs : List Reply) → length rs ≡ 1 → parts (op ∷ []) (together rs) ≡ rs
one_reply op [] many = absurd (omega (arith, many))
one_reply op (r ∷ []) many = refl
one_reply op (r ∷ s ∷ rs) many = absurd (omega (arith, many))

in_turn : (xs : List Op) (rs : List Reply) → length rs ≡ length xs → AreData xs rs → parts xs (together rs) ≡ rs
in_turn [] [] many are = refl
in_turn [] (r ∷ rs) many are = absurd (omega (arith, many))
in_turn (op ∷ xs) [] many are = absurd (omega (arith, many))
in_turn (op ∷ []) (r ∷ []) many are = refl
in_turn (op ∷ []) (r ∷ s ∷ rs) many are = absurd (omega (arith, many))
in_turn (op ∷ other ∷ xs) (r ∷ []) many are = absurd (omega (arith, many))
in_turn (op ∷ other ∷ xs) (r ∷ s ∷ rs) many are = turns op (other ∷ xs) r (s ∷ rs) (omega (arith, many)) are

-- ---- a read

length_enables : (dw f l : ℕ) → 1 ≤ dw → length (enables dw f l) ≡ 4 * dw
unfolding enables
length_enables zero f l h = absurd (omega arith)
length_enables (suc zero) f l h = refl
length_enables (suc (suc n)) f l h =
    let several : eqb (suc (suc n)) 1 ≡ false = grind (arith, nat_tests) in
    rw several (omega (arith, length-append (dw_enables f ++ replicate (4 * (suc (suc n) - 2)) true) (dw_enables l), length-append (dw_enables f) (replicate (4 * (suc (suc n) - 2)) true), length-replicate (4 * (suc (suc n) - 2)) true))

length_merged : (es : List Bool) (xs ys : List ℕ) → length xs ≡ length es → length ys ≡ length es → length (merged es xs ys) ≡ length es
length_merged [] [] ys h1 h2 = refl
length_merged [] (x ∷ xs) ys h1 h2 = refl
length_merged (e ∷ es) [] ys h1 h2 = absurd (cc)
length_merged (e ∷ es) (x ∷ xs) [] h1 h2 = absurd (cc)
length_merged (e ∷ es) (x ∷ xs) (y ∷ ys) h1 h2 = ap suc (length_merged es xs ys (omega arith) (omega arith))

read_data : (x : Extent) (m : List ℕ) (a dw f l : ℕ) → length m ≡ x.size → is_served x (ops.Read a dw f l) ≡ true → (bytes : List ℕ) × (answer x.base x.block m (ops.Read a dw f l) ≡ data_of bytes) × (length bytes ≡ 4 * dw)
read_data x m a dw f l long h =
    let op = ops.Read a dw f l in
    let lie = served_lies x op h in
    let some = lie.some in
    let low = lie.low in
    let high = lie.high in
    let none : refusal x.base (length m) x.block op ≡ None = ap (λ n. refusal x.base n x.block op) long ∙ lie.none in
    let bytes = merged (enables dw f l) (bytes_at m (a - x.base) (4 * dw)) (replicate (4 * dw) 0) in
    let many = length_enables dw f l (omega (arith, some)) in
    let there : length (bytes_at m (a - x.base) (4 * dw)) ≡ length (enables dw f l) =
    length-take-le (4 * dw) (drop (a - x.base) m) (omega (arith, length-drop (a - x.base) m, long, low, high)) ∙ sym many in (
      bytes,
      ap (λ r. answer_by r (read_back op (bytes_at m (a - x.base) (4 * dw)))) none,
      length_merged (enables dw f l) (bytes_at m (a - x.base) (4 * dw)) (replicate (4 * dw) 0) there (length-replicate (4 * dw) 0 ∙ sym many) ∙ many,
    )

record IsRead (op : Op) : Type 0 where
  a : ℕ
  dw : ℕ
  f : ℕ
  l : ℕ
  is : op ≡ ops.Read a dw f l

at_first : (first piece : Op) (xs : List Op) (j : ℕ) → IsRead first → ((k : ℕ) → slice_get xs k ≡ Some piece → IsRead piece) → slice_get (first ∷ xs) j ≡ Some piece → IsRead piece
at_first first piece xs zero here later at = record { a = here.a; dw = here.dw; f = here.f; l = here.l; is = sym (same_Some first piece at) ∙ here.is }
at_first first piece xs (suc k) here later at = later k at

no_more : (op piece : Op) (j : ℕ) → IsRead op → slice_get (op ∷ []) j ≡ Some piece → IsRead piece
no_more op piece j here at = at_first op piece [] j here (λ k there. absurd (cc there)) at

reads : (b n a dw f l : ℕ) (j : ℕ) (piece : Op) → slice_get (cut b n (ops.Read a dw f l)) j ≡ Some piece → IsRead piece
reads b zero a dw f l j piece at =
    no_more (ops.Read a dw f l) piece j (record { a = a; dw = dw; f = f; l = l; is = refl }) (ap (λ (xs : List Op). slice_get xs j) (sym (cut_last b (ops.Read a dw f l))) ∙ at)
reads b (suc n) a dw f l j piece at = cut_by {P = IsRead piece} b n (ops.Read a dw f l)
    (λ fits one. no_more (ops.Read a dw f l) piece j (record { a = a; dw = dw; f = f; l = l; is = refl }) (ap (λ (xs : List Op). slice_get xs j) (sym one) ∙ at))
    (λ d e less more. at_first _ piece _ j (record { a = _; dw = _; f = _; l = _; is = refl }) (λ k there. reads b n _ _ _ _ k piece there) (ap (λ (xs : List Op). slice_get xs j) (sym more) ∙ at))

both_true : (a b : Bool) → (a && b) ≡ true → (a ≡ true) × (b ≡ true)
both_true true b h = (refl, h)
both_true false b h = absurd (cc)

all_get : (t : Op → Bool) (xs : List Op) (j : ℕ) (op : Op) → list_all t xs ≡ true → slice_get xs j ≡ Some op → t op ≡ true
all_get t [] j op h at = absurd (cc at)
all_get t (o ∷ xs) zero op h at = ap t (sym (same_Some o op at)) ∙ (both_true (t o) (list_all t xs) h).0
all_get t (o ∷ xs) (suc j) op h at = all_get t xs j op (both_true (t o) (list_all t xs) h).1 at

-- ---- together

-- each reply is the memory's to its piece, at some bytes
abbrev pub AreReplies : Extent → List Op → List Reply → Type 0
AreReplies x xs rs = (j : ℕ) (op : Op) (r : Reply) → slice_get xs j ≡ Some op → slice_get rs j ≡ Some r → (m : List ℕ) × (length m ≡ x.size) × (answer x.base x.block m op ≡ r)

-- a request is cut, or whole
pieces_by : {P : Type 0} → (b : ℕ) (x : Extent) (op : Op) → (pieces b x op ≡ op ∷ [] → P)
    → (list_all (is_served x) (cut b (dw_of op) op) ≡ true → pieces b x op ≡ cut b (dw_of op) op → P) → P
pieces_by b x op one many = elim (cases_Bool (is_served x op && list_all (is_served x) (cut b (dw_of op) op))) [
  | inl sure ↦ many (both_true (is_served x op) (list_all (is_served x) (cut b (dw_of op) op)) sure).1 (ap (λ (v : Bool). if v then cut b (dw_of op) op else op ∷ []) sure)
  | inr refuted ↦ one (ap (λ (v : Bool). if v then cut b (dw_of op) op else op ∷ []) refuted)
]

read_replies : (x : Extent) (b a dw f l : ℕ) (rs : List Reply) → list_all (is_served x) (cut b dw (ops.Read a dw f l)) ≡ true → length rs ≡ length (cut b dw (ops.Read a dw f l))
    → AreReplies x (cut b dw (ops.Read a dw f l)) rs → parts (cut b dw (ops.Read a dw f l)) (together rs) ≡ rs
read_replies x b a dw f l rs all many are = in_turn (cut b dw (ops.Read a dw f l)) rs many (λ j piece r at told.
    let (m, long, is) = are j piece r at told in
    let read = reads b dw a dw f l j piece at in
    let served : is_served x (ops.Read read.a read.dw read.f read.l) ≡ true = ap (is_served x) (sym read.is) ∙ all_get (is_served x) (cut b dw (ops.Read a dw f l)) j piece all at in
    let (bytes, answers, size) = read_data x m read.a read.dw read.f read.l long served in
    (bytes, sym is ∙ ap (answer x.base x.block m) read.is ∙ answers, size ∙ sym (ap count_of read.is)))

whole_reply : (xs : List Op) (op : Op) (rs : List Reply) → xs ≡ op ∷ [] → length rs ≡ length xs → parts xs (together rs) ≡ rs
whole_reply xs op rs is many = ap (λ ys. parts ys (together rs)) is ∙ one_reply op rs (many ∙ ap length is)

cut_replies : (x : Extent) (b : ℕ) (op : Op) (rs : List Reply) → is_posted op ≡ false → list_all (is_served x) (cut b (dw_of op) op) ≡ true → length rs ≡ length (cut b (dw_of op) op)
    → AreReplies x (cut b (dw_of op) op) rs → parts (cut b (dw_of op) op) (together rs) ≡ rs
cut_replies x b (ops.Read a dw f l) rs not_posted all many are = read_replies x b a dw f l rs all many are
cut_replies x b (ops.Write a f l bytes) rs not_posted all many are = absurd (cc not_posted)
cut_replies x b (ops.FetchAdd a w v) rs not_posted all many are = whole_reply (cut b 0 (ops.FetchAdd a w v)) (ops.FetchAdd a w v) rs (cut_last b (ops.FetchAdd a w v)) many
cut_replies x b (ops.Swap a w v) rs not_posted all many are = whole_reply (cut b 0 (ops.Swap a w v)) (ops.Swap a w v) rs (cut_last b (ops.Swap a w v)) many
cut_replies x b (ops.Cas a w v y) rs not_posted all many are = whole_reply (cut b 0 (ops.Cas a w v y)) (ops.Cas a w v y) rs (cut_last b (ops.Cas a w v y)) many

pub parts_of_replies : (x : Extent) (b : ℕ) (op : Op) (rs : List Reply) → is_posted op ≡ false → length rs ≡ length (pieces b x op) → AreReplies x (pieces b x op) rs → parts (pieces b x op) (together rs) ≡ rs
parts_of_replies x b op rs not_posted many are = pieces_by {P = parts (pieces b x op) (together rs) ≡ rs} b x op
    (λ one. whole_reply (pieces b x op) op rs one many)
    (λ all is. ap (λ ys. parts ys (together rs)) is ∙ cut_replies x b op rs not_posted all (many ∙ ap length is) (subst (λ (ys : List Op). AreReplies x ys rs) is are))

-- ---- posted pieces

-- the law of pieces
abbrev pub Posted : Type 0
Posted = (b : ℕ) (op piece : Op) (j : ℕ) → slice_get (cut b (dw_of op) op) j ≡ Some piece → is_posted piece ≡ is_posted op

alone : (op piece : Op) (j : ℕ) → slice_get (op ∷ []) j ≡ Some piece → op ≡ piece
alone op piece zero h = same_Some op piece h
alone op piece (suc j) h = absurd (cc h)

pub posted_pieces : Posted → (x : Extent) (b : ℕ) (op piece : Op) (j : ℕ) → slice_get (pieces b x op) j ≡ Some piece → is_posted piece ≡ is_posted op
posted_pieces law x b op piece j at = pieces_by {P = is_posted piece ≡ is_posted op} b x op
    (λ one. ap is_posted (sym (alone op piece j (ap (λ (ys : List Op). slice_get ys j) (sym one) ∙ at))))
    (λ all is. law b op piece j (ap (λ (ys : List Op). slice_get ys j) (sym is) ∙ at))
