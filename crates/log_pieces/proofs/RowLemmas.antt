-- Rows after one record more.
use Rattle.std.proofs.Common.{◌≡◌, ◌∙◌, ℕ, zero, suc, ◌+◌, ◌<◌, ◌≤◌, ◌++◌, ◌∷◌, [], List, Some, length, take, drop, set, get_or, replicate, refl, sym, ap, subst, inl, inr, arith, Result, Ok, Err}
use Rattle.std.specs.Prelude.{slice_get, ◌==◌, OnOk}
use Rattle.std.proofs.lemmas.Option.{same_Some, slice_get-get_or}
use Rattle.std.proofs.lemmas.List.Elements.{filter_map-append}
use Rattle.std.proofs.lemmas.Bool.{cases_eq, eq-eqb, ne_eqb}
use Rattle.std.proofs.lemmas.List.{append-nil, append_assoc, length-replicate, length-set, take_at, take-append-drop, take-append-le}
use Rattle.std.proofs.Math.Seq.{take-length}
use Rattle.seq_memory.specs.Entries.{Reply}
use Rattle.seq_memory.specs.Limits.{Extent}
use Rattle.tlp_core.specs.Ops.{Op}
use Rattle.history_words.specs.Records.{Record}
use Rattle.history_words.specs.declared.record.RecordOf.TheVariants as records
use Rattle.history_words.specs.Trace.{submissions, submission}
use Rattle.history_words.specs.TraceView.{TraceView, observed}
use Rattle.log_runs.specs.Explainable.{prefix}
use Rattle.log_runs.proofs.Lists.{take_more_at}
use Rattle.log_pieces.specs.Pieces.{pieces}
use Rattle.log_pieces.specs.InPieces.{width, numbered, subs, answers_by, next_number, split, split_all, with_more, cut_log}
use Rattle.log_pieces.specs.RowView.{RowView, AreRows, row_of}

pub width_more : (p : Op → List Op) (ops : List Op) (op : Op) → width p (ops ++ op ∷ []) ≡ width p ops + length (p op)
width_more p [] op = omega arith
width_more p (o ∷ ops) op = let e = width_more p ops op in omega (arith, e)

pub numbered_more : (p : Op → List Op) (n : ℕ) (ops : List Op) (op : Op) → numbered p n (ops ++ op ∷ []) ≡ numbered p n ops ++ (n + width p ops, op) ∷ []
numbered_more p n [] op = ap (λ k. (k, op) ∷ []) (omega arith)
numbered_more p n (o ∷ ops) op =
    ap (λ xs. (n, o) ∷ xs) (numbered_more p (n + length (p o)) ops op ∙ ap (λ k. numbered p (n + length (p o)) ops ++ (k, op) ∷ []) (omega arith))

pub length_numbered : (p : Op → List Op) (n : ℕ) (ops : List Op) → length (numbered p n ops) ≡ length ops
length_numbered p n [] = refl
length_numbered p n (op ∷ ops) = ap suc (length_numbered p (n + length (p op)) ops)

pub row_more : (p : Op → List Op) (ops : List Op) (op : Op) → row_of p (ops ++ op ∷ []) ≡ record { next = width p ops + length (p op); requests = numbered p 0 ops ++ (width p ops, op) ∷ [] }
row_more p ops op =
    let n = width_more p ops op in
    let rs = numbered_more p 0 ops op ∙ ap (λ k. numbered p 0 ops ++ (k, op) ∷ []) (omega arith) in
    rw (n, rs) refl

-- ---- records, one after another

pub split_more : (p : Op → List Op) (before rs : List Record) (r : Record) → split_all p before (rs ++ r ∷ []) ≡ split_all p before rs ++ split p (before ++ rs) r
split_more p before [] r = append-nil (split p before r) ∙ ap (λ (b : List Record). split p b r) (sym (append-nil before))
split_more p before (q ∷ rs) r =
    ap (λ xs. split p before q ++ xs) (split_more p (before ++ q ∷ []) rs r ∙ ap (λ (b : List Record). split_all p (before ++ q ∷ []) rs ++ split p b r) (append_assoc before (q ∷ []) rs))
    ∙ sym (append_assoc (split p before q) (split_all p (before ++ q ∷ []) rs) (split p (before ++ q ∷ rs) r))

-- ---- a log in pieces, one record after another

pub pieces_none : (bytes : ℕ) (x : Extent) (t made : TraceView) → x ≡ observed t → made ≡ record { base = x.base; size = x.size; block = x.block; records = [] }
    → made ≡ cut_log bytes (prefix 0 t)
pieces_none bytes x t made is none = none ∙ ap (λ (y : Extent). record { base = y.base; size = y.size; block = y.block; records = [] }) is

pub pieces_more : (bytes i : ℕ) (x : Extent) (rs : List Record) (r : Record) (t : TraceView) → x ≡ observed t → rs ≡ t.records → slice_get rs i ≡ Some r
    → with_more (cut_log bytes (prefix i t)) (split (pieces bytes x) (take i rs) r) ≡ cut_log bytes (prefix (i + 1) t)
pieces_more bytes i x rs r t is same at =
    let p = pieces bytes (observed t) in
    ap (λ (y : Extent). with_more (cut_log bytes (prefix i t)) (split (pieces bytes y) (take i rs) r)) is
    ∙ ap (λ (qs : List Record). with_more (cut_log bytes (prefix i t)) (split p (take i qs) r)) same
    ∙ ap (λ (qs : List Record). record t { records = qs })
    (sym (split_more p [] (take i t.records) r) ∙ ap (split_all p []) (sym (take_more_at t.records i r (ap (λ (qs : List Record). slice_get qs i) (sym same) ∙ at))))

pub pieces_all : (bytes n : ℕ) (t : TraceView) → n ≡ length t.records → cut_log bytes (prefix n t) ≡ cut_log bytes t
pieces_all bytes n t all = ap (λ (qs : List Record). cut_log bytes (record t { records = qs })) (ap (λ k. take k t.records) all ∙ take-length t.records)

-- ---- rows

pub rows_none : (p : Op → List Op) (rows : List RowView) → rows ≡ replicate 256 (record { next = 0; requests = [] }) → AreRows p rows []
rows_none p rows is =
    let row : RowView = record { next = 0; requests = [] } in
    record {
      len = ap length is ∙ length-replicate 256 row;
      at = λ i l. ap (λ (xs : List RowView). slice_get xs i) is ∙ get_replicate 256 i row l;
    }
  where
    get_replicate : (n i : ℕ) (v : RowView) → i < n → slice_get (replicate n v) i ≡ Some v
    get_replicate zero i v l = absurd (omega arith)
    get_replicate (suc n) zero v l = refl
    get_replicate (suc n) (suc i) v l = get_replicate n i v (omega arith)

set_here : {X : Type 0} → (xs : List X) (i : ℕ) (v w : X) → slice_get xs i ≡ Some w → slice_get (set xs i v) i ≡ Some v
set_here [] i v w e = cc
set_here (x ∷ xs) zero v w e = refl
set_here (x ∷ xs) (suc i) v w e = set_here xs i v w e

set_there : {X : Type 0} → (xs : List X) (i j : ℕ) (v : X) → (i ≡ j → ⊥) → slice_get (set xs i v) j ≡ slice_get xs j
set_there [] i j v n = refl
set_there (x ∷ xs) zero zero v n = absurd (n refl)
set_there (x ∷ xs) zero (suc j) v n = refl
set_there (x ∷ xs) (suc i) zero v n = refl
set_there (x ∷ xs) (suc i) (suc j) v n = set_there xs i j v (λ e. n (ap suc e))

more_own : (rs : List Record) (i k n : ℕ) (op : Op) → submissions (rs ++ records.Sub i k op n ∷ []) i ≡ submissions rs i ++ op ∷ []
more_own rs i k n op = filter_map-append (submission i) rs (records.Sub i k op n ∷ []) ∙ ap (λ (xs : List Op). submissions rs i ++ xs) (rw (eq-eqb i i refl) refl)

more_other : (rs : List Record) (i j k n : ℕ) (op : Op) → (j ≡ i → ⊥) → submissions (rs ++ records.Sub i k op n ∷ []) j ≡ submissions rs j
more_other rs i j k n op d =
    filter_map-append (submission j) rs (records.Sub i k op n ∷ []) ∙ ap (λ (xs : List Op). submissions rs j ++ xs) (rw (ne_eqb j i d) refl) ∙ append-nil (submissions rs j)

pub rows_sub : (p : Op → List Op) (rows : List RowView) (rs : List Record) (i k n : ℕ) (op : Op) (row : RowView) → AreRows p rows rs → i < 256
    → row ≡ record { next = width p (submissions rs i) + length (p op); requests = numbered p 0 (submissions rs i) ++ (width p (submissions rs i), op) ∷ [] }
    → AreRows p (set rows i row) (rs ++ records.Sub i k op n ∷ [])
rows_sub p rows rs i k n op row old small is = record {
  len = length-set rows i row ∙ old.len;
  at = λ j l. elim (cases_eq j i) [
    | inl same ↦
        ap (slice_get (set rows i row)) same ∙ set_here rows i row (row_of p (submissions rs i)) (old.at i small)
        ∙ ap Some (is ∙ sym (row_more p (submissions rs i) op) ∙ ap (row_of p) (sym (more_own rs i k n op)))
        ∙ ap (λ v. Some (row_of p (submissions (rs ++ records.Sub i k op n ∷ []) v))) (sym same)
    | inr other ↦
        set_there rows i j row (λ e. other (sym e)) ∙ old.at j l ∙ ap (λ (xs : List Op). Some (row_of p xs)) (sym (more_other rs i j k n op other))
  ];
}

pub rows_answer : (p : Op → List Op) (rows : List RowView) (rs : List Record) (i k n : ℕ) (reply : Reply) → AreRows p rows rs → AreRows p rows (rs ++ records.Ans i k reply n ∷ [])
rows_answer p rows rs i k n reply old = record {
  len = old.len;
  at = λ j l. old.at j l ∙ ap (λ (xs : List Op). Some (row_of p xs)) (sym (filter_map-append (submission j) rs (records.Ans i k reply n ∷ []) ∙ append-nil (submissions rs j)));
}

-- ---- what a record adds

pub row_there : (p : Op → List Op) (rows : List RowView) (rs : List Record) (i : ℕ) (row d : RowView) → AreRows p rows rs → i < 256 → row ≡ get_or rows i d → row ≡ row_of p (submissions rs i)
row_there p rows rs i row d known small is =
    let inside : i < length rows = omega (arith, known.len, small) in
    same_Some row (row_of p (submissions rs i)) (ap Some is ∙ sym (slice_get-get_or rows i d inside) ∙ known.at i small)

pub sub_records : (p : Op → List Op) (rows : List RowView) (rs : List Record) (i k n : ℕ) (op : Op) (row d : RowView) (item : Record) (ops : List Op) (old new : TraceView)
    → AreRows p rows rs → i < 256 → row ≡ get_or rows i d → item ≡ records.Sub i k op n → ops ≡ p op
    → new ≡ with_more old (subs i (next_number (k == length row.requests) row.next) n ops) → new ≡ with_more old (split p rs item)
sub_records p rows rs i k n op row d item ops old new known small at is all grown =
    let there = row_there p rows rs i row d known small at in
    let long : length row.requests ≡ length (submissions rs i) = ap (λ (r : RowView). length r.requests) there ∙ length_numbered p 0 (submissions rs i) in
    let next : row.next ≡ width p (submissions rs i) = ap (λ (r : RowView). r.next) there in
    grown ∙ ap (λ l. with_more old (subs i (next_number (k == l) row.next) n ops)) long
    ∙ ap (λ l. with_more old (subs i (next_number (k == length (submissions rs i)) l) n ops)) next
    ∙ ap (λ (xs : List Op). with_more old (subs i (next_number (k == length (submissions rs i)) (width p (submissions rs i))) n xs)) all
    ∙ ap (λ (r : Record). with_more old (split p rs r)) (sym is)

pub sub_rows : (p : Op → List Op) (rows : List RowView) (rs : List Record) (i k n : ℕ) (op : Op) (row d new : RowView) (item : Record) (ops : List Op)
    → AreRows p rows rs → i < 256 → row ≡ get_or rows i d → item ≡ records.Sub i k op n → ops ≡ p op
    → new ≡ record { next = row.next + length ops; requests = row.requests ++ (row.next, op) ∷ [] } → AreRows p (set rows i new) (rs ++ item ∷ [])
sub_rows p rows rs i k n op row d new item ops known small at is all grown =
    let there = row_there p rows rs i row d known small at in
    let made : new ≡ record { next = width p (submissions rs i) + length (p op); requests = numbered p 0 (submissions rs i) ++ (width p (submissions rs i), op) ∷ [] } =
    grown ∙ ap (λ (r : RowView). record { next = r.next + length ops; requests = r.requests ++ (r.next, op) ∷ [] }) there
    ∙ ap (λ (xs : List Op). record { next = width p (submissions rs i) + length xs; requests = numbered p 0 (submissions rs i) ++ (width p (submissions rs i), op) ∷ [] }) all in
    subst (λ (r : Record). AreRows p (set rows i new) (rs ++ r ∷ [])) (sym is) (rows_sub p rows rs i k n op new known small made)

pub answer_records : (p : Op → List Op) (rows : List RowView) (rs : List Record) (i k n : ℕ) (reply : Reply) (row d : RowView) (item : Record) (old new : TraceView)
    → AreRows p rows rs → i < 256 → row ≡ get_or rows i d → item ≡ records.Ans i k reply n
    → new ≡ with_more old (answers_by p (slice_get row.requests k) i row.next n reply) → new ≡ with_more old (split p rs item)
answer_records p rows rs i k n reply row d item old new known small at is grown =
    let there = row_there p rows rs i row d known small at in
    grown ∙ ap (λ (r : RowView). with_more old (answers_by p (slice_get r.requests k) i r.next n reply)) there ∙ ap (λ (r : Record). with_more old (split p rs r)) (sym is)

pub answer_rows : (p : Op → List Op) (rows : List RowView) (rs : List Record) (i k n : ℕ) (reply : Reply) (item : Record) → AreRows p rows rs → item ≡ records.Ans i k reply n → AreRows p rows (rs ++ item ∷ [])
answer_rows p rows rs i k n reply item known is = subst (λ (r : Record). AreRows p rows (rs ++ r ∷ [])) (sym is) (rows_answer p rows rs i k n reply known)

pub on_ok : {X P Q E : Type 0} → (r : Result X E) → OnOk r P → (P → Q) → OnOk r Q
on_ok (Ok x) h f = f h
on_ok (Err e) h f = tt

pub if_ok : {X Q E : Type 0} → (r : Result X E) → Q → OnOk r Q
if_ok (Ok x) q = q
if_ok (Err e) q = tt

pub refit : {X : Type 0} → (new items : List X) (n : ℕ) → n ≡ length new → take n (new ++ drop (length new) items) ≡ new
refit new items n e = ap (λ k. take k (new ++ drop (length new) items)) e ∙ take_at new (drop (length new) items) (length new) refl

-- ---- prefixes

split_append : (p : Op → List Op) (before rs qs : List Record) → split_all p before (rs ++ qs) ≡ split_all p before rs ++ split_all p (before ++ rs) qs
split_append p before [] qs = ap (λ (b : List Record). split_all p b qs) (sym (append-nil before))
split_append p before (r ∷ rs) qs =
    ap (λ xs. split p before r ++ xs) (split_append p (before ++ r ∷ []) rs qs ∙ ap (λ (b : List Record). split_all p (before ++ r ∷ []) rs ++ split_all p b qs) (append_assoc before (r ∷ []) rs))
    ∙ sym (append_assoc (split p before r) (split_all p (before ++ r ∷ []) rs) (split_all p (before ++ r ∷ rs) qs))

-- the first pieces are those of the first records
pub first_pieces : (p : Op → List Op) (rs : List Record) (n count : ℕ) → count ≤ length (split_all p [] (take n rs)) → take count (split_all p [] rs) ≡ take count (split_all p [] (take n rs))
first_pieces p rs n count l =
    ap (λ (qs : List Record). take count (split_all p [] qs)) (sym (take-append-drop n rs))
    ∙ ap (take count) (split_append p [] (take n rs) (drop n rs)) ∙ take-append-le count (split_all p [] (take n rs)) (split_all p (take n rs) (drop n rs)) l
