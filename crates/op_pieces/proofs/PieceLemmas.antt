-- The pieces of an operation do together what it does, and are answered together what it is answered.
use Rattle.std.proofs.Common.{◌≡◌, ◌∙◌, ℕ, zero, suc, ◌+◌, ◌-◌, ◌*◌, ◌/◌, ◌%◌, ◌<◌, ◌≤◌, ◌++◌, ◌∷◌, [], List, Some, None, Option, Bool, true, false, length, take, drop, replicate, fold, refl, sym, ap, subst, inl, inr, arith, length-drop}
use Rattle.std.specs.Prelude.{slice_get, if◌then◌else◌, nat_le, ◌&&◌, ◌||◌, ◌==◌, not, is_some, is_none}
use Rattle.std.specs.List.{list_all}
use Rattle.std.proofs.lemmas.Bool.{cases_Bool}
use Rattle.std.proofs.lemmas.Bool.Decides.{nat_tests}
use Rattle.std.proofs.lemmas.Option.{same_Some}
use Rattle.std.proofs.Math.Seq.{take-append-add}
use Rattle.std.proofs.lemmas.List.{take_at, drop_at, take-append-drop, drop-drop, length-replicate, replicate-append-replicate, length-take-le}
use Rattle.arrayvec.specs.ArrayVec.{ArrayVec}
use Rattle.tlp_core.specs.Ops.{Op}
use Rattle.tlp_core.specs.declared.operation.OpOf.TheVariants as ops
use Rattle.tlp_core.specs.declared.fault.TlpFault.TheVariants as faults
use Rattle.tlp_core.specs.Enables.{enables}
use Rattle.tlp_core.specs.Operation.{is_posted, address_of, count_of, op_fault, wrong_length, wrong_enables, wrong_operand, wrong_address}
use Rattle.seq_memory.specs.declared.Refusal.TheVariants as refusals
use Rattle.seq_memory.specs.Entries.{Reply}
use Rattle.seq_memory.specs.Limits.{Extent}
use Rattle.seq_memory.specs.Step.{refusal, is_in_block, is_inside, merged, bytes_at, patched, place_after, read_back, data_of, after, answer, after_by, answer_by}
use Rattle.op_pieces.specs.Pieces.{inner, rest_first, rest_last, front, back, dw_of, dw_to, cut, is_served, left_by, front_of, back_of, parts}
use Rattle.op_pieces.proofs.Effects.{enables_split, length_enables, merged_append, length_merged, write, writes_in_turn}

abbrev pub Sized : Type 0
Sized = (base block : ℕ) (m : List ℕ) (op : Op) → length (after base block m op) ≡ length m

-- ---- an operation that is served

both_true : (a b : Bool) → (a && b) ≡ true → (a ≡ true) × (b ≡ true)
both_true true b h = (refl, h)
both_true false b h = absurd (cc)

pub none_is : {X : Type 0} → (o : Option X) → is_none o ≡ true → o ≡ None
none_is None h = refl
none_is (Some r) h = absurd (cc)

pub none_refused : (a b c : Bool) → (if a || not b then Some refusals.Aborted else (if c then None else Some refusals.Unsupported)) ≡ None → (a ≡ false) × (c ≡ true)
none_refused true b c h = absurd (cc)
none_refused false false c h = absurd (cc)
none_refused false true true h = (refl, refl)
none_refused false true false h = absurd (cc)

no_first : (a b c d : Bool) → is_some (if a then Some faults.LengthMismatch else (if b then Some faults.ByteEnables else (if c then Some faults.OperandSize else (if d then Some faults.Unaligned else None)))) ≡ false → a ≡ false
no_first true b c d h = absurd (cc)
no_first false b c d h = refl

-- where it lies, and that it has bytes
pub record Lies (x : Extent) (op : Op) : Type 0 where
  pub none : refusal x.base x.size x.block op ≡ None
  pub low : x.base ≤ address_of op
  pub high : address_of op + count_of op ≤ x.base + x.size
  pub length_right : wrong_length op ≡ false

pub lies : (x : Extent) (op : Op) → is_served x op ≡ true → Lies x op
lies x op h =
    let none = none_is (refusal x.base x.size x.block op) h in
    let parts = none_refused (is_some (op_fault op)) (is_in_block x.block (address_of op) (count_of op)) (is_inside x.base x.size (address_of op) (count_of op)) none in
    let inside = both_true (nat_le x.base (address_of op)) (nat_le (address_of op + count_of op) (x.base + x.size)) parts.1 in
    record {
      none = none;
      low = grind (arith, nat_tests);
      high = grind (arith, nat_tests);
      length_right = no_first (wrong_length op) (wrong_enables op) (wrong_operand op) (wrong_address op) parts.0;
    }

some_dw : (a dw f l : ℕ) → wrong_length (ops.Read a dw f l) ≡ false → 1 ≤ dw
some_dw a dw f l h = grind (arith, nat_tests)

some_bytes : (n : ℕ) → ((n == 0) || not (n % 4 == 0)) ≡ false → (4 ≤ n) × (4 * (n / 4) ≡ n)
some_bytes n h =
    let some : (1 ≤ n) × (n % 4 ≡ 0) = grind (arith, nat_tests) in
    (omega (arith, some.0, some.1), omega (arith, some.1))

after_served : (x : Extent) (m : List ℕ) (op : Op) → length m ≡ x.size → refusal x.base x.size x.block op ≡ None
    → left_by x m op ≡ patched m (address_of op - x.base) (count_of op) (place_after op (bytes_at m (address_of op - x.base) (count_of op)))
after_served x m op long none =
    let same : refusal x.base (length m) x.block op ≡ None = ap (λ n. refusal x.base n x.block op) long ∙ none in
    ap (λ r. after_by r m (patched m (address_of op - x.base) (count_of op) (place_after op (bytes_at m (address_of op - x.base) (count_of op))))) same

pub answer_served : (x : Extent) (m : List ℕ) (op : Op) → length m ≡ x.size → refusal x.base x.size x.block op ≡ None
    → answer x.base x.block m op ≡ read_back op (bytes_at m (address_of op - x.base) (count_of op))
answer_served x m op long none =
    let same : refusal x.base (length m) x.block op ≡ None = ap (λ n. refusal x.base n x.block op) long ∙ none in
    ap (λ r. answer_by r (read_back op (bytes_at m (address_of op - x.base) (count_of op)))) same

-- ---- parts

some_pieces : (b n : ℕ) (op : Op) → (o : Op) × (os : List Op) × (cut b n op ≡ o ∷ os)
unfolding cut
some_pieces b zero op = (op, [], refl)
some_pieces b (suc n) op = elim (cases_Bool (nat_le (dw_of op) (dw_to b (address_of op)))) [
  | inl fits ↦ (op, [], rw fits refl)
  | inr more ↦ (front (dw_to b (address_of op)) op, cut b n (back (dw_to b (address_of op)) op), rw more refl)
]

parts_more : (b n : ℕ) (op other : Op) (reply : Reply) → parts (op ∷ cut b n other) reply ≡ front_of (count_of op) reply ∷ parts (cut b n other) (back_of (count_of op) reply)
parts_more b n op other reply =
    let (o, os, is) = some_pieces b n other in
    subst (λ (xs : List Op). parts (op ∷ xs) reply ≡ front_of (count_of op) reply ∷ parts xs (back_of (count_of op) reply)) (sym is) refl

-- ---- kinds

same_front : (n : ℕ) (op : Op) → is_posted (front n op) ≡ is_posted op
same_front n (ops.Read a dw f l) = refl
same_front n (ops.Write a f l bytes) = refl
same_front n (ops.FetchAdd a w x) = refl
same_front n (ops.Swap a w x) = refl
same_front n (ops.Cas a w x y) = refl

same_back : (n : ℕ) (op : Op) → is_posted (back n op) ≡ is_posted op
same_back n (ops.Read a dw f l) = refl
same_back n (ops.Write a f l bytes) = refl
same_back n (ops.FetchAdd a w x) = refl
same_back n (ops.Swap a w x) = refl
same_back n (ops.Cas a w x y) = refl

alone : (op piece : Op) (j : ℕ) → slice_get (op ∷ []) j ≡ Some piece → (j ≡ 0) × (op ≡ piece)
alone op piece zero h = (refl, same_Some op piece h)
alone op piece (suc j) h = absurd (cc h)

-- ---- one step of a cut

-- the operation is one piece, or a first part and the pieces of the other
cut_by : {P : Type 0} → (b n : ℕ) (op : Op) → (cut b (suc n) op ≡ op ∷ [] → P)
    → ((d : ℕ) → d ≡ dw_to b (address_of op) → d < dw_of op → cut b (suc n) op ≡ front d op ∷ cut b n (back d op) → P) → P
unfolding cut
cut_by b n op one more = elim (cases_Bool (nat_le (dw_of op) (dw_to b (address_of op)))) [
  | inl fits ↦ one (rw fits refl)
  | inr past ↦ more (dw_to b (address_of op)) refl (grind (arith, nat_tests)) (rw past refl)
]

cut_none : (b : ℕ) (op : Op) → cut b 0 op ≡ op ∷ []
unfolding cut
cut_none b op = refl

at_first : (piece first op : Op) (xs : List Op) (j : ℕ) → slice_get (first ∷ xs) j ≡ Some piece → is_posted first ≡ is_posted op
    → ((k : ℕ) → slice_get xs k ≡ Some piece → is_posted piece ≡ is_posted op) → is_posted piece ≡ is_posted op
at_first piece first op xs zero h same later = ap is_posted (sym (same_Some first piece h)) ∙ same
at_first piece first op xs (suc k) h same later = later k h

pub posted_cut : (b n : ℕ) (op piece : Op) (j : ℕ) → slice_get (cut b n op) j ≡ Some piece → is_posted piece ≡ is_posted op
posted_cut b zero op piece j h = ap is_posted (sym (alone op piece j (ap (λ (xs : List Op). slice_get xs j) (sym (cut_none b op)) ∙ h)).1)
posted_cut b (suc n) op piece j h = cut_by {P = is_posted piece ≡ is_posted op} b n op
    (λ is. ap is_posted (sym (alone op piece j (ap (λ (xs : List Op). slice_get xs j) (sym is) ∙ h)).1))
    (λ d e less is. at_first piece (front d op) op (cut b n (back d op)) j (ap (λ (xs : List Op). slice_get xs j) (sym is) ∙ h) (same_front d op)
    (λ k there. posted_cut b n (back d op) piece k there ∙ same_back d op))

-- ---- reads

-- all of them are reads
abbrev pub are_reads : List Op → Type 0
are_reads [] = Unit {0}
are_reads (ops.Read a dw f l ∷ xs) = are_reads xs
are_reads (_ ∷ xs) = ⊥

reads_cut : (b n a dw f l : ℕ) → are_reads (cut b n (ops.Read a dw f l))
reads_cut b zero a dw f l = subst are_reads (sym (cut_none b (ops.Read a dw f l))) tt
reads_cut b (suc n) a dw f l = cut_by {P = are_reads (cut b (suc n) (ops.Read a dw f l))} b n (ops.Read a dw f l)
    (λ is. subst are_reads (sym is) tt)
    (λ d e less is. subst are_reads (sym is) (reads_cut b n (a + 4 * d) (dw - d) (rest_first (dw - d) l) (rest_last (dw - d) l)))

abbrev pub Reads : Type 0
Reads = (base block a dw f l : ℕ) (m : List ℕ) → after base block m (ops.Read a dw f l) ≡ m

reads_change_nothing : (x : Extent) → Reads → (m : List ℕ) (xs : List Op) → are_reads xs → fold (left_by x) m xs ≡ m
reads_change_nothing x law m [] h = refl
reads_change_nothing x law m (ops.Read a dw f l ∷ xs) h =
    ap (λ v. fold (left_by x) v xs) (law x.base x.block a dw f l m) ∙ reads_change_nothing x law m xs h
reads_change_nothing x law m (ops.Write a f l bytes ∷ xs) h = absurd h
reads_change_nothing x law m (ops.FetchAdd a w v ∷ xs) h = absurd h
reads_change_nothing x law m (ops.Swap a w v ∷ xs) h = absurd h
reads_change_nothing x law m (ops.Cas a w v y ∷ xs) h = absurd h

take_reads : (j : ℕ) (xs : List Op) → are_reads xs → are_reads (take j xs)
take_reads zero xs h = tt
take_reads (suc j) [] h = tt
take_reads (suc j) (ops.Read a dw f l ∷ xs) h = take_reads j xs h
take_reads (suc j) (ops.Write a f l bytes ∷ xs) h = absurd h
take_reads (suc j) (ops.FetchAdd a w v ∷ xs) h = absurd h
take_reads (suc j) (ops.Swap a w v ∷ xs) h = absurd h
take_reads (suc j) (ops.Cas a w v y ∷ xs) h = absurd h

-- what a read returns of the bytes from an index on
abbrev pub seen : ℕ → ℕ → ℕ → ℕ → List ℕ → List ℕ
seen dw f l i m = merged (enables dw f l) (bytes_at m i (4 * dw)) (replicate (4 * dw) 0)

bytes_in_two : (m : List ℕ) (i n k : ℕ) → i + (n + k) ≤ length m → bytes_at m i (n + k) ≡ bytes_at m i n ++ bytes_at m (i + n) k
bytes_in_two m i n k l =
    let y = take n (drop i m) in
    let z = drop (i + n) m in
    let long : length y ≡ n = length-take-le n (drop i m) (omega (arith, l, length-drop i m)) in
    let two : drop i m ≡ y ++ z = sym (take-append-drop n (drop i m)) ∙ ap (λ v. y ++ v) (drop-drop n i m) in
    ap (take (n + k)) two ∙ ap (λ v. take (v + k) (y ++ z)) (sym long) ∙ take-append-add y z k

pub seen_in_two : (n k f l i : ℕ) (m : List ℕ) → 1 ≤ n → 1 ≤ k → i + 4 * (n + k) ≤ length m
    → seen (n + k) f l i m ≡ seen n f (inner n) i m ++ seen k (rest_first k l) (rest_last k l) (i + 4 * n) m
seen_in_two n k f l i m some more room =
    let sum : 4 * (n + k) ≡ 4 * n + 4 * k = omega arith in
    let place : bytes_at m i (4 * (n + k)) ≡ bytes_at m i (4 * n) ++ bytes_at m (i + 4 * n) (4 * k) = ap (bytes_at m i) sum ∙ bytes_in_two m i (4 * n) (4 * k) (omega (arith, room)) in
    let zeros : replicate (4 * (n + k)) 0 ≡ replicate (4 * n) 0 ++ replicate (4 * k) 0 = ap (λ v. replicate v 0) sum ∙ sym (replicate-append-replicate (4 * n) (4 * k) 0) in
    let es = enables n f (inner n) in
    let fs = enables k (rest_first k l) (rest_last k l) in
    let long = length_enables n f (inner n) some in
    let size : length (bytes_at m i (4 * n)) ≡ length es = length-take-le (4 * n) (drop i m) (omega (arith, room, length-drop i m)) ∙ sym long in
    let none : length (replicate (4 * n) 0) ≡ length es = length-replicate (4 * n) 0 ∙ sym long in
    ap (λ v. merged v (bytes_at m i (4 * (n + k))) (replicate (4 * (n + k)) 0)) (enables_split n k f l some more)
    ∙ ap (λ v. merged (es ++ fs) v (replicate (4 * (n + k)) 0)) place
    ∙ ap (λ v. merged (es ++ fs) (bytes_at m i (4 * n) ++ bytes_at m (i + 4 * n) (4 * k)) v) zeros
    ∙ merged_append es fs (bytes_at m i (4 * n)) (bytes_at m (i + 4 * n) (4 * k)) (replicate (4 * n) 0) (replicate (4 * k) 0) size none

length_seen : (n f l i : ℕ) (m : List ℕ) → 1 ≤ n → i + 4 * n ≤ length m → length (seen n f l i m) ≡ 4 * n
length_seen n f l i m some h =
    let long = length_enables n f l some in
    length_merged (enables n f l) (bytes_at m i (4 * n)) (replicate (4 * n) 0)
    (length-take-le (4 * n) (drop i m) (omega (arith, h, length-drop i m)) ∙ sym long) (length-replicate (4 * n) 0 ∙ sym long) ∙ long

all_served : (x : Extent) (op : Op) (xs : List Op) → list_all (is_served x) (op ∷ xs) ≡ true → (is_served x op ≡ true) × (list_all (is_served x) xs ≡ true)
all_served x op xs h = both_true (is_served x op) (list_all (is_served x) xs) h

one_read : (x : Extent) (m : List ℕ) → length m ≡ x.size → (a dw f l : ℕ) (xs : List Op) → xs ≡ ops.Read a dw f l ∷ [] → list_all (is_served x) xs ≡ true → (j : ℕ) (piece : Op) (part : Reply) → slice_get xs j ≡ Some piece
    → slice_get (parts xs (data_of (seen dw f l (a - x.base) m))) j ≡ Some part → answer x.base x.block m piece ≡ part
one_read x m long a dw f l xs is all j piece part at there =
    let op = ops.Read a dw f l in
    let served = (all_served x op [] (ap (list_all (is_served x)) (sym is) ∙ all)).0 in
    let mine = alone op piece j (ap (λ (ys : List Op). slice_get ys j) (sym is) ∙ at) in
    let reply : data_of (seen dw f l (a - x.base) m) ≡ part =
    same_Some (data_of (seen dw f l (a - x.base) m)) part
    (sym (ap (λ (ys : List Op). slice_get (parts ys (data_of (seen dw f l (a - x.base) m))) j) is ∙ ap (slice_get (data_of (seen dw f l (a - x.base) m) ∷ [])) mine.0) ∙ there) in
    ap (answer x.base x.block m) (sym mine.1) ∙ answer_served x m op long (lies x op served).none ∙ reply

at_place : (x : Extent) (m : List ℕ) (xs : List Op) (first : Op) (bytes_seen : List ℕ) (told : List Reply) (piece : Op) (part : Reply) → answer x.base x.block m first ≡ data_of bytes_seen
    → ((k : ℕ) → slice_get xs k ≡ Some piece → slice_get told k ≡ Some part → answer x.base x.block m piece ≡ part)
    → (j : ℕ) → slice_get (first ∷ xs) j ≡ Some piece → slice_get (data_of bytes_seen ∷ told) j ≡ Some part → answer x.base x.block m piece ≡ part
at_place x m xs first bytes_seen told piece part here later zero at there =
    ap (answer x.base x.block m) (sym (same_Some first piece at)) ∙ here ∙ same_Some (data_of bytes_seen) part there
at_place x m xs first bytes_seen told piece part here later (suc k) at there = later k at there

-- a piece of a read is answered its part
read_parts : (x : Extent) (m : List ℕ) → length m ≡ x.size → (b n a dw f l : ℕ) → x.base ≤ a → a + 4 * dw ≤ x.base + x.size
    → list_all (is_served x) (cut b n (ops.Read a dw f l)) ≡ true → (j : ℕ) (piece : Op) (part : Reply) → slice_get (cut b n (ops.Read a dw f l)) j ≡ Some piece
    → slice_get (parts (cut b n (ops.Read a dw f l)) (data_of (seen dw f l (a - x.base) m))) j ≡ Some part → answer x.base x.block m piece ≡ part
read_parts x m long b zero a dw f l low high all j piece part at there = one_read x m long a dw f l (cut b 0 (ops.Read a dw f l)) (cut_none b (ops.Read a dw f l)) all j piece part at there
read_parts x m long b (suc n) a dw f l low high all j piece part at there = cut_by {P = answer x.base x.block m piece ≡ part} b n (ops.Read a dw f l)
    (λ is. one_read x m long a dw f l (cut b (suc n) (ops.Read a dw f l)) is all j piece part at there)
    (λ d e less is.
    let op = ops.Read a dw f l in
    let first = ops.Read a d f (inner d) in
    let rest = ops.Read (a + 4 * d) (dw - d) (rest_first (dw - d) l) (rest_last (dw - d) l) in
    let served = all_served x first (cut b n rest) (ap (list_all (is_served x)) (sym is) ∙ all) in
    let some = some_dw a d f (inner d) (lies x first served.0).length_right in
    let more : 1 ≤ dw - d = omega (arith, less) in
    let i = a - x.base in
    let sum : d + (dw - d) ≡ dw = omega (arith, less) in
    let next : a + 4 * d - x.base ≡ i + 4 * d = omega (arith, low) in
    let bytes_seen = seen d f (inner d) i m in
    let others = seen (dw - d) (rest_first (dw - d) l) (rest_last (dw - d) l) (a + 4 * d - x.base) m in
    let two : seen dw f l i m ≡ bytes_seen ++ others =
    ap (λ v. seen v f l i m) (sym sum) ∙ seen_in_two d (dw - d) f l i m some more (omega (arith, long, low, high, sum))
    ∙ ap (λ v. bytes_seen ++ seen (dw - d) (rest_first (dw - d) l) (rest_last (dw - d) l) v m) (sym next) in
    let size : length bytes_seen ≡ 4 * d = length_seen d f (inner d) i m some (omega (arith, long, low, high, less)) in
    let head : front_of (4 * d) (data_of (seen dw f l i m)) ≡ data_of bytes_seen = ap (λ v. data_of (take (4 * d) v)) two ∙ ap data_of (take_at bytes_seen others (4 * d) size) in
    let tail : back_of (4 * d) (data_of (seen dw f l i m)) ≡ data_of others = ap (λ v. data_of (drop (4 * d) v)) two ∙ ap data_of (drop_at bytes_seen others (4 * d) size) in
    let told : parts (cut b (suc n) op) (data_of (seen dw f l i m)) ≡ data_of bytes_seen ∷ parts (cut b n rest) (data_of others) =
    ap (λ (xs : List Op). parts xs (data_of (seen dw f l i m))) is ∙ parts_more b n first rest (data_of (seen dw f l i m))
    ∙ ap (λ v. v ∷ parts (cut b n rest) (back_of (4 * d) (data_of (seen dw f l i m)))) head
    ∙ ap (λ v. data_of bytes_seen ∷ parts (cut b n rest) v) tail in
    at_place x m (cut b n rest) first bytes_seen (parts (cut b n rest) (data_of others)) piece part (answer_served x m first long (lies x first served.0).none)
    (λ k here now. read_parts x m long b n (a + 4 * d) (dw - d) (rest_first (dw - d) l) (rest_last (dw - d) l) (omega (arith, low)) (omega (arith, high, sum)) served.1 k piece part here now)
    j (ap (λ (xs : List Op). slice_get xs j) (sym is) ∙ at) (ap (λ (xs : List Reply). slice_get xs j) (sym told) ∙ there))

-- ---- writes

-- what a write leaves
abbrev pub put : Extent → ℕ → ℕ → ℕ → List ℕ → List ℕ → List ℕ
put x a f l bytes m = write (enables (length bytes / 4) f l) bytes (a - x.base) m

one_write : (x : Extent) (m : List ℕ) → length m ≡ x.size → (a f l : ℕ) (bytes : ArrayVec ℕ) (xs : List Op) → xs ≡ ops.Write a f l bytes ∷ [] → list_all (is_served x) xs ≡ true → fold (left_by x) m xs ≡ put x a f l bytes.items m
one_write x m long a f l bytes xs is all =
    let op = ops.Write a f l bytes in
    let served = (all_served x op [] (ap (list_all (is_served x)) (sym is) ∙ all)).0 in
    ap (fold (left_by x) m) is ∙ after_served x m op long (lies x op served).none

write_parts : (x : Extent) → Sized → (m : List ℕ) → length m ≡ x.size → (b n a f l : ℕ) (bytes : ArrayVec ℕ) → x.base ≤ a → a + length bytes.items ≤ x.base + x.size → 4 * (length bytes.items / 4) ≡ length bytes.items
    → list_all (is_served x) (cut b n (ops.Write a f l bytes)) ≡ true → fold (left_by x) m (cut b n (ops.Write a f l bytes)) ≡ put x a f l bytes.items m
write_parts x sized m long b zero a f l bytes low high whole all = one_write x m long a f l bytes (cut b 0 (ops.Write a f l bytes)) (cut_none b (ops.Write a f l bytes)) all
write_parts x sized m long b (suc n) a f l bytes low high whole all = cut_by {P = fold (left_by x) m (cut b (suc n) (ops.Write a f l bytes)) ≡ put x a f l bytes.items m} b n (ops.Write a f l bytes)
    (λ is. one_write x m long a f l bytes (cut b (suc n) (ops.Write a f l bytes)) is all)
    (λ d e less is.
    let op = ops.Write a f l bytes in
    let dw = length bytes.items / 4 in
    let xs = take (4 * d) bytes.items in
    let ws = drop (4 * d) bytes.items in
    let first = ops.Write a f (inner d) (record { items = xs }) in
    let rest = ops.Write (a + 4 * d) (rest_first (dw - d) l) (rest_last (dw - d) l) (record { items = ws }) in
    let served = all_served x first (cut b n rest) (ap (list_all (is_served x)) (sym is) ∙ all) in
    let long_xs : length xs ≡ 4 * d = length-take-le (4 * d) bytes.items (omega (arith, less, whole)) in
    let long_ws : length ws ≡ length bytes.items - 4 * d = length-drop (4 * d) bytes.items in
    let lie = lies x first served.0 in
    let some = some_bytes (length xs) lie.length_right in
    let i = a - x.base in
    let dw_xs : length xs / 4 ≡ d = omega (arith, long_xs) in
    let dw_ws : length ws / 4 ≡ dw - d = omega (arith, long_ws, whole, less) in
    let at_least : 1 ≤ d = omega (arith, some.0, long_xs) in
    let more : 1 ≤ dw - d = omega (arith, less) in
    let sum : d + (dw - d) ≡ dw = omega (arith, less) in
    let es = enables d f (inner d) in
    let fs = enables (dw - d) (rest_first (dw - d) l) (rest_last (dw - d) l) in
    let both : enables dw f l ≡ es ++ fs = ap (λ v. enables v f l) (sym sum) ∙ enables_split d (dw - d) f l at_least more in
    let m1 = left_by x m first in
    let one : m1 ≡ write es xs i m = after_served x m first long lie.none ∙ ap (λ v. write (enables v f (inner d)) xs i m) dw_xs in
    let two = write_parts x sized m1 (sized x.base x.block m first ∙ long) b n (a + 4 * d) (rest_first (dw - d) l) (rest_last (dw - d) l) (record { items = ws })
    (omega (arith, low)) (omega (arith, high, long_ws, whole, less)) (omega (arith, dw_ws, long_ws, whole, less)) served.1 in
    let there : a + 4 * d - x.base ≡ i + length xs = omega (arith, low, long_xs) in
    let size : length xs ≡ length es = long_xs ∙ sym (length_enables d f (inner d) at_least) in
    let room : i + (length xs + length ws) ≤ length m = omega (arith, low, high, long, long_xs, long_ws, whole, less) in
    ap (fold (left_by x) m) is ∙ two
    ∙ ap (λ v. write (enables v (rest_first (dw - d) l) (rest_last (dw - d) l)) ws (a + 4 * d - x.base) m1) dw_ws
    ∙ ap (λ v. write fs ws v m1) there ∙ ap (write fs ws (i + length xs)) one
    ∙ sym (writes_in_turn m xs ws es fs i room size)
    ∙ ap (λ v. write v (xs ++ ws) i m) (sym both) ∙ ap (λ v. write (enables dw f l) v i m) (take-append-drop (4 * d) bytes.items))

-- ---- together

pub cut_acts : (x : Extent) → Sized → Reads → (b : ℕ) (m : List ℕ) (op : Op) → length m ≡ x.size → is_served x op ≡ true → list_all (is_served x) (cut b (dw_of op) op) ≡ true
    → fold (left_by x) m (cut b (dw_of op) op) ≡ left_by x m op
cut_acts x sized law b m (ops.Read a dw f l) long own all = reads_change_nothing x law m (cut b dw (ops.Read a dw f l)) (reads_cut b dw a dw f l) ∙ sym (law x.base x.block a dw f l m)
cut_acts x sized law b m (ops.Write a f l bytes) long own all =
    let lie = lies x (ops.Write a f l bytes) own in
    let some = some_bytes (length bytes.items) lie.length_right in
    write_parts x sized m long b (length bytes.items / 4) a f l bytes lie.low lie.high some.1 all ∙ sym (after_served x m (ops.Write a f l bytes) long lie.none)
cut_acts x sized law b m (ops.FetchAdd a w v) long own all = ap (fold (left_by x) m) (cut_none b (ops.FetchAdd a w v))
cut_acts x sized law b m (ops.Swap a w v) long own all = ap (fold (left_by x) m) (cut_none b (ops.Swap a w v))
cut_acts x sized law b m (ops.Cas a w v y) long own all = ap (fold (left_by x) m) (cut_none b (ops.Cas a w v y))

one_still : (x : Extent) (m : List ℕ) (op piece : Op) (j : ℕ) (xs : List Op) → xs ≡ op ∷ [] → slice_get xs j ≡ Some piece → fold (left_by x) m (take j xs) ≡ m
one_still x m op piece j xs is at =
    let first = (alone op piece j (ap (λ (ys : List Op). slice_get ys j) (sym is) ∙ at)).0 in
    ap (λ k. fold (left_by x) m (take k xs)) first

pub cut_still : (x : Extent) → Reads → (b : ℕ) (m : List ℕ) (op piece : Op) (j : ℕ) → is_posted op ≡ false → slice_get (cut b (dw_of op) op) j ≡ Some piece → fold (left_by x) m (take j (cut b (dw_of op) op)) ≡ m
cut_still x law b m (ops.Read a dw f l) piece j refuted at = reads_change_nothing x law m (take j (cut b dw (ops.Read a dw f l))) (take_reads j (cut b dw (ops.Read a dw f l)) (reads_cut b dw a dw f l))
cut_still x law b m (ops.Write a f l bytes) piece j refuted at = absurd (cc refuted)
cut_still x law b m (ops.FetchAdd a w v) piece j refuted at = one_still x m (ops.FetchAdd a w v) piece j (cut b 0 (ops.FetchAdd a w v)) (cut_none b (ops.FetchAdd a w v)) at
cut_still x law b m (ops.Swap a w v) piece j refuted at = one_still x m (ops.Swap a w v) piece j (cut b 0 (ops.Swap a w v)) (cut_none b (ops.Swap a w v)) at
cut_still x law b m (ops.Cas a w v y) piece j refuted at = one_still x m (ops.Cas a w v y) piece j (cut b 0 (ops.Cas a w v y)) (cut_none b (ops.Cas a w v y)) at

one_replied : (x : Extent) (m : List ℕ) (op piece : Op) (j : ℕ) (part : Reply) (xs : List Op) → xs ≡ op ∷ [] → slice_get xs j ≡ Some piece → slice_get (parts xs (answer x.base x.block m op)) j ≡ Some part → answer x.base x.block m piece ≡ part
one_replied x m op piece j part xs is at there =
    let mine = alone op piece j (ap (λ (ys : List Op). slice_get ys j) (sym is) ∙ at) in
    ap (answer x.base x.block m) (sym mine.1)
    ∙ same_Some (answer x.base x.block m op) part
    (sym (ap (λ (ys : List Op). slice_get (parts ys (answer x.base x.block m op)) j) is ∙ ap (slice_get (answer x.base x.block m op ∷ [])) mine.0) ∙ there)

pub cut_replied : (x : Extent) (b : ℕ) (m : List ℕ) (op piece : Op) (j : ℕ) (part : Reply) → length m ≡ x.size → is_served x op ≡ true → list_all (is_served x) (cut b (dw_of op) op) ≡ true → is_posted op ≡ false
    → slice_get (cut b (dw_of op) op) j ≡ Some piece → slice_get (parts (cut b (dw_of op) op) (answer x.base x.block m op)) j ≡ Some part → answer x.base x.block m piece ≡ part
cut_replied x b m (ops.Read a dw f l) piece j part long own all refuted at there =
    let lie = lies x (ops.Read a dw f l) own in
    read_parts x m long b dw a dw f l lie.low lie.high all j piece part at
    (ap (λ (r : Reply). slice_get (parts (cut b dw (ops.Read a dw f l)) r) j) (sym (answer_served x m (ops.Read a dw f l) long lie.none)) ∙ there)
cut_replied x b m (ops.Write a f l bytes) piece j part long own all refuted at there = absurd (cc refuted)
cut_replied x b m (ops.FetchAdd a w v) piece j part long own all refuted at there = one_replied x m (ops.FetchAdd a w v) piece j part (cut b 0 (ops.FetchAdd a w v)) (cut_none b (ops.FetchAdd a w v)) at there
cut_replied x b m (ops.Swap a w v) piece j part long own all refuted at there = one_replied x m (ops.Swap a w v) piece j part (cut b 0 (ops.Swap a w v)) (cut_none b (ops.Swap a w v)) at there
cut_replied x b m (ops.Cas a w v y) piece j part long own all refuted at there = one_replied x m (ops.Cas a w v y) piece j part (cut b 0 (ops.Cas a w v y)) (cut_none b (ops.Cas a w v y)) at there
