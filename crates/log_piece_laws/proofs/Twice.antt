-- A log in pieces, put in pieces again.
use Rattle.std.proofs.Common.{◌≡◌, ◌∙◌, ℕ, suc, ◌+◌, ◌≤◌, ◌++◌, ◌∷◌, [], List, Option, Some, None, Bool, true, false, length, map, refl, sym, ap, inl, inr, arith, length-append}
use Rattle.std.specs.Prelude.{slice_get, ◌==◌}
use Rattle.std.proofs.lemmas.Bool.{cases_eq, eq-eqb, ne_eqb}
use Rattle.std.proofs.lemmas.List.{append_assoc, append-nil, take-take, drop-take, drop-drop}
use Rattle.std.proofs.lemmas.List.Elements.{filter_map-append}
use Rattle.std.proofs.lemmas.Option.{slice_get_past}
use Rattle.tlp_core.specs.Ops.{Op}
use Rattle.tlp_core.specs.Operation.{count_of}
use Rattle.seq_memory.specs.Entries.{Reply}
use Rattle.seq_memory.specs.declared.reply.ReplyOf.TheVariants as replies
use Rattle.seq_memory.specs.Step.{data_of}
use Rattle.history_words.specs.Records.{Record}
use Rattle.history_words.specs.declared.record.RecordOf.TheVariants as records
use Rattle.history_words.specs.Trace.{submissions, submission}
use Rattle.op_pieces.specs.Pieces.{parts, front_of, back_of}
use Rattle.log_pieces.specs.InPieces.{width, numbered, subs, answers, answers_by, next_number, split, split_all}
use Rattle.log_piece_laws.proofs.Lists.{concat, chunks_append, stands_or_past}
use Rattle.log_piece_laws.proofs.Cuts.{counts}

-- the pieces of the pieces
abbrev pub twice : (Op → List Op) → (Op → List Op) → Op → List Op
twice p q op = concat (map p (q op))

-- what is asked of pieces: there is one, and together they have the operation's bytes
pub record Cuts (p : Op → List Op) : Type 0 where
  pub some : (op : Op) → (o : Op) × (os : List Op) × (p op ≡ o ∷ os)
  pub counted : (op : Op) → counts (p op) ≡ count_of op

-- ---- numbers

width_is : (p : Op → List Op) (ops : List Op) → width p ops ≡ length (concat (map p ops))
width_is p [] = refl
width_is p (op ∷ ops) = ap (λ n. length (p op) + n) (width_is p ops) ∙ sym (length-append (p op) (concat (map p ops)))

width_append : (p : Op → List Op) (xs ys : List Op) → width p (xs ++ ys) ≡ width p xs + width p ys
width_append p [] ys = omega arith
width_append p (x ∷ xs) ys = omega (arith, width_append p xs ys)

width_twice : (p q : Op → List Op) (ops : List Op) → width p (concat (map q ops)) ≡ width (twice p q) ops
width_twice p q [] = refl
width_twice p q (op ∷ ops) = width_append p (q op) (concat (map q ops)) ∙ omega (arith, width_is p (q op), width_twice p q ops)

pieces_twice : (p q : Op → List Op) (ops : List Op) → concat (map p (concat (map q ops))) ≡ concat (map (twice p q) ops)
pieces_twice p q [] = refl
pieces_twice p q (op ∷ ops) = chunks_append p (q op) (concat (map q ops)) ∙ ap (λ xs. twice p q op ++ xs) (pieces_twice p q ops)

numbered_from : (p : Op → List Op) (n : ℕ) (before : List Op) (op : Op) (behind : List Op) → slice_get (numbered p n (before ++ op ∷ behind)) (length before) ≡ Some (n + width p before, op)
numbered_from p n [] op behind = ap (λ m. Some (m, op)) (omega arith)
numbered_from p n (o ∷ before) op behind = numbered_from p (n + length (p o)) before op behind ∙ ap (λ m. Some (m, op)) (omega arith)

pub numbered_at : (p : Op → List Op) (before : List Op) (op : Op) (behind : List Op) → slice_get (numbered p 0 (before ++ op ∷ behind)) (length before) ≡ Some (width p before, op)
numbered_at p before op behind = numbered_from p 0 before op behind ∙ ap (λ m. Some (m, op)) (omega arith)

length_numbered : (p : Op → List Op) (n : ℕ) (ops : List Op) → length (numbered p n ops) ≡ length ops
length_numbered p n [] = refl
length_numbered p n (op ∷ ops) = ap suc (length_numbered p (n + length (p op)) ops)

numbered_past : (p : Op → List Op) (ops : List Op) (k : ℕ) → length ops ≤ k → slice_get (numbered p 0 ops) k ≡ None
numbered_past p ops k l = slice_get_past (numbered p 0 ops) k (omega (arith, length_numbered p 0 ops, l))

-- ---- records

pub subs_append : (i k n : ℕ) (xs ys : List Op) → subs i k n (xs ++ ys) ≡ subs i k n xs ++ subs i (k + length xs) n ys
subs_append i k n [] ys = ap (λ m. subs i m n ys) (omega arith)
subs_append i k n (x ∷ xs) ys = ap (λ rs. records.Sub i k x n ∷ rs) (subs_append i (suc k) n xs ys ∙ ap (λ m. subs i (suc k) n xs ++ subs i m n ys) (omega arith))

pub answers_append : (i k n : ℕ) (xs ys : List Reply) → answers i k n (xs ++ ys) ≡ answers i k n xs ++ answers i (k + length xs) n ys
answers_append i k n [] ys = ap (λ m. answers i m n ys) (omega arith)
answers_append i k n (x ∷ xs) ys = ap (λ rs. records.Ans i k x n ∷ rs) (answers_append i (suc k) n xs ys ∙ ap (λ m. answers i (suc k) n xs ++ answers i m n ys) (omega arith))

pub many_parts : (ops : List Op) (reply : Reply) → length (parts ops reply) ≡ length ops
many_parts [] reply = refl
many_parts (op ∷ []) reply = refl
many_parts (op ∷ other ∷ ops) reply = ap suc (many_parts (other ∷ ops) (back_of (count_of op) reply))

pub own : (i k n : ℕ) (op : Op) → submissions (records.Sub i k op n ∷ []) i ≡ op ∷ []
own i k n op = rw (eq-eqb i i refl) refl

pub submissions_more : (rs qs : List Record) (i : ℕ) → submissions (rs ++ qs) i ≡ submissions rs i ++ submissions qs i
submissions_more rs qs i = filter_map-append (submission i) rs qs

pub same_subs : (i k n : ℕ) (ops : List Op) → submissions (subs i k n ops) i ≡ ops
same_subs i k n [] = refl
same_subs i k n (op ∷ ops) = rw (eq-eqb i i refl) (ap (λ xs. op ∷ xs) (same_subs i (suc k) n ops))

pub other_subs : (i j k n : ℕ) (ops : List Op) → (i ≡ j → ⊥) → submissions (subs j k n ops) i ≡ []
other_subs i j k n [] d = refl
other_subs i j k n (op ∷ ops) d = rw (ne_eqb i j d) (other_subs i j (suc k) n ops d)

pub no_subs : (i j k n : ℕ) (rs : List Reply) → submissions (answers j k n rs) i ≡ []
no_subs i j k n [] = refl
no_subs i j k n (r ∷ rs) = no_subs i j (suc k) n rs

-- the submissions of a record in pieces
pub split_subs : (p : Op → List Op) (before : List Record) (r : Record) (i : ℕ) → submissions (split p before r) i ≡ concat (map p (submissions (r ∷ []) i))
split_subs p before (records.Sub j k op n) i = elim (cases_eq i j) [
  | inl same ↦
      let m = next_number (k == length (submissions before j)) (width p (submissions before j)) in
      let all : submissions (records.Sub j k op n ∷ []) i ≡ op ∷ [] = ap (λ a. submissions (records.Sub a k op n ∷ []) i) (sym same) ∙ own i k n op in
      ap (λ a. submissions (subs a m n (p op)) i) (sym same) ∙ same_subs i m n (p op) ∙ sym (append-nil (p op)) ∙ sym (ap (λ (ops : List Op). concat (map p ops)) all)
  | inr other ↦
      let m = next_number (k == length (submissions before j)) (width p (submissions before j)) in
      let all : submissions (records.Sub j k op n ∷ []) i ≡ [] = rw (ne_eqb i j other) refl in
      other_subs i j m n (p op) other ∙ sym (ap (λ (ops : List Op). concat (map p ops)) all)
]
split_subs p before (records.Ans j k reply n) i = by (slice_get (numbered p 0 (submissions before j)) k)
  where
    by : (o : Option (ℕ × Op)) → submissions (answers_by p o j (width p (submissions before j)) n reply) i ≡ []
    by None = refl
    by (Some (m, op)) = no_subs i j m n (parts (p op) reply)

pub split_append : (p : Op → List Op) (before rs qs : List Record) → split_all p before (rs ++ qs) ≡ split_all p before rs ++ split_all p (before ++ rs) qs
split_append p before [] qs = ap (λ b. split_all p b qs) (sym (append-nil before))
split_append p before (r ∷ rs) qs =
    ap (λ xs. split p before r ++ xs) (split_append p (before ++ r ∷ []) rs qs ∙ ap (λ b. split_all p (before ++ r ∷ []) rs ++ split_all p b qs) (append_assoc before (r ∷ []) rs))
    ∙ sym (append_assoc (split p before r) (split_all p (before ++ r ∷ []) rs) (split_all p (before ++ r ∷ rs) qs))

-- ---- submissions in pieces

next_is : (c : Bool) (n : ℕ) → (next_number c n == n) ≡ c
next_is true n = eq-eqb n n refl
next_is false n = ne_eqb (suc n) n (λ e. absurd (omega (arith, e)))

next_more : (c : Bool) (n m : ℕ) → next_number c n + m ≡ next_number c (n + m)
next_more true n m = refl
next_more false n m = omega arith

subs_twice : (p : Op → List Op) (c : Bool) (i n : ℕ) (before : List Record) (done xs : List Op) → submissions before i ≡ done
    → split_all p before (subs i (next_number c (length done)) n xs) ≡ subs i (next_number c (width p done)) n (concat (map p xs))
subs_twice p c i n before done [] is = refl
subs_twice p c i n before done (x ∷ xs) is =
    let r = records.Sub i (next_number c (length done)) x n in
    let number : (next_number c (length done) == length (submissions before i)) ≡ c = ap (λ (ops : List Op). next_number c (length done) == length ops) is ∙ next_is c (length done) in
    let one : split p before r ≡ subs i (next_number c (width p done)) n (p x) =
    ap (λ b. subs i (next_number b (width p (submissions before i))) n (p x)) number ∙ ap (λ (ops : List Op). subs i (next_number c (width p ops)) n (p x)) is in
    let now : submissions (before ++ r ∷ []) i ≡ done ++ x ∷ [] = submissions_more before (r ∷ []) i ∙ ap (λ ops. submissions before i ++ ops) (own i (next_number c (length done)) n x) ∙ ap (λ ops. ops ++ x ∷ []) is in
    let next : suc (next_number c (length done)) ≡ next_number c (length (done ++ x ∷ [])) =
    omega (arith, next_more c (length done) 1, ap (next_number c) (length-append done (x ∷ []))) in
    let wide : width p (done ++ x ∷ []) ≡ width p done + length (p x) = width_append p done (x ∷ []) ∙ omega arith in
    let number_of : next_number c (width p (done ++ x ∷ [])) ≡ next_number c (width p done) + length (p x) = ap (next_number c) wide ∙ sym (next_more c (width p done) (length (p x))) in
    ap (λ rs. rs ++ split_all p (before ++ r ∷ []) (subs i (suc (next_number c (length done))) n xs)) one
    ∙ ap (λ k. subs i (next_number c (width p done)) n (p x) ++ split_all p (before ++ r ∷ []) (subs i k n xs)) next
    ∙ ap (λ rs. subs i (next_number c (width p done)) n (p x) ++ rs) (subs_twice p c i n (before ++ r ∷ []) (done ++ x ∷ []) xs now ∙ ap (λ k. subs i k n (concat (map p xs))) number_of)
    ∙ sym (subs_append i (next_number c (width p done)) n (p x) (concat (map p xs)))

-- ---- replies in parts

front_front : (a b : ℕ) (r : Reply) → front_of a (front_of (a + b) r) ≡ front_of a r
front_front a b (replies.Data bytes) = ap data_of (take-take a (a + b) bytes.items (omega arith))
front_front a b replies.Done = refl
front_front a b replies.Unsupported = refl
front_front a b replies.Aborted = refl

back_front : (a b : ℕ) (r : Reply) → back_of a (front_of (a + b) r) ≡ front_of b (back_of a r)
back_front a b (replies.Data bytes) = ap data_of (drop-take a b bytes.items)
back_front a b replies.Done = refl
back_front a b replies.Unsupported = refl
back_front a b replies.Aborted = refl

back_back : (a b : ℕ) (r : Reply) → back_of b (back_of a r) ≡ back_of (a + b) r
back_back a b (replies.Data bytes) = ap data_of (drop-drop b a bytes.items)
back_back a b replies.Done = refl
back_back a b replies.Unsupported = refl
back_back a b replies.Aborted = refl

parts_append : (x : Op) (xs : List Op) (y : Op) (ys : List Op) (r : Reply)
    → parts ((x ∷ xs) ++ y ∷ ys) r ≡ parts (x ∷ xs) (front_of (counts (x ∷ xs)) r) ++ parts (y ∷ ys) (back_of (counts (x ∷ xs)) r)
parts_append x [] y ys r = ap (λ n. front_of n r ∷ parts (y ∷ ys) (back_of n r)) (omega arith)
parts_append x (z ∷ xs) y ys r =
    let a = count_of x in
    let b = counts (z ∷ xs) in
    ap (λ rs. front_of a r ∷ rs) (parts_append z xs y ys (back_of a r))
    ∙ ap (λ q. q ∷ (parts (z ∷ xs) (front_of b (back_of a r)) ++ parts (y ∷ ys) (back_of b (back_of a r)))) (sym (front_front a b r))
    ∙ ap (λ q. front_of a (front_of (a + b) r) ∷ (parts (z ∷ xs) q ++ parts (y ∷ ys) (back_of b (back_of a r)))) (sym (back_front a b r))
    ∙ ap (λ q. front_of a (front_of (a + b) r) ∷ (parts (z ∷ xs) (back_of a (front_of (a + b) r)) ++ parts (y ∷ ys) q)) (back_back a b r)

parts_of_pieces : (p : Op → List Op) → Cuts p → (x y : Op) (ys : List Op) (r : Reply)
    → parts (concat (map p (x ∷ y ∷ ys))) r ≡ parts (p x) (front_of (count_of x) r) ++ parts (concat (map p (y ∷ ys))) (back_of (count_of x) r)
parts_of_pieces p cuts x y ys r =
    let (o, os, is) = cuts.some x in
    let (u, us, are) = cuts.some y in
    let rest : concat (map p (y ∷ ys)) ≡ u ∷ (us ++ concat (map p ys)) = ap (λ xs. xs ++ concat (map p ys)) are in
    let counted : counts (o ∷ os) ≡ count_of x = ap counts (sym is) ∙ cuts.counted x in
    ap (λ xs. parts (xs ++ concat (map p (y ∷ ys))) r) is
    ∙ ap (λ xs. parts ((o ∷ os) ++ xs) r) rest
    ∙ parts_append o os u (us ++ concat (map p ys)) r
    ∙ ap (λ n. parts (o ∷ os) (front_of n r) ++ parts (u ∷ (us ++ concat (map p ys))) (back_of n r)) counted
    ∙ ap (λ xs. parts xs (front_of (count_of x) r) ++ parts (u ∷ (us ++ concat (map p ys))) (back_of (count_of x) r)) (sym is)
    ∙ ap (λ xs. parts (p x) (front_of (count_of x) r) ++ parts xs (back_of (count_of x) r)) (sym rest)

-- ---- answers in pieces

answered : (i k n : ℕ) (reply : Reply) (before : List Record) → submissions (before ++ records.Ans i k reply n ∷ []) i ≡ submissions before i
answered i k n reply before = submissions_more before (records.Ans i k reply n ∷ []) i ∙ append-nil (submissions before i)

-- the answer to one piece
one_answer : (p : Op → List Op) (i n : ℕ) (before : List Record) (front : List Op) (x : Op) (behind : List Op) (reply : Reply) → submissions before i ≡ front ++ x ∷ behind
    → split p before (records.Ans i (length front) reply n) ≡ answers i (width p front) n (parts (p x) reply)
one_answer p i n before front x behind reply is =
    let found : slice_get (numbered p 0 (submissions before i)) (length front) ≡ Some (width p front, x) =
    ap (λ (ops : List Op). slice_get (numbered p 0 ops) (length front)) is ∙ numbered_at p front x behind in
    ap (λ o. answers_by p o i (width p (submissions before i)) n reply) found

answers_twice : (p : Op → List Op) → Cuts p → (i n : ℕ) (before : List Record) (front xs behind : List Op) (reply : Reply) → submissions before i ≡ front ++ (xs ++ behind)
    → split_all p before (answers i (length front) n (parts xs reply)) ≡ answers i (width p front) n (parts (concat (map p xs)) reply)
answers_twice p cuts i n before front [] behind reply is = refl
answers_twice p cuts i n before front (x ∷ []) behind reply is =
    append-nil (split p before (records.Ans i (length front) reply n)) ∙ one_answer p i n before front x behind reply is
    ∙ ap (λ xs. answers i (width p front) n (parts xs reply)) (sym (append-nil (p x)))
answers_twice p cuts i n before front (x ∷ y ∷ xs) behind reply is =
    let part = front_of (count_of x) reply in
    let left = back_of (count_of x) reply in
    let r = records.Ans i (length front) part n in
    let now : submissions (before ++ r ∷ []) i ≡ (front ++ x ∷ []) ++ ((y ∷ xs) ++ behind) =
    answered i (length front) n part before ∙ is ∙ sym (append_assoc front (x ∷ []) ((y ∷ xs) ++ behind)) in
    let next : suc (length front) ≡ length (front ++ x ∷ []) = omega (arith, length-append front (x ∷ [])) in
    let wide : width p (front ++ x ∷ []) ≡ width p front + length (parts (p x) part) = width_append p front (x ∷ []) ∙ omega (arith, many_parts (p x) part) in
    ap (λ rs. rs ++ split_all p (before ++ r ∷ []) (answers i (suc (length front)) n (parts (y ∷ xs) left))) (one_answer p i n before front x ((y ∷ xs) ++ behind) part is)
    ∙ ap (λ k. answers i (width p front) n (parts (p x) part) ++ split_all p (before ++ r ∷ []) (answers i k n (parts (y ∷ xs) left))) next
    ∙ ap (λ rs. answers i (width p front) n (parts (p x) part) ++ rs)
    (answers_twice p cuts i n (before ++ r ∷ []) (front ++ x ∷ []) (y ∷ xs) behind left now ∙ ap (λ k. answers i k n (parts (concat (map p (y ∷ xs))) left)) wide)
    ∙ sym (answers_append i (width p front) n (parts (p x) part) (parts (concat (map p (y ∷ xs))) left))
    ∙ ap (answers i (width p front) n) (sym (parts_of_pieces p cuts x y xs reply))

-- ---- all records

-- what each requester submitted in pieces
abbrev InPieces : (Op → List Op) → List Record → List Record → Type 0
InPieces q before pieces = (i : ℕ) → submissions pieces i ≡ concat (map q (submissions before i))

split_twice : (p q : Op → List Op) → Cuts p → (before pieces : List Record) (r : Record) → InPieces q before pieces → split_all p pieces (split q before r) ≡ split (twice p q) before r
split_twice p q cuts before pieces (records.Sub i k op n) are =
    let ops = submissions before i in
    let c = k == length ops in
    let many : length (concat (map q ops)) ≡ width q ops = sym (width_is q ops) in
    ap (λ m. split_all p pieces (subs i (next_number c m) n (q op))) (sym many)
    ∙ subs_twice p c i n pieces (concat (map q ops)) (q op) (are i)
    ∙ ap (λ m. subs i (next_number c m) n (twice p q op)) (width_twice p q ops)
split_twice p q cuts before pieces (records.Ans i k reply n) are = elim (stands_or_past (submissions before i) k) [
  | inl s ↦
      let ops = submissions before i in
      let number : length (concat (map q s.before)) ≡ width q s.before = sym (width_is q s.before) in
      let here : slice_get (numbered q 0 ops) k ≡ Some (width q s.before, s.x) =
      ap (λ (xs : List Op). slice_get (numbered q 0 xs) k) s.is ∙ ap (slice_get (numbered q 0 (s.before ++ s.x ∷ s.behind))) (sym s.place) ∙ numbered_at q s.before s.x s.behind in
      let there : slice_get (numbered (twice p q) 0 ops) k ≡ Some (width (twice p q) s.before, s.x) =
      ap (λ (xs : List Op). slice_get (numbered (twice p q) 0 xs) k) s.is ∙ ap (slice_get (numbered (twice p q) 0 (s.before ++ s.x ∷ s.behind))) (sym s.place) ∙ numbered_at (twice p q) s.before s.x s.behind in
      let all : submissions pieces i ≡ concat (map q s.before) ++ (q s.x ++ concat (map q s.behind)) =
      are i ∙ ap (λ (xs : List Op). concat (map q xs)) s.is ∙ chunks_append q s.before (s.x ∷ s.behind) in
      ap (λ o. split_all p pieces (answers_by q o i (width q ops) n reply)) here
      ∙ ap (λ m. split_all p pieces (answers i m n (parts (q s.x) reply))) (sym number)
      ∙ answers_twice p cuts i n pieces (concat (map q s.before)) (q s.x) (concat (map q s.behind)) reply all
      ∙ ap (λ m. answers i m n (parts (twice p q s.x) reply)) (width_twice p q s.before)
      ∙ sym (ap (λ o. answers_by (twice p q) o i (width (twice p q) ops) n reply) there)
  | inr past ↦
      let ops = submissions before i in
      let many : length (concat (map q ops)) ≡ width q ops = sym (width_is q ops) in
      let here : slice_get (numbered q 0 ops) k ≡ None = numbered_past q ops k past in
      let there : slice_get (numbered (twice p q) 0 ops) k ≡ None = numbered_past (twice p q) ops k past in
      let r = records.Ans i (width q ops) reply n in
      let again : slice_get (numbered p 0 (submissions pieces i)) (width q ops) ≡ None =
      ap (λ (xs : List Op). slice_get (numbered p 0 xs) (width q ops)) (are i) ∙ numbered_past p (concat (map q ops)) (width q ops) (omega (arith, many)) in
      ap (λ o. split_all p pieces (answers_by q o i (width q ops) n reply)) here
      ∙ append-nil (split p pieces r)
      ∙ ap (λ o. answers_by p o i (width p (submissions pieces i)) n reply) again
      ∙ ap (λ (xs : List Op). records.Ans i (width p xs) reply n ∷ []) (are i)
      ∙ ap (λ m. records.Ans i m reply n ∷ []) (width_twice p q ops)
      ∙ sym (ap (λ o. answers_by (twice p q) o i (width (twice p q) ops) n reply) there)
]

all_twice : (p q : Op → List Op) → Cuts p → (before pieces rs : List Record) → InPieces q before pieces → split_all p pieces (split_all q before rs) ≡ split_all (twice p q) before rs
all_twice p q cuts before pieces [] are = refl
all_twice p q cuts before pieces (r ∷ rs) are =
    let more : InPieces q (before ++ r ∷ []) (pieces ++ split q before r) = λ i.
    submissions_more pieces (split q before r) i ∙ ap (λ xs. xs ++ submissions (split q before r) i) (are i)
    ∙ ap (λ xs. concat (map q (submissions before i)) ++ xs) (split_subs q before r i)
    ∙ sym (chunks_append q (submissions before i) (submissions (r ∷ []) i))
    ∙ sym (ap (λ (xs : List Op). concat (map q xs)) (submissions_more before (r ∷ []) i)) in
    split_append p pieces (split q before r) (split_all q (before ++ r ∷ []) rs)
    ∙ ap (λ xs. xs ++ split_all p (pieces ++ split q before r) (split_all q (before ++ r ∷ []) rs)) (split_twice p q cuts before pieces r are)
    ∙ ap (λ xs. split (twice p q) before r ++ xs) (all_twice p q cuts (before ++ r ∷ []) (pieces ++ split q before r) rs more)

pub records_twice : (p q : Op → List Op) → Cuts p → (rs : List Record) → split_all p [] (split_all q [] rs) ≡ split_all (twice p q) [] rs
records_twice p q cuts rs = all_twice p q cuts [] [] rs (λ i. refl)
