-- What explains a log explains it in pieces: the pieces of each request act in turn, in the place of the request.
use Rattle.std.proofs.Common.{◌≡◌, ◌∙◌, ℕ, zero, suc, ◌+◌, ◌<◌, ◌≤◌, ◌++◌, ◌∷◌, [], List, Option, Some, None, true, false, length, take, drop, map, fold, refl, sym, ap, subst, inl, inr, arith, length-append, take-append-drop}
use Rattle.std.specs.Prelude.{slice_get, filter_map, option_map, replicate}
use Rattle.std.specs.List.{list_any}
use Rattle.std.proofs.lemmas.Bool.{cases_eq, cases_lt, eq-eqb, ne_eqb, eqb-true}
use Rattle.std.proofs.lemmas.List.{take_at, length-replicate, length-take-le}
use Rattle.std.proofs.lemmas.List.Elements.{filter_map-append}
use Rattle.std.proofs.lemmas.Grind.{fold-append}
use Rattle.std.proofs.lemmas.Option.{same_Some, slice_get_within}
use Rattle.tlp_core.specs.Ops.{Op}
use Rattle.tlp_core.specs.Operation.{is_posted}
use Rattle.seq_memory.specs.Entries.{Entry}
use Rattle.seq_memory.specs.Entries.{Reply}
use Rattle.seq_memory.specs.Limits.{Extent}
use Rattle.seq_memory.specs.Step.{after, answer}
use Rattle.seq_memory.specs.History.{contents, contents_at, reply_at}
use Rattle.history_words.specs.Records.{Record}
use Rattle.history_words.specs.declared.record.RecordOf.TheVariants as records
use Rattle.history_words.specs.Claim.{Claim}
use Rattle.history_words.specs.Clocks.{IsClocked}
use Rattle.history_words.specs.Flaws.{moment}
use Rattle.history_words.specs.Trace.{submissions, submission, answers_to, is_request, stands, IsNumbered, IsLawful, IsLegal, IsLinear, Explains}
use Rattle.op_pieces.specs.Pieces.{parts}
use Rattle.log_pieces.specs.InPieces.{width, numbered, subs, answers, answers_by}
use Rattle.log_pieces.proofs.Chunks.{get_add, concat, start, placed, start_rises, start_next, one_place, start_below, take_placed, take_map, get_map, In, found, take_get, get_take, any_from, any_is, none_from, apart, get_left}
use Rattle.log_pieces.proofs.Shapes.{acts, acts_get, get_acts, length_acts, subs_get, get_subs, length_subs, answers_get, first, numbered_at, same_subs, other_subs, no_subs, take_subs}

-- one step of the memory
abbrev pub step : Extent → List ℕ → Op → List ℕ
step x m op = after x.base x.block m op

-- what is asked of the pieces of operations
pub record Cuts (x : Extent) (p : Op → List Op) : Type 0 where
  pub posted : (op piece : Op) (j : ℕ) → slice_get (p op) j ≡ Some piece → is_posted piece ≡ is_posted op
  pub acts : (m : List ℕ) (op : Op) → length m ≡ x.size → fold (step x) m (p op) ≡ step x m op
  pub still : (m : List ℕ) (op piece : Op) (j : ℕ) → length m ≡ x.size → is_posted op ≡ false → slice_get (p op) j ≡ Some piece → fold (step x) m (take j (p op)) ≡ m
  pub replied : (m : List ℕ) (op piece : Op) (j : ℕ) (part : Reply) → length m ≡ x.size → is_posted op ≡ false → slice_get (p op) j ≡ Some piece
      → slice_get (parts (p op) (answer x.base x.block m op)) j ≡ Some part → answer x.base x.block m piece ≡ part
  pub many : (op : Op) (reply : Reply) → length (parts (p op) reply) ≡ length (p op)

abbrev pub Sized : Type 0
Sized = (base block : ℕ) (m : List ℕ) (op : Op) → length (after base block m op) ≡ length m

abbrev pub claim : Extent → List Record → List Entry → Claim
claim x rs h = record { memory = record { base = x.base; size = x.size; block = x.block; entries = h }; records = rs }

-- ---- bytes

fold_acts : (x : Extent) (m : List ℕ) (i k : ℕ) (ops : List Op) → fold (λ m e. after x.base x.block m e.op) m (acts i k ops) ≡ fold (step x) m ops
fold_acts x m i k [] = refl
fold_acts x m i k (op ∷ ops) = fold_acts x (step x m op) i (suc k) ops

take_acts : (i k : ℕ) (ops : List Op) (j : ℕ) → take j (acts i k ops) ≡ acts i k (take j ops)
take_acts i k ops zero = refl
take_acts i k [] (suc j) = refl
take_acts i k (op ∷ ops) (suc j) = ap (λ xs. record { requester = i; number = k; op = op } ∷ xs) (take_acts i (suc k) ops j)

-- ---- two requests are one

same_request : (i k : ℕ) (e : Entry) → is_request i k e ≡ true → (i ≡ e.requester) × (k ≡ e.number)
same_request i k e h = grind (arith, eqb-true)

is_same : (i k : ℕ) (e : Entry) → i ≡ e.requester → k ≡ e.number → is_request i k e ≡ true
is_same i k e a b = rw (a, b, eq-eqb e.requester e.requester refl, eq-eqb e.number e.number refl) refl

answers_same : (i k a m n : ℕ) (r : Reply) → answers_to i k (records.Ans a m r n) ≡ true → (i ≡ a) × (k ≡ m)
answers_same i k a m n r h = grind (arith, eqb-true)

is_answer : (i k n : ℕ) (r : Reply) → answers_to i k (records.Ans i k r n) ≡ true
is_answer i k n r = rw (eq-eqb i i refl, eq-eqb k k refl) refl

get_past : {X : Type 0} → (xs : List X) (y : X) (ys : List X) → slice_get (xs ++ y ∷ ys) (length xs) ≡ Some y
get_past [] y ys = refl
get_past (x ∷ xs) y ys = get_past xs y ys

drop_at_get : {X : Type 0} → (xs : List X) (a : ℕ) (x : X) → slice_get xs a ≡ Some x → drop a xs ≡ x ∷ drop (suc a) xs
drop_at_get [] a x e = cc
drop_at_get (y ∷ xs) zero x e = ap (λ z. z ∷ xs) (same_Some y x e)
drop_at_get (y ∷ xs) (suc a) x e = drop_at_get xs a x e

own : (i k n : ℕ) (op : Op) (rs : List Record) → submissions (records.Sub i k op n ∷ rs) i ≡ op ∷ submissions rs i
own i k n op rs = rw (eq-eqb i i refl) refl

-- what the requester submitted, by the submission at a place
around : (rs : List Record) (a i k n : ℕ) (op : Op) → slice_get rs a ≡ Some (records.Sub i k op n)
    → submissions rs i ≡ submissions (take a rs) i ++ op ∷ submissions (drop (suc a) rs) i
around rs a i k n op at =
    ap (λ (xs : List Record). submissions xs i) (sym (take-append-drop a rs)) ∙ filter_map-append (submission i) (take a rs) (drop a rs)
    ∙ ap (λ (xs : List Record). submissions (take a rs) i ++ submissions xs i) (drop_at_get rs a (records.Sub i k op n) at)
    ∙ ap (λ (xs : List Op). submissions (take a rs) i ++ xs) (own i k n op (drop (suc a) rs))

pub listed_in : (rs : List Record) → IsNumbered rs → (a i k n : ℕ) (op : Op) → slice_get rs a ≡ Some (records.Sub i k op n) → slice_get (submissions rs i) k ≡ Some op
listed_in rs numbered a i k n op at =
    ap (λ (xs : List Op). slice_get xs k) (around rs a i k n op at)
    ∙ ap (slice_get (submissions (take a rs) i ++ op ∷ submissions (drop (suc a) rs) i)) (numbered a i k n op at)
    ∙ get_past (submissions (take a rs) i) op (submissions (drop (suc a) rs) i)

-- ---- a log, and a history that explains it

-- the entries of an entry's pieces
abbrev pub of_entry : (Op → List Op) → (ℕ → List Op) → Entry → List Entry
of_entry p s e = acts e.requester (first p (s e.requester) e.number) (p e.op)

-- where the pieces of the n-th entry begin
abbrev pub clock : (Op → List Op) → (ℕ → List Op) → List Entry → ℕ → ℕ
clock p s h n = start (map (of_entry p s) h) n

-- the records of a record's pieces, at these clocks
abbrev pub of_record : (Op → List Op) → (ℕ → List Op) → (ℕ → ℕ) → Record → List Record
of_record p s time (records.Sub i k op n) = subs i (first p (s i) k) (time n) (p op)
of_record p s time (records.Ans i k reply n) = answers_by p (slice_get (numbered p 0 (s i)) k) i (width p (s i)) (time n) reply

abbrev pub all_entries : (Op → List Op) → (ℕ → List Op) → List Entry → List Entry
all_entries p s h = concat (map (of_entry p s) h)

abbrev pub all_records : (Op → List Op) → (ℕ → List Op) → (ℕ → ℕ) → List Record → List Record
all_records p s time rs = concat (map (of_record p s time) rs)

-- what is known of them
pub record Known (p : Op → List Op) (s : ℕ → List Op) (rs : List Record) (h : List Entry) : Type 0 where
  pub subs_are : (i : ℕ) → submissions rs i ≡ s i
  pub count : (a i k n : ℕ) (op : Op) → slice_get rs a ≡ Some (records.Sub i k op n) → submissions (take a rs) i ≡ take k (s i)
  pub listed : (a i k n : ℕ) (op : Op) → slice_get rs a ≡ Some (records.Sub i k op n) → slice_get (s i) k ≡ Some op
  pub asked : (a i k n : ℕ) (reply : Reply) → slice_get rs a ≡ Some (records.Ans i k reply n) → (op : Op) × (slice_get (s i) k ≡ Some op)
  pub acted : (q : ℕ) (e : Entry) → slice_get h q ≡ Some e → slice_get (s e.requester) e.number ≡ Some e.op

-- pieces of one request have other numbers than those of another
one_piece : (p : Op → List Op) (ops : List Op) (k l j m : ℕ) (op w : Op) → slice_get ops k ≡ Some op → slice_get ops l ≡ Some w → j < length (p op) → m < length (p w)
    → first p ops k + j ≡ first p ops l + m → (k ≡ l) × (j ≡ m)
one_piece p ops k l j m op w a b l1 l2 e = one_place (map p ops) k l j m (p op) (p w) (get_map p ops k op a) (get_map p ops l w b) l1 l2 e

within : {X : Type 0} → (xs : List X) (a : ℕ) (x : X) → slice_get xs a ≡ Some x → a < length xs
within xs a x e = slice_get_within xs a x e

-- the pieces of a request that stands stand
stand_pieces : (p : Op → List Op) (s : ℕ → List Op) (h : List Entry) (i k j : ℕ) (op piece : Op)
    → ((q : ℕ) (e : Entry) → slice_get h q ≡ Some e → slice_get (s e.requester) e.number ≡ Some e.op)
    → slice_get (s i) k ≡ Some op → slice_get (p op) j ≡ Some piece → stands h i k ≡ true → stands (all_entries p s h) i (first p (s i) k + j) ≡ true
stand_pieces p s h i k j op piece acted has at sure =
    let (q, e, there, is) = any_is (is_request i k) h sure in
    let same = same_request i k e is in
    let eq : e.op ≡ op = same_Some e.op op (sym (acted q e there) ∙ ap (λ a. slice_get (s a) e.number) (sym same.0) ∙ ap (slice_get (s i)) (sym same.1) ∙ has) in
    let inside : slice_get (p e.op) j ≡ Some piece = ap (λ (o : Op). slice_get (p o) j) eq ∙ at in
    let y : Entry = record { requester = e.requester; number = first p (s e.requester) e.number + j; op = piece } in
    let stands_at : slice_get (all_entries p s h) (clock p s h q + j) ≡ Some y =
    placed (map (of_entry p s) h) q j (of_entry p s e) y (get_map (of_entry p s) h q e there) (get_acts e.requester (first p (s e.requester) e.number) (p e.op) j piece inside) in
    let number : first p (s i) k + j ≡ first p (s e.requester) e.number + j = ap (λ a. first p (s a) k + j) same.0 ∙ ap (λ l. first p (s e.requester) l + j) same.1 in
    any_from (is_request i (first p (s i) k + j)) (all_entries p s h) (clock p s h q + j) y stands_at (is_same i (first p (s i) k + j) y same.0 number)

-- ---- the submissions of the pieces

pieces_of : (p : Op → List Op) (s : ℕ → List Op) (time : ℕ → ℕ) (i : ℕ) (rs : List Record) → submissions (all_records p s time rs) i ≡ concat (map p (submissions rs i))
pieces_of p s time i [] = refl
pieces_of p s time i (records.Sub j k op n ∷ rs) =
    filter_map-append (submission i) (subs j (first p (s j) k) (time n) (p op)) (all_records p s time rs)
    ∙ elim (cases_eq i j) [
      | inl same ↦
          let mine : filter_map (submission i) (subs j (first p (s j) k) (time n) (p op)) ≡ p op =
          ap (λ a. filter_map (submission i) (subs a (first p (s j) k) (time n) (p op))) (sym same) ∙ same_subs i (first p (s j) k) (time n) (p op) in
          let all : submissions (records.Sub j k op n ∷ rs) i ≡ op ∷ submissions rs i = ap (λ a. submissions (records.Sub a k op n ∷ rs) i) (sym same) ∙ own i k n op rs in
          ap (λ xs. xs ++ submissions (all_records p s time rs) i) mine ∙ ap (λ xs. p op ++ xs) (pieces_of p s time i rs)
          ∙ sym (ap (λ (ops : List Op). concat (map p ops)) all)
      | inr other ↦
          let all : submissions (records.Sub j k op n ∷ rs) i ≡ submissions rs i = rw (ne_eqb i j other) refl in
          ap (λ xs. xs ++ submissions (all_records p s time rs) i) (other_subs i j (first p (s j) k) (time n) (p op) other)
          ∙ pieces_of p s time i rs ∙ sym (ap (λ (ops : List Op). concat (map p ops)) all)
    ]
pieces_of p s time i (records.Ans j k reply n ∷ rs) =
    filter_map-append (submission i) (of_record p s time (records.Ans j k reply n)) (all_records p s time rs)
    ∙ ap (λ xs. xs ++ submissions (all_records p s time rs) i) (none_by i j (slice_get (numbered p 0 (s j)) k) (width p (s j)) (time n) reply) ∙ pieces_of p s time i rs
  where
    none_by : (i j : ℕ) (o : Option (ℕ × Op)) (next n : ℕ) (reply : Reply) → filter_map (submission i) (answers_by p o j next n reply) ≡ []
    none_by i j None next n reply = refl
    none_by i j (Some (k, op)) next n reply = no_subs i j k n (parts (p op) reply)

-- ---- the history of pieces is legal

module _ (p : Op → List Op) (s : ℕ → List Op) (rs : List Record) (h : List Entry) (known : Known p s rs h)
    (posted : (op piece : Op) (j : ℕ) → slice_get (p op) j ≡ Some piece → is_posted piece ≡ is_posted op) (legal : IsLegal s h) where
  legal_pieces : IsLegal (λ i. concat (map p (s i))) (all_entries p s h)
  legal_pieces a y at =
      let f = found Entry Entry (of_entry p s) h a y at in
      let e = f.x in
      let i = e.requester in
      let k = e.number in
      let (op, is, inside) = acts_get i (first p (s i) k) (p e.op) f.index y f.at in
      let law = legal f.place e f.has in
      let j = f.index in
      let short : j < length (p e.op) = within (p e.op) j op inside in
      let listed : slice_get (map p (s i)) k ≡ Some (p e.op) = get_map p (s i) k e.op law.submitted in
      let before_is : take a (all_entries p s h) ≡ all_entries p s (take f.place h) ++ acts i (first p (s i) k) (take j (p e.op)) =
      f.before ∙ ap (λ xs. all_entries p s (take f.place h) ++ xs) (take_acts i (first p (s i) k) (p e.op) j) in
      let lawful : IsLawful (λ i. concat (map p (s i))) (all_entries p s (take f.place h) ++ acts i (first p (s i) k) (take j (p e.op))) (record { requester = i; number = first p (s i) k + j; op = op }) = record {
        submitted = placed (map p (s i)) k j (p e.op) op listed inside;
        once = none_from (is_request i (first p (s i) k + j)) (all_entries p s (take f.place h) ++ acts i (first p (s i) k) (take j (p e.op))) (λ b z there sure.
            let same = same_request i (first p (s i) k + j) z sure in
            elim (apart (all_entries p s (take f.place h)) (acts i (first p (s i) k) (take j (p e.op))) b z there) [
              | inl early ↦
                  let g = found Entry Entry (of_entry p s) (take f.place h) b z early in
                  let d = g.x in
                  let (w, what, low) = acts_get d.requester (first p (s d.requester) d.number) (p d.op) g.index z g.at in
                  let (less, has) = take_get f.place g.place h d g.has in
                  let who : i ≡ d.requester = same.0 ∙ ap (λ (v : Entry). v.requester) what in
                  let number : first p (s i) k + j ≡ first p (s i) d.number + g.index =
                  same.1 ∙ ap (λ (v : Entry). v.number) what ∙ ap (λ v. first p (s v) d.number + g.index) (sym who) in
                  let there : slice_get (s i) d.number ≡ Some d.op = ap (λ v. slice_get (s v) d.number) who ∙ known.acted g.place d has in
                  let one = one_piece p (s i) k d.number j g.index e.op d.op law.submitted there short (within (p d.op) g.index w low) number in
                  let stood : stands (take f.place h) i k ≡ true = any_from (is_request i k) (take f.place h) g.place d g.has (is_same i k d who one.0) in
                  let refuted : true ≡ false = sym stood ∙ law.once in
                  cc refuted
              | inr late ↦
                  let (c, place, last) = late in
                  let (w, what, low) = acts_get i (first p (s i) k) (take j (p e.op)) c z last in
                  let less = (take_get j c (p e.op) w low).0 in
                  let number : first p (s i) k + j ≡ first p (s i) k + c = same.1 ∙ ap (λ (v : Entry). v.number) what in
                  absurd (omega (arith, less, number))
            ]);
        ordered = λ l w low has sure.
            let g = found Op Op p (s i) l w has in
            let big = get_map p (s i) g.place g.x g.has in
            let is_write : is_posted g.x ≡ true = sym (posted g.x w g.index g.at) ∙ sure in
            let inner : g.index < length (p g.x) = within (p g.x) g.index w g.at in
            let front = all_entries p s (take f.place h) in
            let own = acts i (first p (s i) k) (take j (p e.op)) in
            elim (cases_lt g.place k) [
              | inl less ↦
                  let stood : stands (take f.place h) i g.place ≡ true = law.ordered g.place g.x less g.has is_write in
                  let sure : stands front i (first p (s i) g.place + g.index) ≡ true =
                  stand_pieces p s (take f.place h) i g.place g.index g.x w (λ q d there. known.acted q d (take_get f.place q h d there).1) g.has g.at stood in
                  let (b, z, there, is) = any_is (is_request i (first p (s i) g.place + g.index)) front sure in
                  let wide : slice_get (front ++ own) b ≡ Some z = get_left front own b (within front b z there) ∙ there in
                  ap (λ n. stands (front ++ own) i n) g.is ∙ any_from (is_request i (first p (s i) g.place + g.index)) (front ++ own) b z wide is
              | inr more ↦ elim (cases_lt k g.place) [
                | inl past ↦ let far = start_next (map p (s i)) k g.place (p e.op) listed past in absurd (omega (arith, far, low, g.is, short))
                | inr same ↦
                    let eq : g.place ≡ k = omega (arith, more, same) in
                    let at_k : first p (s i) g.place ≡ first p (s i) k = ap (first p (s i)) eq in
                    let smaller : g.index < j = omega (arith, low, g.is, at_k) in
                    let op_is : g.x ≡ e.op = same_Some g.x e.op (sym g.has ∙ ap (slice_get (s i)) eq ∙ law.submitted) in
                    let in_take : slice_get (take j (p e.op)) g.index ≡ Some w = get_take j g.index (p e.op) w smaller (ap (λ (o : Op). slice_get (p o) g.index) (sym op_is) ∙ g.at) in
                    let z : Entry = record { requester = i; number = first p (s i) k + g.index; op = w } in
                    let there : slice_get own g.index ≡ Some z = get_acts i (first p (s i) k) (take j (p e.op)) g.index w in_take in
                    let wide : slice_get (front ++ own) (length front + g.index) ≡ Some z = get_add front own g.index (length front + g.index) refl ∙ there in
                    any_from (is_request i l) (front ++ own) (length front + g.index) z wide (is_same i l z refl (omega (arith, g.is, at_k)))
              ]
            ];
      } in
      subst (λ (xs : List Entry). IsLawful (λ i. concat (map p (s i))) xs y) (sym before_is)
      (subst (λ (v : Entry). IsLawful (λ i. concat (map p (s i))) (all_entries p s (take f.place h) ++ acts i (first p (s i) k) (take j (p e.op))) v) (sym is) lawful)

-- ---- the bytes

contents_size : (x : Extent) → Sized → (m : List ℕ) (h : List Entry) → length (fold (λ b e. after x.base x.block b e.op) m h) ≡ length m
contents_size x sized m [] = refl
contents_size x sized m (e ∷ h) = contents_size x sized (after x.base x.block m e.op) h ∙ sized x.base x.block m e.op

same_bytes : (x : Extent) (p : Op → List Op) (s : ℕ → List Op) → Cuts x p → Sized → (m : List ℕ) (h : List Entry) → length m ≡ x.size
    → fold (λ b e. after x.base x.block b e.op) m (all_entries p s h) ≡ fold (λ b e. after x.base x.block b e.op) m h
same_bytes x p s cuts sized m [] long = refl
same_bytes x p s cuts sized m (e ∷ h) long =
    fold-append (λ b d. after x.base x.block b d.op) m (of_entry p s e) (all_entries p s h)
    ∙ ap (λ b. fold (λ b d. after x.base x.block b d.op) b (all_entries p s h)) (fold_acts x m e.requester (first p (s e.requester) e.number) (p e.op) ∙ cuts.acts m e.op long)
    ∙ same_bytes x p s cuts sized (step x m e.op) h (sized x.base x.block m e.op ∙ long)

same_contents : (x : Extent) (p : Op → List Op) (s : ℕ → List Op) → Cuts x p → Sized → (h : List Entry) → contents x (all_entries p s h) ≡ contents x h
unfolding contents
same_contents x p s cuts sized h = same_bytes x p s cuts sized (replicate x.size 0) h (length-replicate x.size 0)

size_of_contents : (x : Extent) → Sized → (h : List Entry) → length (contents x h) ≡ x.size
unfolding contents
size_of_contents x sized h = contents_size x sized (replicate x.size 0) h ∙ length-replicate x.size 0

contents_more : (x : Extent) (h g : List Entry) → contents x (h ++ g) ≡ fold (λ b e. after x.base x.block b e.op) (contents x h) g
unfolding contents
contents_more x h g = fold-append (λ b e. after x.base x.block b e.op) (replicate x.size 0) h g

-- the bytes that a piece of a request that isn't posted finds are those that the request found
found_bytes : (x : Extent) (p : Op → List Op) (s : ℕ → List Op) → Cuts x p → Sized → (h : List Entry) (i k j : ℕ) (op piece : Op) → is_posted op ≡ false → slice_get (p op) j ≡ Some piece
    → contents x (all_entries p s h ++ take j (acts i k (p op))) ≡ contents x h
found_bytes x p s cuts sized h i k j op piece not_posted at =
    contents_more x (all_entries p s h) (take j (acts i k (p op)))
    ∙ ap (λ m. fold (λ b e. after x.base x.block b e.op) m (take j (acts i k (p op)))) (same_contents x p s cuts sized h)
    ∙ ap (fold (λ b e. after x.base x.block b e.op) (contents x h)) (take_acts i k (p op) j)
    ∙ fold_acts x (contents x h) i k (take j (p op))
    ∙ cuts.still (contents x h) op piece j (size_of_contents x sized h) not_posted at

reply_found : (x : Extent) (h : List Entry) (p : ℕ) (e : Entry) → slice_get h p ≡ Some e → reply_at x h p ≡ Some (answer x.base x.block (contents_at x h p) e.op)
reply_found x h p e at = ap (option_map (λ (d : Entry). answer x.base x.block (contents_at x h p) d.op)) at

some_same : {X : Type 0} → (a b : X) → Some a ≡ Some b → a ≡ b
some_same a b e = same_Some a b e

-- ---- the answers to the pieces

sub_is_no_answer : (i j k m n o : ℕ) (op : Op) (reply : Reply) → ◌≡◌ {A = Record} (records.Sub i k op n) (records.Ans j m reply o) → ⊥
sub_is_no_answer i j k m n o op reply e = cc

ans_is_no_sub : (i j k m n o : ℕ) (op : Op) (reply : Reply) → ◌≡◌ {A = Record} (records.Ans j m reply o) (records.Sub i k op n) → ⊥
ans_is_no_sub i j k m n o op reply e = cc

record SameAnswer (i j k l n m : ℕ) (r q : Reply) : Type 0 where
  who : i ≡ j
  number : k ≡ l
  reply : r ≡ q
  time : n ≡ m

same_answer : (i j k l n m : ℕ) (r q : Reply) → ◌≡◌ {A = Record} (records.Ans i k r n) (records.Ans j l q m) → SameAnswer i j k l n m r q
same_answer i j k l n m r q e = record { who = cc; number = cc; reply = cc; time = cc }

record SameSub (i j k l n m : ℕ) (r q : Op) : Type 0 where
  who : i ≡ j
  number : k ≡ l
  op : r ≡ q
  time : n ≡ m

same_sub : (i j k l n m : ℕ) (r q : Op) → ◌≡◌ {A = Record} (records.Sub i k r n) (records.Sub j l q m) → SameSub i j k l n m r q
same_sub i j k l n m r q e = record { who = cc; number = cc; op = cc; time = cc }

-- an answer to a piece is one of the answers to its request
record OfAnswer (p : Op → List Op) (s : ℕ → List Op) (time : ℕ → ℕ) (rs : List Record) (a j l t : ℕ) (part : Reply) : Type 0 where
  place : ℕ
  number : ℕ
  index : ℕ
  reply : Reply
  n : ℕ
  op : Op
  has : slice_get rs place ≡ Some (records.Ans j number reply n)
  listed : slice_get (s j) number ≡ Some op
  number_is : l ≡ first p (s j) number + index
  time_is : t ≡ time n
  short : index < length (p op)
  at : slice_get (parts (p op) reply) index ≡ Some part
  is : a ≡ start (map (of_record p s time) rs) place + index
  before : take a (all_records p s time rs) ≡ all_records p s time (take place rs) ++ take index (answers j (first p (s j) number) (time n) (parts (p op) reply))

-- a submission of a piece is one of the submissions of its request's
record OfSub (p : Op → List Op) (s : ℕ → List Op) (time : ℕ → ℕ) (rs : List Record) (a j l t : ℕ) (piece : Op) : Type 0 where
  place : ℕ
  number : ℕ
  index : ℕ
  n : ℕ
  op : Op
  has : slice_get rs place ≡ Some (records.Sub j number op n)
  number_is : l ≡ first p (s j) number + index
  time_is : t ≡ time n
  at : slice_get (p op) index ≡ Some piece
  is : a ≡ start (map (of_record p s time) rs) place + index
  before : take a (all_records p s time rs) ≡ all_records p s time (take place rs) ++ take index (subs j (first p (s j) number) (time n) (p op))

module _ (p : Op → List Op) (s : ℕ → List Op) (time : ℕ → ℕ) (rs : List Record) (h : List Entry) (known : Known p s rs h)
    (many : (op : Op) (reply : Reply) → length (parts (p op) reply) ≡ length (p op)) where
  chunk_of_answer : (i k n : ℕ) (op : Op) (reply : Reply) → slice_get (s i) k ≡ Some op
      → of_record p s time (records.Ans i k reply n) ≡ answers i (first p (s i) k) (time n) (parts (p op) reply)
  chunk_of_answer i k n op reply has = ap (λ o. answers_by p o i (width p (s i)) (time n) reply) (numbered_at p (s i) k op has)

  answer_by : (a j l t : ℕ) (part : Reply) (f : In Record Record (of_record p s time) rs a (records.Ans j l part t)) (r : Record) → f.x ≡ r → OfAnswer p s time rs a j l t part
  answer_by a j l t part f (records.Sub i k op n) e =
      let there : slice_get (subs i (first p (s i) k) (time n) (p op)) f.index ≡ Some (records.Ans j l part t) = ap (λ (r : Record). slice_get (of_record p s time r) f.index) (sym e) ∙ f.at in
      let (w, is, low) = subs_get i (first p (s i) k) (time n) (p op) f.index (records.Ans j l part t) there in
      absurd (ans_is_no_sub i j (first p (s i) k + f.index) l (time n) t w part is)
  answer_by a j l t part f (records.Ans i k reply n) e =
      let has : slice_get rs f.place ≡ Some (records.Ans i k reply n) = f.has ∙ ap Some e in
      let (op, listed) = known.asked f.place i k n reply has in
      let chunk : of_record p s time f.x ≡ answers i (first p (s i) k) (time n) (parts (p op) reply) = ap (of_record p s time) e ∙ chunk_of_answer i k n op reply listed in
      let there : slice_get (answers i (first p (s i) k) (time n) (parts (p op) reply)) f.index ≡ Some (records.Ans j l part t) = ap (λ (xs : List Record). slice_get xs f.index) (sym chunk) ∙ f.at in
      let (w, is, low) = answers_get i (first p (s i) k) (time n) (parts (p op) reply) f.index (records.Ans j l part t) there in
      let same = same_answer j i l (first p (s i) k + f.index) t (time n) part w is in
      let me : i ≡ j = sym same.who in
      record {
        place = f.place;
        number = k;
        index = f.index;
        reply = reply;
        n = n;
        op = op;
        has = has ∙ ap (λ v. Some (records.Ans v k reply n)) me;
        listed = ap (λ v. slice_get (s v) k) (sym me) ∙ listed;
        number_is = same.number ∙ ap (λ v. first p (s v) k + f.index) me;
        time_is = same.time;
        short = let size = many op reply in let inside = within (parts (p op) reply) f.index w low in omega (arith, size, inside);
        at = low ∙ ap Some (sym same.reply);
        is = f.is;
        before = f.before ∙ ap (λ (xs : List Record). all_records p s time (take f.place rs) ++ take f.index xs) chunk
            ∙ ap (λ v. all_records p s time (take f.place rs) ++ take f.index (answers v (first p (s v) k) (time n) (parts (p op) reply))) me;
      }

  of_answer : (a j l t : ℕ) (part : Reply) → slice_get (all_records p s time rs) a ≡ Some (records.Ans j l part t) → OfAnswer p s time rs a j l t part
  of_answer a j l t part e =
      let f = found Record Record (of_record p s time) rs a (records.Ans j l part t) e in
      answer_by a j l t part f f.x refl

  sub_by : (a j l t : ℕ) (piece : Op) (f : In Record Record (of_record p s time) rs a (records.Sub j l piece t)) (r : Record) → f.x ≡ r → OfSub p s time rs a j l t piece
  sub_by a j l t piece f (records.Ans i k reply n) e =
      let has : slice_get rs f.place ≡ Some (records.Ans i k reply n) = f.has ∙ ap Some e in
      let (op, listed) = known.asked f.place i k n reply has in
      let chunk : of_record p s time f.x ≡ answers i (first p (s i) k) (time n) (parts (p op) reply) = ap (of_record p s time) e ∙ chunk_of_answer i k n op reply listed in
      let there : slice_get (answers i (first p (s i) k) (time n) (parts (p op) reply)) f.index ≡ Some (records.Sub j l piece t) = ap (λ (xs : List Record). slice_get xs f.index) (sym chunk) ∙ f.at in
      let (w, is, low) = answers_get i (first p (s i) k) (time n) (parts (p op) reply) f.index (records.Sub j l piece t) there in
      absurd (sub_is_no_answer j i l (first p (s i) k + f.index) t (time n) piece w is)
  sub_by a j l t piece f (records.Sub i k op n) e =
      let has : slice_get rs f.place ≡ Some (records.Sub i k op n) = f.has ∙ ap Some e in
      let there : slice_get (subs i (first p (s i) k) (time n) (p op)) f.index ≡ Some (records.Sub j l piece t) = ap (λ (r : Record). slice_get (of_record p s time r) f.index) (sym e) ∙ f.at in
      let (w, is, low) = subs_get i (first p (s i) k) (time n) (p op) f.index (records.Sub j l piece t) there in
      let same = same_sub j i l (first p (s i) k + f.index) t (time n) piece w is in
      let me : i ≡ j = sym same.who in
      record {
        place = f.place;
        number = k;
        index = f.index;
        n = n;
        op = op;
        has = has ∙ ap (λ v. Some (records.Sub v k op n)) me;
        number_is = same.number ∙ ap (λ v. first p (s v) k + f.index) me;
        time_is = same.time;
        at = low ∙ ap Some (sym same.op);
        is = f.is;
        before = f.before ∙ ap (λ (r : Record). all_records p s time (take f.place rs) ++ take f.index (of_record p s time r)) e
            ∙ ap (λ v. all_records p s time (take f.place rs) ++ take f.index (subs v (first p (s v) k) (time n) (p op))) me;
      }

  of_sub : (a j l t : ℕ) (piece : Op) → slice_get (all_records p s time rs) a ≡ Some (records.Sub j l piece t) → OfSub p s time rs a j l t piece
  of_sub a j l t piece e =
      let f = found Record Record (of_record p s time) rs a (records.Sub j l piece t) e in
      sub_by a j l t piece f f.x refl

  -- the submissions of pieces are numbered
  numbered_pieces : IsNumbered (all_records p s time rs)
  numbered_pieces a j l t piece e =
      let f = of_sub a j l t piece e in
      let before : submissions (take a (all_records p s time rs)) j ≡ concat (map p (take f.number (s j))) ++ take f.index (p f.op) =
      ap (λ (xs : List Record). submissions xs j) f.before
      ∙ filter_map-append (submission j) (all_records p s time (take f.place rs)) (take f.index (subs j (first p (s j) f.number) (time f.n) (p f.op)))
      ∙ ap (λ (xs : List Op). xs ++ submissions (take f.index (subs j (first p (s j) f.number) (time f.n) (p f.op))) j)
      (pieces_of p s time j (take f.place rs) ∙ ap (λ (ops : List Op). concat (map p ops)) (known.count f.place j f.number f.n f.op f.has))
      ∙ ap (λ (xs : List Op). concat (map p (take f.number (s j))) ++ xs)
      (ap (λ (xs : List Record). submissions xs j) (take_subs j (first p (s j) f.number) (time f.n) (p f.op) f.index) ∙ same_subs j (first p (s j) f.number) (time f.n) (take f.index (p f.op))) in
      let inside = within (p f.op) f.index piece f.at in
      let short = length-take-le f.index (p f.op) (omega (arith, inside)) in
      let firsts : length (concat (map p (take f.number (s j)))) ≡ first p (s j) f.number = ap (λ (xss : List (List Op)). length (concat xss)) (sym (take_map p f.number (s j))) in
      let sum = length-append (concat (map p (take f.number (s j)))) (take f.index (p f.op)) in
      let all = ap length before in
      omega (arith, f.number_is, short, firsts, sum, all)

  -- an answer to a piece is explained
  module _ (x : Extent) (cuts : Cuts x p) (sized : Sized) (legal : IsLegal s h)
      (time_is : (n : ℕ) → time n ≡ clock p s h n) (linear : IsLinear (claim x rs h).memory rs) where
    linear_pieces : IsLinear (claim x (all_records p s time rs) (all_entries p s h)).memory (all_records p s time rs)
    linear_pieces a i l t part e =
        let f = of_answer a i l t part e in
        let k = f.number in
        let j = f.index in
        let whole = linear f.place i k f.n f.reply f.has in
        let (earlier, asked) = take_get f.place whole.place rs (records.Sub i k whole.op whole.since) whole.asked in
        let op_is : whole.op ≡ f.op = some_same whole.op f.op (sym (known.listed whole.place i k whole.since whole.op asked) ∙ f.listed) in
        let (piece, has_piece) = some_at (p f.op) j f.short in
        let posted_is : is_posted f.op ≡ false = ap is_posted (sym op_is) ∙ whole.not_posted in
        let acted : slice_get h whole.point ≡ Some (record { requester = i; number = k; op = f.op }) = whole.acted ∙ ap (λ (o : Op). Some (record { requester = i; number = k; op = o })) op_is in
        let asked_of : slice_get rs whole.place ≡ Some (records.Sub i k f.op whole.since) = asked ∙ ap (λ (o : Op). Some (records.Sub i k o whole.since)) op_is in
        let chunks = map (of_record p s time) rs in
        let sub_chunk : slice_get chunks whole.place ≡ Some (subs i (first p (s i) k) (time whole.since) (p f.op)) = get_map (of_record p s time) rs whole.place (records.Sub i k f.op whole.since) asked_of in
        let sub_place = start chunks whole.place + j in
        let sub_long : length (subs i (first p (s i) k) (time whole.since) (p f.op)) ≡ length (p f.op) = length_subs i (first p (s i) k) (time whole.since) (p f.op) in
        let sub_end = start_next chunks whole.place f.place (subs i (first p (s i) k) (time whole.since) (p f.op)) sub_chunk earlier in
        let sub_there : slice_get (all_records p s time rs) sub_place ≡ Some (records.Sub i (first p (s i) k + j) piece (time whole.since)) =
        placed chunks whole.place j (subs i (first p (s i) k) (time whole.since) (p f.op)) (records.Sub i (first p (s i) k + j) piece (time whole.since)) sub_chunk
        (get_subs i (first p (s i) k) (time whole.since) (p f.op) j piece has_piece) in
        let points = map (of_entry p s) h in
        let own : Entry = record { requester = i; number = k; op = f.op } in
        let act_chunk : slice_get points whole.point ≡ Some (acts i (first p (s i) k) (p f.op)) = get_map (of_entry p s) h whole.point own acted in
        let act_long : length (acts i (first p (s i) k) (p f.op)) ≡ length (p f.op) = length_acts i (first p (s i) k) (p f.op) in
        let act_there : slice_get (all_entries p s h) (start points whole.point + j) ≡ Some (record { requester = i; number = first p (s i) k + j; op = piece }) =
        placed points whole.point j (acts i (first p (s i) k) (p f.op)) (record { requester = i; number = first p (s i) k + j; op = piece }) act_chunk
        (get_acts i (first p (s i) k) (p f.op) j piece has_piece) in
        let short = f.short in
        let act_before : take (start points whole.point + j) (all_entries p s h) ≡ all_entries p s (take whole.point h) ++ take j (acts i (first p (s i) k) (p f.op)) =
        take_placed points whole.point j (acts i (first p (s i) k) (p f.op)) act_chunk (omega (arith, act_long, short))
        ∙ ap (λ (xss : List (List Entry)). concat xss ++ take j (acts i (first p (s i) k) (p f.op))) (take_map (of_entry p s) whole.point h) in
        let found_reply : f.reply ≡ answer x.base x.block (contents_at x h whole.point) f.op =
        some_same f.reply (answer x.base x.block (contents_at x h whole.point) f.op) (sym whole.replied ∙ reply_found x h whole.point own acted) in
        let part_at : slice_get (parts (p f.op) (answer x.base x.block (contents_at x h whole.point) f.op)) j ≡ Some part = ap (λ (r : Reply). slice_get (parts (p f.op) r) j) (sym found_reply) ∙ f.at in
        let bytes : contents x (take (start points whole.point + j) (all_entries p s h)) ≡ contents x (take whole.point h) =
        ap (contents x) act_before ∙ found_bytes x p s cuts sized (take whole.point h) i (first p (s i) k) j f.op piece posted_is has_piece in
        record {
          place = sub_place;
          op = piece;
          since = time whole.since;
          point = start points whole.point + j;
          asked = get_take a sub_place (all_records p s time rs) (records.Sub i l piece (time whole.since)) (omega (arith, sub_end, sub_long, short, f.is))
              (sub_there ∙ ap (λ v. Some (records.Sub i v piece (time whole.since))) (sym f.number_is));
          not_posted = cuts.posted f.op piece j has_piece ∙ posted_is;
          unanswered = none_from (answers_to i l) (take a (all_records p s time rs)) (λ b r there sure. never f.place k f.n j f.op f.reply f.listed f.short f.has whole.unanswered a i l f.is f.number_is b r there sure);
          acted = act_there ∙ ap (λ v. Some (record { requester = i; number = v; op = piece })) (sym f.number_is);
          after_submission = let up = start_rises points whole.since whole.point whole.after_submission in let at = time_is whole.since in omega (arith, up, at);
          before_answer =
              let up = start_next points whole.point f.n (acts i (first p (s i) k) (p f.op)) act_chunk whole.before_answer in
              let at = time_is f.n in
              omega (arith, up, at, act_long, short, f.time_is);
          replied = reply_found x (all_entries p s h) (start points whole.point + j) (record { requester = i; number = first p (s i) k + j; op = piece }) act_there
              ∙ ap (λ (m : List ℕ). Some (answer x.base x.block m piece)) bytes
              ∙ ap Some (cuts.replied (contents x (take whole.point h)) f.op piece j part (size_of_contents x sized (take whole.point h)) posted_is has_piece part_at);
          above = λ c m n r less there.
              let g = of_answer c i m n r (take_get a c (all_records p s time rs) (records.Ans i m r n) there).1 in
              let sooner : g.place < whole.place = before_sub whole.place k whole.since f.op asked_of j f.short g.place g.number g.n g.reply g.has g.index c i less g.is in
              let (piece_of, has_it) = some_at (p g.op) g.index g.short in
              let stood : stands (take whole.point h) i g.number ≡ true =
              whole.above g.place g.number g.n g.reply sooner (get_take f.place g.place rs (records.Ans i g.number g.reply g.n) (omega (arith, sooner, earlier)) g.has) in
              let front = all_entries p s (take whole.point h) in
              let tail = take j (acts i (first p (s i) k) (p f.op)) in
              let sure : stands front i (first p (s i) g.number + g.index) ≡ true =
              stand_pieces p s (take whole.point h) i g.number g.index g.op piece_of (λ q d at. known.acted q d (take_get whole.point q h d at).1) g.listed has_it stood in
              let (b, z, at, is) = any_is (is_request i (first p (s i) g.number + g.index)) front sure in
              let wide : slice_get (front ++ tail) b ≡ Some z = get_left front tail b (within front b z at) ∙ at in
              ap (λ (xs : List Entry). stands xs i m) act_before ∙ ap (λ v. stands (front ++ tail) i v) g.number_is
              ∙ any_from (is_request i (first p (s i) g.number + g.index)) (front ++ tail) b z wide is;
        }
      where
        some_at : {X : Type 0} → (xs : List X) (j : ℕ) → j < length xs → (y : X) × (slice_get xs j ≡ Some y)
        some_at [] j l = absurd (omega arith)
        some_at (y ∷ xs) zero l = (y, refl)
        some_at (y ∷ xs) (suc j) l = some_at xs j (omega arith)

        -- an answer to a piece before a piece of a submission answers a request that was answered before
        before_sub : (place k n : ℕ) (op : Op) → slice_get rs place ≡ Some (records.Sub i k op n) → (j : ℕ) → j < length (p op)
            → (other m o : ℕ) (r : Reply) → slice_get rs other ≡ Some (records.Ans i m r o) → (index c v : ℕ) → c < start (map (of_record p s time) rs) place + j → c ≡ start (map (of_record p s time) rs) other + index → other < place
        before_sub place k n op at j short other m o r there index c v less is = elim (cases_lt other place) [
          | inl l ↦ l
          | inr g ↦ elim (cases_lt place other) [
            | inl past ↦
                let chunk = subs i (first p (s i) k) (time n) (p op) in
                let far = start_next (map (of_record p s time) rs) place other chunk (get_map (of_record p s time) rs place (records.Sub i k op n) at) past in
                absurd (omega (arith, far, less, is, short, length_subs i (first p (s i) k) (time n) (p op)))
            | inr same ↦
                let eq : place ≡ other = omega (arith, g, same) in
                absurd (sub_is_no_answer i i k m n o op r (some_same (records.Sub i k op n) (records.Ans i m r o) (sym at ∙ ap (slice_get rs) eq ∙ there)))
          ]
        ]

        -- no piece was answered before, if the request wasn't
        never : (place k n j : ℕ) (op : Op) (reply : Reply) → slice_get (s i) k ≡ Some op → j < length (p op) → slice_get rs place ≡ Some (records.Ans i k reply n) → list_any (answers_to i k) (take place rs) ≡ false
            → (a v l : ℕ) → a ≡ start (map (of_record p s time) rs) place + j → l ≡ first p (s i) k + j
            → (b : ℕ) (r : Record) → slice_get (take a (all_records p s time rs)) b ≡ Some r → answers_to i l r ≡ true → ⊥
        never place k n j op reply listed short has none a v l is number b (records.Sub u w o t) there sure = absurd (cc sure)
        never place k n j op reply listed short has none a v l is number b (records.Ans u w o t) there sure =
            let (less, at) = take_get a b (all_records p s time rs) (records.Ans u w o t) there in
            let same = answers_same i l u w t o sure in
            let g = of_answer b u w t o at in
            let listed_u : slice_get (s i) g.number ≡ Some g.op = ap (λ q. slice_get (s q) g.number) same.0 ∙ g.listed in
            let numbers : first p (s i) k + j ≡ first p (s i) g.number + g.index = sym number ∙ same.1 ∙ g.number_is ∙ ap (λ q. first p (s q) g.number + g.index) (sym same.0) in
            let one = one_piece p (s i) k g.number j g.index op g.op listed listed_u short g.short numbers in
            elim (cases_lt g.place place) [
              | inl sooner ↦
                  let stood : list_any (answers_to i k) (take place rs) ≡ true =
                  any_from (answers_to i k) (take place rs) g.place (records.Ans u g.number g.reply g.n) (get_take place g.place rs (records.Ans u g.number g.reply g.n) sooner g.has)
                  (ap (λ q. answers_to q k (records.Ans u g.number g.reply g.n)) same.0 ∙ ap (λ q. answers_to u q (records.Ans u g.number g.reply g.n)) one.0 ∙ is_answer u g.number g.n g.reply) in
                  let refuted : true ≡ false = sym stood ∙ none in
                  cc refuted
              | inr later ↦
                  let up = start_rises (map (of_record p s time) rs) place g.place later in
                  absurd (omega (arith, up, less, is, g.is, one.1))
            ]

-- ---- the clocks

-- whose pieces a record is among, and when
record OfRecord (p : Op → List Op) (s : ℕ → List Op) (time : ℕ → ℕ) (rs : List Record) (a : ℕ) (r : Record) : Type 0 where
  place : ℕ
  index : ℕ
  whole : Record
  has : slice_get rs place ≡ Some whole
  time_is : moment r ≡ time (moment whole)
  short : index < length (of_record p s time whole)
  is : a ≡ start (map (of_record p s time) rs) place + index

moment_of_sub : (i k n j : ℕ) (ops : List Op) (r : Record) → slice_get (subs i k n ops) j ≡ Some r → moment r ≡ n
moment_of_sub i k n j ops r e = let (op, is, at) = subs_get i k n ops j r e in ap moment is

moment_of_answer : (p : Op → List Op) (o : Option (ℕ × Op)) (i next n j : ℕ) (reply : Reply) (r : Record) → slice_get (answers_by p o i next n reply) j ≡ Some r → moment r ≡ n
moment_of_answer p None i next n zero reply r e = ap moment (sym (some_same (records.Ans i next reply n) r e))
moment_of_answer p None i next n (suc j) reply r e = absurd (cc e)
moment_of_answer p (Some (k, op)) i next n j reply r e = let (part, is, at) = answers_get i k n (parts (p op) reply) j r e in ap moment is

moment_of : (p : Op → List Op) (s : ℕ → List Op) (time : ℕ → ℕ) (j : ℕ) (whole r : Record) → slice_get (of_record p s time whole) j ≡ Some r → moment r ≡ time (moment whole)
moment_of p s time j (records.Sub i k op n) r e = moment_of_sub i (first p (s i) k) (time n) j (p op) r e
moment_of p s time j (records.Ans i k reply n) r e = moment_of_answer p (slice_get (numbered p 0 (s i)) k) i (width p (s i)) (time n) j reply r e

of_any : (p : Op → List Op) (s : ℕ → List Op) (time : ℕ → ℕ) (rs : List Record) (a : ℕ) (r : Record) → slice_get (all_records p s time rs) a ≡ Some r → OfRecord p s time rs a r
of_any p s time rs a r e =
    let f = found Record Record (of_record p s time) rs a r e in
    record {
      place = f.place;
      index = f.index;
      whole = f.x;
      has = f.has;
      time_is = moment_of p s time f.index f.x r f.at;
      short = within (of_record p s time f.x) f.index r f.at;
      is = f.is;
    }

no_later : (p : Op → List Op) (s : ℕ → List Op) (time : ℕ → ℕ) (rs : List Record) (a b : ℕ) (r q : Record) (f : OfRecord p s time rs a r) (g : OfRecord p s time rs b q) → a < b → f.place ≤ g.place
no_later p s time rs a b r q f g l = elim (cases_lt g.place f.place) [
  | inl past ↦
      let far = start_next (map (of_record p s time) rs) g.place f.place (of_record p s time g.whole) (get_map (of_record p s time) rs g.place g.whole g.has) past in
      absurd (omega (arith, far, l, f.is, g.is, g.short))
  | inr fine ↦ fine
]

moments_rise : (x : Extent) (rs : List Record) (h : List Entry) → IsClocked (claim x rs h) → (a b : ℕ) (r q : Record) → a ≤ b → slice_get rs a ≡ Some r → slice_get rs b ≡ Some q → moment r ≤ moment q
moments_rise x rs h clocked a b r q l at to = elim (cases_lt a b) [
  | inl less ↦ clocked.rises a b r q less at to
  | inr more ↦
      let eq : a ≡ b = omega (arith, l, more) in
      let same : r ≡ q = some_same r q (sym at ∙ ap (slice_get rs) eq ∙ to) in
      subst (λ (v : Record). moment r ≤ moment v) same (omega arith)
]

clocked_pieces : (x : Extent) (p : Op → List Op) (s : ℕ → List Op) (rs : List Record) (h : List Entry) (known : Known p s rs h)
    → ((op : Op) (reply : Reply) → length (parts (p op) reply) ≡ length (p op)) → IsClocked (claim x rs h)
    → IsClocked (claim x (all_records p s (clock p s h) rs) (all_entries p s h))
clocked_pieces x p s rs h known many clocked = record {
  rises = λ a b r q less at to.
      let f = of_any p s (clock p s h) rs a r at in
      let g = of_any p s (clock p s h) rs b q to in
      let up = start_rises (map (of_entry p s) h) (moment f.whole) (moment g.whole) (moments_rise x rs h clocked f.place g.place f.whole g.whole (no_later p s (clock p s h) rs a b r q f g less) f.has g.has) in
      omega (arith, up, f.time_is, g.time_is);
  bounded = λ a r at.
      let f = of_any p s (clock p s h) rs a r at in
      let most = start_below (map (of_entry p s) h) (moment f.whole) in
      omega (arith, most, f.time_is);
  after_submission = λ a b n e op at there.
      let f = found Entry Entry (of_entry p s) h a e at in
      let d = f.x in
      let (piece, is, inside) = acts_get d.requester (first p (s d.requester) d.number) (p d.op) f.index e f.at in
      let g = of_sub p s (clock p s h) rs h known many b e.requester e.number n op there in
      let who : d.requester ≡ e.requester = sym (ap (λ (v : Entry). v.requester) is) in
      let listed_d : slice_get (s d.requester) d.number ≡ Some d.op = known.acted f.place d f.has in
      let listed_g : slice_get (s d.requester) g.number ≡ Some g.op = ap (λ v. slice_get (s v) g.number) who ∙ known.listed g.place e.requester g.number g.n g.op g.has in
      let numbers : first p (s d.requester) d.number + f.index ≡ first p (s d.requester) g.number + g.index =
      sym (ap (λ (v : Entry). v.number) is) ∙ g.number_is ∙ ap (λ v. first p (s v) g.number + g.index) (sym who) in
      let one = one_piece p (s d.requester) d.number g.number f.index g.index d.op g.op listed_d listed_g (within (p d.op) f.index piece inside) (within (p g.op) g.index op g.at) numbers in
      let sub_of : slice_get rs g.place ≡ Some (records.Sub d.requester d.number g.op g.n) =
      g.has ∙ ap (λ v. Some (records.Sub v g.number g.op g.n)) (sym who) ∙ ap (λ v. Some (records.Sub d.requester v g.op g.n)) (sym one.0) in
      let since = clocked.after_submission f.place g.place g.n d g.op f.has sub_of in
      let up = start_rises (map (of_entry p s) h) g.n f.place since in
      omega (arith, up, g.time_is, f.is);
}

-- ---- together

pub known_of : (x : Extent) (p : Op → List Op) (rs : List Record) (h : List Entry) → Explains (claim x rs h) → Known p (submissions rs) rs h
known_of x p rs h e = record {
  subs_are = λ i. refl;
  count = count;
  listed = listed;
  asked = λ a i k n reply at.
      let whole = e.linear a i k n reply at in
      let (less, there) = take_get a whole.place rs (records.Sub i k whole.op whole.since) whole.asked in
      (whole.op, listed whole.place i k whole.since whole.op there);
  acted = λ q d at. (e.legal q d at).submitted;
}
  where
    count : (a i k n : ℕ) (op : Op) → slice_get rs a ≡ Some (records.Sub i k op n) → submissions (take a rs) i ≡ take k (submissions rs i)
    count a i k n op at =
        let long : length (submissions (take a rs) i) ≡ k = sym (e.numbered a i k n op at) in
        sym (ap (take k) (around rs a i k n op at) ∙ take_at (submissions (take a rs) i) (op ∷ submissions (drop (suc a) rs) i) k long)

    listed : (a i k n : ℕ) (op : Op) → slice_get rs a ≡ Some (records.Sub i k op n) → slice_get (submissions rs i) k ≡ Some op
    listed a i k n op at = listed_in rs e.numbered a i k n op at

-- the records in pieces, with the clocks of the history of pieces
abbrev pub records_in_pieces : (Op → List Op) → List Record → List Entry → List Record
records_in_pieces p rs h = all_records p (submissions rs) (clock p (submissions rs) h) rs

pub explained_in_pieces : (x : Extent) (p : Op → List Op) (rs : List Record) (h : List Entry) → Cuts x p → Sized → Explains (claim x rs h) → Explains (claim x (records_in_pieces p rs h) (all_entries p (submissions rs) h))
explained_in_pieces x p rs h cuts sized e =
    let s = submissions rs in
    let known = known_of x p rs h e in
    let time = clock p s h in
    record {
      numbered = numbered_pieces p s time rs h known cuts.many;
      legal = subst_subs (λ i. concat (map p (s i))) (submissions (all_records p s time rs)) (all_entries p s h) (λ i. sym (pieces_of p s time i rs)) (legal_pieces p s rs h known cuts.posted e.legal);
      linear = linear_pieces p s time rs h known cuts.many x cuts sized e.legal (λ n. refl) e.linear;
    }
  where
    subst_subs : (s t : ℕ → List Op) (h : List Entry) → ((i : ℕ) → s i ≡ t i) → IsLegal s h → IsLegal t h
    subst_subs s t h same legal q e at =
        let law = legal q e at in
        record {
          submitted = ap (λ (xs : List Op). slice_get xs e.number) (sym (same e.requester)) ∙ law.submitted;
          once = law.once;
          ordered = λ j op less has sure. law.ordered j op less (ap (λ (xs : List Op). slice_get xs j) (same e.requester) ∙ has) sure;
        }

pub clocked_in_pieces : (x : Extent) (p : Op → List Op) (rs : List Record) (h : List Entry) → Cuts x p → Explains (claim x rs h) → IsClocked (claim x rs h) → IsClocked (claim x (records_in_pieces p rs h) (all_entries p (submissions rs) h))
clocked_in_pieces x p rs h cuts e clocked = clocked_pieces x p (submissions rs) rs h (known_of x p rs h e) cuts.many clocked
