-- The pieces of a log have the same records but for n, by their places and by the numbers of their requests.
use Rattle.std.proofs.Common.{◌≡◌, ◌∙◌, ℕ, suc, ◌++◌, ◌∷◌, [], List, Option, Some, None, true, length, take, drop, map, refl, sym, ap, subst, arith, inl, inr, take-append-drop}
use Rattle.std.specs.Prelude.{slice_get, ◌==◌}
use Rattle.std.proofs.lemmas.Bool.{eq-eqb}
use Rattle.std.proofs.lemmas.List.{append_assoc, append-nil, map-append, take-take}
use Rattle.std.proofs.lemmas.List.Elements.{filter_map-append}
use Rattle.std.proofs.lemmas.Option.{slice_get_within}
use Rattle.tlp_core.specs.Ops.{Op}
use Rattle.tlp_core.specs.Operation.{count_of}
use Rattle.seq_memory.specs.Entries.{Entry}
use Rattle.seq_memory.specs.Entries.{Reply}
use Rattle.seq_memory.specs.Limits.{Extent}
use Rattle.history_words.specs.Records.{Record}
use Rattle.history_words.specs.declared.record.RecordOf.TheVariants as records
use Rattle.history_words.specs.Trace.{submissions, submission, IsNumbered, Explains}
use Rattle.log_runs.specs.Explainable.{MayBe, IsSeenAs, AreSeenAs}
use Rattle.op_pieces.specs.Pieces.{parts, front_of, back_of}
use Rattle.log_pieces.specs.InPieces.{width, numbered, subs, answers, answers_by, next_number, split, split_all}
use Rattle.log_pieces.proofs.Chunks.{take_get}
use Rattle.log_pieces.proofs.Shapes.{first, width_is, numbered_at, first_stays}
use Rattle.log_pieces.proofs.Explained.{claim, clock, of_record, all_records, listed_in, records_in_pieces, known_of}

-- the record but for its n
abbrev pub without_n : Record → Record
without_n (records.Sub i k op n) = records.Sub i k op 0
without_n (records.Ans i k reply n) = records.Ans i k reply 0

subs_without : (i k n : ℕ) (ops : List Op) → map without_n (subs i k n ops) ≡ subs i k 0 ops
subs_without i k n [] = refl
subs_without i k n (op ∷ ops) = ap (λ xs. records.Sub i k op 0 ∷ xs) (subs_without i (suc k) n ops)

answers_without : (i k n : ℕ) (rs : List Reply) → map without_n (answers i k n rs) ≡ answers i k 0 rs
answers_without i k n [] = refl
answers_without i k n (r ∷ rs) = ap (λ xs. records.Ans i k r 0 ∷ xs) (answers_without i (suc k) n rs)

-- ---- records that a log has, with and without a reply

seen_append : (rs us qs ws : List Record) → AreSeenAs rs us → AreSeenAs qs ws → AreSeenAs (rs ++ qs) (us ++ ws)
seen_append [] [] qs ws e f = f
seen_append [] (u ∷ us) qs ws e f = absurd e
seen_append (r ∷ rs) [] qs ws e f = absurd e
seen_append (r ∷ rs) (u ∷ us) qs ws e f = (e.0, seen_append rs us qs ws e.1 f)

subs_seen : (i k n m : ℕ) (ops : List Op) → AreSeenAs (subs i k n ops) (subs i k m ops)
subs_seen i k n m [] = tt
subs_seen i k n m (op ∷ ops) = ((refl, refl, refl), subs_seen i (suc k) n m ops)

front_may : (n : ℕ) (told made : Reply) → MayBe told made → MayBe (front_of n told) (front_of n made)
front_may n told made (inl done) = inl (ap (front_of n) done)
front_may n told made (inr same) = inr (ap (front_of n) same)

back_may : (n : ℕ) (told made : Reply) → MayBe told made → MayBe (back_of n told) (back_of n made)
back_may n told made (inl done) = inl (ap (back_of n) done)
back_may n told made (inr same) = inr (ap (back_of n) same)

answers_seen : (i k n m : ℕ) (ops : List Op) (told made : Reply) → MayBe told made → AreSeenAs (answers i k n (parts ops told)) (answers i k m (parts ops made))
answers_seen i k n m [] told made may = tt
answers_seen i k n m (op ∷ []) told made may = ((refl, refl, may), tt)
answers_seen i k n m (op ∷ other ∷ ops) told made may =
    ((refl, refl, front_may (count_of op) told made may), answers_seen i (suc k) n m (other ∷ ops) (back_of (count_of op) told) (back_of (count_of op) made) (back_may (count_of op) told made may))

by_seen : (p : Op → List Op) (o : Option (ℕ × Op)) (i next n m : ℕ) (told made : Reply) → MayBe told made → AreSeenAs (answers_by p o i next n told) (answers_by p o i next m made)
by_seen p None i next n m told made may = ((refl, refl, may), tt)
by_seen p (Some (k, op)) i next n m told made may = answers_seen i k n m (p op) told made may

-- the same submissions of each requester
abbrev SameSubmissions : List Record → List Record → Type 0
SameSubmissions rs us = (i : ℕ) → submissions rs i ≡ submissions us i

split_seen : (p : Op → List Op) (rs us : List Record) (r u : Record) → SameSubmissions rs us → IsSeenAs r u → AreSeenAs (split p rs r) (split p us u)
split_seen p rs us (records.Sub i k op n) (records.Sub j l w m) same e =
    rw (e.0, e.1, e.2, same j) (subs_seen j (next_number (l == length (submissions us j)) (width p (submissions us j))) n m (p w))
split_seen p rs us (records.Sub i k op n) (records.Ans j l made m) same e = absurd e
split_seen p rs us (records.Ans i k told n) (records.Sub j l w m) same e = absurd e
split_seen p rs us (records.Ans i k told n) (records.Ans j l made m) same e =
    rw (e.0, e.1, same j) (by_seen p (slice_get (numbered p 0 (submissions us j)) l) j (width p (submissions us j)) n m told made e.2)

one_submission : (i : ℕ) (r u : Record) → IsSeenAs r u → submissions (r ∷ []) i ≡ submissions (u ∷ []) i
one_submission i (records.Sub j k op n) (records.Sub l m w q) e = rw (e.0, e.2) refl
one_submission i (records.Sub j k op n) (records.Ans l m made q) e = absurd e
one_submission i (records.Ans j k told n) (records.Sub l m w q) e = absurd e
one_submission i (records.Ans j k told n) (records.Ans l m made q) e = refl

same_more : (rs us : List Record) (r u : Record) → SameSubmissions rs us → IsSeenAs r u → SameSubmissions (rs ++ r ∷ []) (us ++ u ∷ [])
same_more rs us r u same e i =
    filter_map-append (submission i) rs (r ∷ []) ∙ ap (λ (xs : List Op). xs ++ submissions (r ∷ []) i) (same i)
    ∙ ap (λ (xs : List Op). submissions us i ++ xs) (one_submission i r u e) ∙ sym (filter_map-append (submission i) us (u ∷ []))

all_seen : (p : Op → List Op) (bs cs rs us : List Record) → SameSubmissions bs cs → AreSeenAs rs us → AreSeenAs (split_all p bs rs) (split_all p cs us)
all_seen p bs cs [] [] same e = tt
all_seen p bs cs [] (u ∷ us) same e = absurd e
all_seen p bs cs (r ∷ rs) [] same e = absurd e
all_seen p bs cs (r ∷ rs) (u ∷ us) same e =
    seen_append (split p bs r) (split p cs u) (split_all p (bs ++ r ∷ []) rs) (split_all p (cs ++ u ∷ []) us)
    (split_seen p bs cs r u same e.0) (all_seen p (bs ++ r ∷ []) (cs ++ u ∷ []) rs us (same_more bs cs r u same e.0) e.1)

one_but_n : (r u w : Record) → IsSeenAs r u → without_n u ≡ without_n w → IsSeenAs r w
one_but_n (records.Sub i k op n) (records.Sub j l w m) (records.Sub a b c d) e f =
    let one : j ≡ a = cc in
    let two : l ≡ b = cc in
    let three : w ≡ c = cc in
    (e.0 ∙ one, e.1 ∙ two, e.2 ∙ three)
one_but_n (records.Ans i k told n) (records.Ans j l made m) (records.Ans a b c d) e f =
    let one : j ≡ a = cc in
    let two : l ≡ b = cc in
    let three : made ≡ c = cc in
    (e.0 ∙ one, e.1 ∙ two, subst (MayBe told) three e.2)
one_but_n (records.Sub i k op n) (records.Ans j l made m) w e f = absurd e
one_but_n (records.Ans i k told n) (records.Sub j l v m) w e f = absurd e
one_but_n (records.Sub i k op n) (records.Sub j l w m) (records.Ans a b c d) e f = cc
one_but_n (records.Ans i k told n) (records.Ans j l made m) (records.Sub a b c d) e f = cc

pub seen_but_n : (rs us ws : List Record) → AreSeenAs rs us → map without_n us ≡ map without_n ws → AreSeenAs rs ws
seen_but_n [] [] [] e f = tt
seen_but_n [] [] (w ∷ ws) e f = cc
seen_but_n [] (u ∷ us) ws e f = absurd e
seen_but_n (r ∷ rs) [] ws e f = absurd e
seen_but_n (r ∷ rs) (u ∷ us) [] e f = cc
seen_but_n (r ∷ rs) (u ∷ us) (w ∷ ws) e f =
    let head : without_n u ≡ without_n w = cc in
    let tail : map without_n us ≡ map without_n ws = cc in
    (one_but_n r u w e.0 head, seen_but_n rs us ws e.1 tail)

-- logs that are alike are so in pieces
pub alike_in_pieces : (p : Op → List Op) (rs qs : List Record) → AreSeenAs rs qs → AreSeenAs (split_all p [] rs) (split_all p [] qs)
alike_in_pieces p rs qs e = all_seen p [] [] rs qs (λ i. refl) e

-- ---- by places and by numbers

chunk_by_chunk : (p : Op → List Op) (s : ℕ → List Op) (time : ℕ → ℕ) (before rs : List Record)
    → ((a : ℕ) (r : Record) → slice_get rs a ≡ Some r → map without_n (split p (before ++ take a rs) r) ≡ map without_n (of_record p s time r))
    → map without_n (split_all p before rs) ≡ map without_n (all_records p s time rs)
chunk_by_chunk p s time before [] same = refl
chunk_by_chunk p s time before (r ∷ rs) same =
    let one : map without_n (split p before r) ≡ map without_n (of_record p s time r) =
    ap (λ (b : List Record). map without_n (split p b r)) (sym (append-nil before)) ∙ same 0 r refl in
    let rest = chunk_by_chunk p s time (before ++ r ∷ []) rs (λ a q at. ap (λ (b : List Record). map without_n (split p b q)) (append_assoc before (r ∷ []) (take a rs)) ∙ same (suc a) q at) in
    map-append without_n (split p before r) (split_all p (before ++ r ∷ []) rs)
    ∙ ap (λ (xs : List Record). xs ++ map without_n (split_all p (before ++ r ∷ []) rs)) one
    ∙ ap (λ (xs : List Record). map without_n (of_record p s time r) ++ xs) rest
    ∙ sym (map-append without_n (of_record p s time r) (all_records p s time rs))

prefix_numbered : (rs : List Record) (a : ℕ) → IsNumbered rs → IsNumbered (take a rs)
prefix_numbered rs a numbered b i k n op at =
    let (less, there) = take_get a b rs (records.Sub i k op n) at in
    numbered b i k n op there ∙ ap (λ (xs : List Record). length (submissions xs i)) (sym (take-take b a rs (omega (arith, less))))

pub by_number : (x : Extent) (p : Op → List Op) (rs : List Record) (h : List Entry) → Explains (claim x rs h) → map without_n (split_all p [] rs) ≡ map without_n (records_in_pieces p rs h)
by_number x p rs h e = chunk_by_chunk p (submissions rs) (clock p (submissions rs) h) [] rs chunk
  where
    chunk : (a : ℕ) (r : Record) → slice_get rs a ≡ Some r → map without_n (split p (take a rs) r) ≡ map without_n (of_record p (submissions rs) (clock p (submissions rs) h) r)
    chunk a (records.Sub i k op n) at =
        let known = known_of x p rs h e in
        let before = submissions (take a rs) i in
        let counted : (k == length before) ≡ true = eq-eqb k (length before) (e.numbered a i k n op at) in
        let starts : width p before ≡ first p (submissions rs i) k = ap (width p) (known.count a i k n op at) ∙ width_is p (submissions rs i) k in
        let number : next_number (k == length before) (width p before) ≡ first p (submissions rs i) k = ap (λ b. next_number b (width p before)) counted ∙ starts in
        subs_without i (next_number (k == length before) (width p before)) n (p op) ∙ ap (λ m. subs i m 0 (p op)) number
        ∙ sym (subs_without i (first p (submissions rs i) k) (clock p (submissions rs) h n) (p op))
    chunk a (records.Ans i k reply n) at =
        let whole = e.linear a i k n reply at in
        let before = submissions (take a rs) i in
        let (less, there) = take_get a whole.place rs (records.Sub i k whole.op whole.since) whole.asked in
        let has : slice_get before k ≡ Some whole.op = listed_in (take a rs) (prefix_numbered rs a e.numbered) whole.place i k whole.since whole.op whole.asked in
        let all : submissions rs i ≡ before ++ submissions (drop a rs) i =
        ap (λ (xs : List Record). submissions xs i) (sym (take-append-drop a rs)) ∙ filter_map-append (submission i) (take a rs) (drop a rs) in
        let inside = slice_get_within before k whole.op has in
        let starts : first p before k ≡ first p (submissions rs i) k =
        sym (ap (λ (ops : List Op). first p ops k) all ∙ first_stays p before (submissions (drop a rs) i) k (omega (arith, inside))) in
        let now : slice_get (numbered p 0 before) k ≡ Some (first p (submissions rs i) k, whole.op) = numbered_at p before k whole.op has ∙ ap (λ m. Some (m, whole.op)) starts in
        let full : slice_get (numbered p 0 (submissions rs i)) k ≡ Some (first p (submissions rs i) k, whole.op) =
        numbered_at p (submissions rs i) k whole.op (listed_in rs e.numbered whole.place i k whole.since whole.op there) in
        let time = clock p (submissions rs) h n in
        ap (λ o. map without_n (answers_by p o i (width p before) n reply)) now
        ∙ answers_without i (first p (submissions rs i) k) n (parts (p whole.op) reply)
        ∙ sym (ap (λ o. map without_n (answers_by p o i (width p (submissions rs i)) time reply)) full ∙ answers_without i (first p (submissions rs i) k) time (parts (p whole.op) reply))
