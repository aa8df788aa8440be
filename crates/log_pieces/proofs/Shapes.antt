-- The pieces of requests, of entries and of records, by the numbers of their requests.
use Rattle.std.proofs.Common.{◌≡◌, ◌∙◌, ℕ, zero, suc, ◌+◌, ◌≤◌, ◌++◌, ◌∷◌, [], List, Some, length, take, map, refl, sym, ap, arith, length-append}
use Rattle.std.specs.Prelude.{slice_get, filter_map}
use Rattle.std.proofs.lemmas.Bool.{eq-eqb, ne_eqb}
use Rattle.std.proofs.lemmas.Option.{same_Some}
use Rattle.tlp_core.specs.Ops.{Op}
use Rattle.seq_memory.specs.Entries.{Entry}
use Rattle.seq_memory.specs.Entries.{Reply}
use Rattle.history_words.specs.Records.{Record}
use Rattle.history_words.specs.declared.record.RecordOf.TheVariants as records
use Rattle.history_words.specs.Trace.{submission}
use Rattle.log_pieces.specs.InPieces.{width, numbered, subs, answers}
use Rattle.log_pieces.proofs.Chunks.{concat, start}

-- the entries of a request's pieces
abbrev pub acts : ℕ → ℕ → List Op → List Entry
acts i k [] = []
acts i k (op ∷ ops) = record { requester = i; number = k; op = op } ∷ acts i (suc k) ops

pub acts_get : (i k : ℕ) (ops : List Op) (j : ℕ) (e : Entry) → slice_get (acts i k ops) j ≡ Some e → (op : Op) × (e ≡ record { requester = i; number = k + j; op = op }) × (slice_get ops j ≡ Some op)
acts_get i k [] j e h = absurd (cc h)
acts_get i k (op ∷ ops) zero e h =
    (op, sym (same_Some (record { requester = i; number = k; op = op }) e h) ∙ ap (λ n. record { requester = i; number = n; op = op }) (omega arith), refl)
acts_get i k (op ∷ ops) (suc j) e h =
    let (o, is, at) = acts_get i (suc k) ops j e h in
    (o, is ∙ ap (λ n. record { requester = i; number = n; op = o }) (omega arith), at)

pub get_acts : (i k : ℕ) (ops : List Op) (j : ℕ) (op : Op) → slice_get ops j ≡ Some op → slice_get (acts i k ops) j ≡ Some (record { requester = i; number = k + j; op = op })
get_acts i k [] j op h = cc
get_acts i k (o ∷ ops) zero op h =
    ap (λ q. Some (record { requester = i; number = k; op = q })) (same_Some o op h) ∙ ap (λ n. Some (record { requester = i; number = n; op = op })) (omega arith)
get_acts i k (o ∷ ops) (suc j) op h =
    get_acts i (suc k) ops j op h ∙ ap (λ n. Some (record { requester = i; number = n; op = op })) (omega arith)

pub length_acts : (i k : ℕ) (ops : List Op) → length (acts i k ops) ≡ length ops
length_acts i k [] = refl
length_acts i k (op ∷ ops) = ap suc (length_acts i (suc k) ops)

pub subs_get : (i k n : ℕ) (ops : List Op) (j : ℕ) (r : Record) → slice_get (subs i k n ops) j ≡ Some r → (op : Op) × (r ≡ records.Sub i (k + j) op n) × (slice_get ops j ≡ Some op)
subs_get i k n [] j r h = absurd (cc h)
subs_get i k n (op ∷ ops) zero r h = (op, sym (same_Some (records.Sub i k op n) r h) ∙ ap (λ m. records.Sub i m op n) (omega arith), refl)
subs_get i k n (op ∷ ops) (suc j) r h =
    let (o, is, at) = subs_get i (suc k) n ops j r h in
    (o, is ∙ ap (λ m. records.Sub i m o n) (omega arith), at)

pub get_subs : (i k n : ℕ) (ops : List Op) (j : ℕ) (op : Op) → slice_get ops j ≡ Some op → slice_get (subs i k n ops) j ≡ Some (records.Sub i (k + j) op n)
get_subs i k n [] j op h = cc
get_subs i k n (o ∷ ops) zero op h = ap (λ q. Some (records.Sub i k q n)) (same_Some o op h) ∙ ap (λ m. Some (records.Sub i m op n)) (omega arith)
get_subs i k n (o ∷ ops) (suc j) op h = get_subs i (suc k) n ops j op h ∙ ap (λ m. Some (records.Sub i m op n)) (omega arith)

pub length_subs : (i k n : ℕ) (ops : List Op) → length (subs i k n ops) ≡ length ops
length_subs i k n [] = refl
length_subs i k n (op ∷ ops) = ap suc (length_subs i (suc k) n ops)

pub answers_get : (i k n : ℕ) (rs : List Reply) (j : ℕ) (r : Record) → slice_get (answers i k n rs) j ≡ Some r → (reply : Reply) × (r ≡ records.Ans i (k + j) reply n) × (slice_get rs j ≡ Some reply)
answers_get i k n [] j r h = absurd (cc h)
answers_get i k n (x ∷ rs) zero r h = (x, sym (same_Some (records.Ans i k x n) r h) ∙ ap (λ m. records.Ans i m x n) (omega arith), refl)
answers_get i k n (x ∷ rs) (suc j) r h =
    let (o, is, at) = answers_get i (suc k) n rs j r h in
    (o, is ∙ ap (λ m. records.Ans i m o n) (omega arith), at)

pub length_answers : (i k n : ℕ) (rs : List Reply) → length (answers i k n rs) ≡ length rs
length_answers i k n [] = refl
length_answers i k n (r ∷ rs) = ap suc (length_answers i (suc k) n rs)

-- ---- numbers of pieces

-- the number of the first piece of the request with number k
abbrev pub first : (Op → List Op) → List Op → ℕ → ℕ
first p ops k = start (map p ops) k

pub width_is : (p : Op → List Op) (ops : List Op) (k : ℕ) → width p (take k ops) ≡ first p ops k
width_is p ops zero = refl
width_is p [] (suc k) = refl
width_is p (op ∷ ops) (suc k) = omega (arith, width_is p ops k, length-append (p op) (concat (take k (map p ops))))

numbered_from : (p : Op → List Op) (n : ℕ) (ops : List Op) (k : ℕ) (op : Op) → slice_get ops k ≡ Some op → slice_get (numbered p n ops) k ≡ Some (n + first p ops k, op)
numbered_from p n [] k op h = cc
numbered_from p n (o ∷ ops) zero op h = ap (λ q. Some (n, q)) (same_Some o op h) ∙ ap (λ m. Some (m, op)) (omega arith)
numbered_from p n (o ∷ ops) (suc k) op h =
    numbered_from p (n + length (p o)) ops k op h ∙ ap (λ m. Some (m, op)) (omega (arith, length-append (p o) (concat (take k (map p ops)))))

pub numbered_at : (p : Op → List Op) (ops : List Op) (k : ℕ) (op : Op) → slice_get ops k ≡ Some op → slice_get (numbered p 0 ops) k ≡ Some (first p ops k, op)
numbered_at p ops k op h = numbered_from p 0 ops k op h ∙ ap (λ m. Some (m, op)) (omega arith)

-- the first operations have the same numbers in a longer list
pub first_stays : (p : Op → List Op) (ops more : List Op) (k : ℕ) → k ≤ length ops → first p (ops ++ more) k ≡ first p ops k
first_stays p ops more zero l = refl
first_stays p [] more (suc k) l = absurd (omega arith)
first_stays p (op ∷ ops) more (suc k) l =
    omega (arith, first_stays p ops more k (omega arith), length-append (p op) (concat (take k (map p (ops ++ more)))), length-append (p op) (concat (take k (map p ops))))

-- ---- submissions in pieces

abbrev pub none : Record → List Op
none r = []

pub same_subs : (i k n : ℕ) (ops : List Op) → filter_map (submission i) (subs i k n ops) ≡ ops
same_subs i k n [] = refl
same_subs i k n (op ∷ ops) = rw (eq-eqb i i refl) (ap (λ xs. op ∷ xs) (same_subs i (suc k) n ops))

pub other_subs : (i j k n : ℕ) (ops : List Op) → (i ≡ j → ⊥) → filter_map (submission i) (subs j k n ops) ≡ []
other_subs i j k n [] d = refl
other_subs i j k n (op ∷ ops) d = rw (ne_eqb i j d) (other_subs i j (suc k) n ops d)

pub no_subs : (i j k n : ℕ) (rs : List Reply) → filter_map (submission i) (answers j k n rs) ≡ []
no_subs i j k n [] = refl
no_subs i j k n (r ∷ rs) = no_subs i j (suc k) n rs

pub take_subs : (i k n : ℕ) (ops : List Op) (j : ℕ) → take j (subs i k n ops) ≡ subs i k n (take j ops)
take_subs i k n ops zero = refl
take_subs i k n [] (suc j) = refl
take_subs i k n (op ∷ ops) (suc j) = ap (λ xs. records.Sub i k op n ∷ xs) (take_subs i (suc k) n ops j)
