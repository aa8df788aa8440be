-- Lines can tell a log in pieces of which a history is found, if they can tell the log, and it isn't too long.
use Rattle.std.proofs.Common.{◌≡◌, ◌∙◌, ℕ, zero, suc, ◌+◌, ◌-◌, ◌^◌, ◌<◌, ◌≤◌, ◌++◌, ◌∷◌, [], List, Option, Some, None, length, take, refl, sym, ap, arith, All}
use Rattle.std.specs.Prelude.{slice_get, ◌==◌}
use Rattle.std.specs.List.{cons_option}
use Rattle.std.proofs.lemmas.Option.{same_Some}
use Rattle.std.proofs.lemmas.List.Elements.{All-nil, All-cons, All-head, All-tail}
use Rattle.tlp_core.specs.Ops.{Op}
use Rattle.tlp_core.specs.Limits.{most_requesters}
use Rattle.seq_memory.specs.Entries.{Reply}
use Rattle.history_words.specs.Records.{Record}
use Rattle.history_words.specs.declared.record.RecordOf.TheVariants as records
use Rattle.history_words.specs.TraceView.{TraceView, observed}
use Rattle.history_words.specs.Trace.{submissions, submission, IsNumbered}
use Rattle.operation_text.specs.Operations.{IsSpelledOp}
use Rattle.log_runs.specs.Explainable.{IsSeenAs, AreSeenAs, SeenAlike}
use Rattle.log_text.specs.ToldSubmissions.{IsToldSub}
use Rattle.log_text.specs.Told.{IsToldLog}
use Rattle.op_pieces.specs.Pieces.{parts}
use Rattle.log_pieces.specs.declared.Granularity.{Granularity}
use Rattle.log_pieces.specs.declared.Granularity.TheVariants as sizes
use Rattle.log_pieces.specs.Pieces.{pieces}
use Rattle.log_pieces.specs.InPieces.{width, numbered, subs, answers, answers_by, next_number, split, split_all, cut_log, in_pieces}
use Rattle.search_laws.proofs.Pieces.{Digits, piece_spelled}

-- ---- what is told of a submission, but for its number

abbrev HasTold : Record → Type 0
HasTold (records.Sub i k op n) = (1 ≤ i) × (i ≤ most_requesters) × IsSpelledOp op
HasTold (records.Ans i k reply n) = Unit {0}

all_append : (rs qs : List Record) → All HasTold rs → All HasTold qs → All HasTold (rs ++ qs)
all_append [] qs a b = b
all_append (r ∷ rs) qs a b = All-cons HasTold r (rs ++ qs) (All-head HasTold r rs a) (all_append rs qs (All-tail HasTold r rs a) b)

subs_told : (i k n : ℕ) (ops : List Op) → 1 ≤ i → i ≤ most_requesters → ((j : ℕ) (op : Op) → slice_get ops j ≡ Some op → IsSpelledOp op) → All HasTold (subs i k n ops)
subs_told i k n [] low high are = All-nil HasTold
subs_told i k n (op ∷ ops) low high are =
    All-cons HasTold (records.Sub i k op n) (subs i (suc k) n ops) (low, high, are 0 op refl) (subs_told i (suc k) n ops low high (λ j o at. are (suc j) o at))

answers_told : (i k n : ℕ) (rs : List Reply) → All HasTold (answers i k n rs)
answers_told i k n [] = All-nil HasTold
answers_told i k n (r ∷ rs) = All-cons HasTold (records.Ans i k r n) (answers i (suc k) n rs) tt (answers_told i (suc k) n rs)

by_told : (p : Op → List Op) (o : Option (ℕ × Op)) (i next n : ℕ) (reply : Reply) → All HasTold (answers_by p o i next n reply)
by_told p None i next n reply = All-cons HasTold (records.Ans i next reply n) [] tt (All-nil HasTold)
by_told p (Some (k, op)) i next n reply = answers_told i k n (parts (p op) reply)

-- words spell the pieces of what they spell
abbrev Keeps : (Op → List Op) → Type 0
Keeps p = (op piece : Op) (j : ℕ) → IsSpelledOp op → slice_get (p op) j ≡ Some piece → IsSpelledOp piece

one_told : (p : Op → List Op) → Keeps p → (before : List Record) (r : Record) → IsToldSub r → All HasTold (split p before r)
one_told p keeps before (records.Sub i k op n) h =
    subs_told i (next_number (k == length (submissions before i)) (width p (submissions before i))) n (p op) h.0.0 h.0.1 (λ j piece at. keeps op piece j h.1 at)
one_told p keeps before (records.Ans i k reply n) h = by_told p (slice_get (numbered p 0 (submissions before i)) k) i (width p (submissions before i)) n reply

all_told : (p : Op → List Op) → Keeps p → (before rs : List Record) → All IsToldSub rs → All HasTold (split_all p before rs)
all_told p keeps before [] a = All-nil HasTold
all_told p keeps before (r ∷ rs) a =
    all_append (split p before r) (split_all p (before ++ r ∷ []) rs) (one_told p keeps before r (All-head IsToldSub r rs a)) (all_told p keeps (before ++ r ∷ []) rs (All-tail IsToldSub r rs a))

-- ---- numbers

cons_few : (o : Option Op) (xs : List Op) (n : ℕ) → length xs ≤ n → length (cons_option o xs) ≤ suc n
cons_few None xs n l = omega (arith, l)
cons_few (Some op) xs n l = omega (arith, l)

few_made : (i : ℕ) (rs : List Record) → length (submissions rs i) ≤ length rs
few_made i [] = omega arith
few_made i (r ∷ rs) = cons_few (submission i r) (submissions rs i) (length rs) (few_made i rs)

take_few : (n : ℕ) (rs : List Record) → length (take n rs) ≤ n
take_few zero rs = omega arith
take_few (suc n) [] = omega arith
take_few (suc n) (r ∷ rs) = let few = take_few n rs in omega (arith, few)

-- a submission of what is seen as records that are numbered has a number below their place
seen_number : (rs us : List Record) (a i k n : ℕ) (op : Op) → AreSeenAs rs us → IsNumbered us → slice_get rs a ≡ Some (records.Sub i k op n) → k ≤ a
seen_number rs us a i k n op seen numbered at =
    let (j, l, w, m, there, same) = find rs us a i k n op seen at in
    let number = numbered a j l m w there in
    let few = few_made j (take a us) in
    let short = take_few a us in
    omega (arith, same, number, few, short)
  where
    find : (rs us : List Record) (a i k n : ℕ) (op : Op) → AreSeenAs rs us → slice_get rs a ≡ Some (records.Sub i k op n)
        → (j : ℕ) × (l : ℕ) × (w : Op) × (m : ℕ) × (slice_get us a ≡ Some (records.Sub j l w m)) × (k ≡ l)
    find [] us a i k n op seen at = absurd (cc at)
    find (r ∷ rs) [] a i k n op seen at = absurd seen
    find (r ∷ rs) (u ∷ us) zero i k n op seen at = here r u (same_Some r (records.Sub i k op n) at) seen.0
      where
        here : (r u : Record) → r ≡ records.Sub i k op n → IsSeenAs r u → (j : ℕ) × (l : ℕ) × (w : Op) × (m : ℕ) × (Some u ≡ Some (records.Sub j l w m)) × (k ≡ l)
        here (records.Sub a b o q) (records.Sub j l w m) e f = let number : b ≡ k = cc e in (j, l, w, m, refl, sym number ∙ f.1)
        here (records.Sub a b o q) (records.Ans j l made m) e f = absurd f
        here (records.Ans a b told q) u e f = absurd (cc e)
    find (r ∷ rs) (u ∷ us) (suc a) i k n op seen at = find rs us a i k n op seen.1 at

number_told : (a i k n : ℕ) (op : Op) → HasTold (records.Sub i k op n) → k ≤ a → a < 2 ^ 32 - 1 → IsToldSub (records.Sub i k op n)
number_told a i k n op h low few = ((h.0, h.1, omega (arith, low, few)), h.2)

all_numbered : (rs : List Record) (start : ℕ) → ((a i k n : ℕ) (op : Op) → slice_get rs a ≡ Some (records.Sub i k op n) → k ≤ start + a) → start + length rs < 2 ^ 32 → All HasTold rs → All IsToldSub rs
all_numbered [] start low few h = All-nil IsToldSub
all_numbered (r ∷ rs) start low few h =
    All-cons IsToldSub r rs (one r (λ i k n op e. low 0 i k n op (ap Some e)) (All-head HasTold r rs h))
    (all_numbered rs (suc start) (λ a i k n op at. let l = low (suc a) i k n op at in omega (arith, l)) (omega (arith, few)) (All-tail HasTold r rs h))
  where
    one : (r : Record) → ((i k n : ℕ) (op : Op) → r ≡ records.Sub i k op n → k ≤ start + 0) → HasTold r → IsToldSub r
    one (records.Sub i k op n) low h = number_told start i k n op h (let l = low i k n op refl in omega (arith, l)) (omega (arith, few))
    one (records.Ans i k reply n) low h = tt

-- ---- the log in pieces

cut_told : Digits → (b : ℕ) (t u : TraceView) → SeenAlike (cut_log b t) u → IsNumbered u.records → IsToldLog t → length (cut_log b t).records < 2 ^ 32 → IsToldLog (cut_log b t)
cut_told d b t u alike numbered told few =
    let x = observed t in
    let p = pieces b x in
    let rs = split_all p [] t.records in
    record {
      limits = told.limits;
      submissions = all_numbered rs 0 (λ a i k n op at. let low = seen_number rs u.records a i k n op alike.records numbered at in omega (arith, low)) (omega (arith, few))
          (all_told p (λ op piece j s at. piece_spelled d x told.limits b op piece j s at) [] t.records told.submissions);
    }

-- if it is seen as a log whose submissions are numbered
pub pieces_told : Digits → (size : Granularity) (t u : TraceView) → SeenAlike (in_pieces size t) u → IsNumbered u.records → IsToldLog t → length (in_pieces size t).records < 2 ^ 32 → IsToldLog (in_pieces size t)
unfolding in_pieces
pieces_told d sizes.Four t u alike numbered told few = cut_told d 4 t u alike numbered told few
pieces_told d sizes.Eight t u alike numbered told few = cut_told d 8 t u alike numbered told few
pieces_told d sizes.Sixteen t u alike numbered told few = cut_told d 16 t u alike numbered told few
pieces_told d sizes.SixtyFour t u alike numbered told few = cut_told d 64 t u alike numbered told few
pieces_told d sizes.Whole t u alike numbered told few = told
