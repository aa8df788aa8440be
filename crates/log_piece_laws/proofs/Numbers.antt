-- The numbers of pieces, and the submissions of a log in pieces.
use Rattle.std.proofs.Common.{◌≡◌, ◌∙◌, ℕ, zero, suc, ◌+◌, ◌-◌, ◌<◌, ◌≤◌, ◌++◌, ◌∷◌, [], List, Some, length, take, map, refl, sym, ap, inl, inr, arith}
use Rattle.std.specs.Prelude.{slice_get}
use Rattle.std.proofs.lemmas.Bool.{cases_lt}
use Rattle.std.proofs.lemmas.Option.{same_Some}
use Rattle.tlp_core.specs.Ops.{Op}
use Rattle.seq_memory.specs.Entries.{Reply}
use Rattle.history_words.specs.Records.{Record}
use Rattle.history_words.specs.declared.record.RecordOf.TheVariants as records
use Rattle.history_words.specs.Trace.{submissions}
use Rattle.log_runs.specs.Explainable.{IsSeenAs, AreSeenAs}
use Rattle.log_pieces.specs.InPieces.{width, subs, answers, split, split_all}
use Rattle.log_piece_laws.proofs.Lists.{concat, chunks_append}
use Rattle.log_piece_laws.proofs.Places.{get_before, get_back, take_before}
use Rattle.log_piece_laws.proofs.Twice.{split_subs, submissions_more}

-- the number of the first piece of request k
abbrev pub first : (Op → List Op) → List Op → ℕ → ℕ
first p ops k = width p (take k ops)

pub get_after : {X : Type 0} → (xs ys : List X) (k n : ℕ) → n ≡ length xs + k → slice_get (xs ++ ys) n ≡ slice_get ys k
get_after [] ys k n e = ap (slice_get ys) (omega (arith, e))
get_after (x ∷ xs) ys k zero e = absurd (omega (arith, e))
get_after (x ∷ xs) ys k (suc n) e = get_after xs ys k n (omega (arith, e))

pub placed : (p : Op → List Op) (ops : List Op) (k j : ℕ) (op piece : Op) → slice_get ops k ≡ Some op → slice_get (p op) j ≡ Some piece → slice_get (concat (map p ops)) (first p ops k + j) ≡ Some piece
placed p [] k j op piece at is = cc
placed p (o ∷ ops) zero j op piece at is =
    let same : o ≡ op = same_Some o op at in
    ap (slice_get (p o ++ concat (map p ops))) (omega arith) ∙ get_before (p o) (concat (map p ops)) j piece (ap (λ (q : Op). slice_get (p q) j) same ∙ is)
placed p (o ∷ ops) (suc k) j op piece at is =
    get_after (p o) (concat (map p ops)) (first p ops k + j) (first p (o ∷ ops) (suc k) + j) (omega arith) ∙ placed p ops k j op piece at is

-- a piece is one of a request
pub record Located (p : Op → List Op) (ops : List Op) (a : ℕ) (piece : Op) : Type 0 where
  pub number : ℕ
  pub op : Op
  pub index : ℕ
  pub has : slice_get ops number ≡ Some op
  pub at : slice_get (p op) index ≡ Some piece
  pub is : a ≡ first p ops number + index

pub located : (p : Op → List Op) (ops : List Op) (a : ℕ) (piece : Op) → slice_get (concat (map p ops)) a ≡ Some piece → Located p ops a piece
located p [] a piece e = absurd (cc e)
located p (o ∷ ops) a piece e = elim (cases_lt a (length (p o))) [
  | inl less ↦ record { number = 0; op = o; index = a; has = refl; at = get_back (p o) (concat (map p ops)) a piece less e; is = omega arith }
  | inr more ↦
      let r = located p ops (a - length (p o)) piece (sym (get_after (p o) (concat (map p ops)) (a - length (p o)) a (omega (arith, more))) ∙ e) in
      let is = r.is in
      record { number = suc r.number; op = r.op; index = r.index; has = r.has; at = r.at; is = omega (arith, is, more) }
]

pub past : (p : Op → List Op) (ops : List Op) (k l : ℕ) (op : Op) → slice_get ops k ≡ Some op → k < l → first p ops k + length (p op) ≤ first p ops l
past p [] k l op at less = absurd (cc at)
past p (o ∷ ops) k zero op at less = absurd (omega (arith, less))
past p (o ∷ ops) zero (suc l) op at less =
    let same : length (p o) ≡ length (p op) = ap (λ (q : Op). length (p q)) (same_Some o op at) in
    omega (arith, same)
past p (o ∷ ops) (suc k) (suc l) op at less = let r = past p ops k l op at (omega (arith, less)) in omega (arith, r)

pub one_piece : (p : Op → List Op) (ops : List Op) (k l j m : ℕ) (op w : Op) → slice_get ops k ≡ Some op → slice_get ops l ≡ Some w → j < length (p op) → m < length (p w)
    → first p ops k + j ≡ first p ops l + m → (k ≡ l) × (j ≡ m)
one_piece p ops k l j m op w a b s t e = elim (cases_lt k l) [
  | inl less ↦ let far = past p ops k l op a less in absurd (omega (arith, far, e, s))
  | inr more ↦ elim (cases_lt l k) [
    | inl less ↦ let far = past p ops l k w b less in absurd (omega (arith, far, e, t))
    | inr same ↦
        let eq : k ≡ l = omega (arith, more, same) in
        (eq, let at : first p ops k ≡ first p ops l = ap (first p ops) eq in omega (arith, at, e))
  ]
]

pub first_stays : (p : Op → List Op) (ops more : List Op) (k : ℕ) → k ≤ length ops → first p (ops ++ more) k ≡ first p ops k
first_stays p ops more k l = ap (width p) (take_before ops more k l)

-- ---- submissions

pub all_subs : (p : Op → List Op) (before rs : List Record) (i : ℕ) → submissions (split_all p before rs) i ≡ concat (map p (submissions rs i))
all_subs p before [] i = refl
all_subs p before (r ∷ rs) i =
    submissions_more (split p before r) (split_all p (before ++ r ∷ []) rs) i
    ∙ ap (λ xs. xs ++ submissions (split_all p (before ++ r ∷ []) rs) i) (split_subs p before r i)
    ∙ ap (λ xs. concat (map p (submissions (r ∷ []) i)) ++ xs) (all_subs p (before ++ r ∷ []) rs i)
    ∙ sym (chunks_append p (submissions (r ∷ []) i) (submissions rs i))
    ∙ ap (λ (xs : List Op). concat (map p xs)) (sym (submissions_more (r ∷ []) rs i))

one_submission : (i : ℕ) (r u : Record) → IsSeenAs r u → submissions (r ∷ []) i ≡ submissions (u ∷ []) i
one_submission i (records.Sub j k op n) (records.Sub l m w q) e = rw (e.0, e.2) refl
one_submission i (records.Sub j k op n) (records.Ans l m made q) e = absurd e
one_submission i (records.Ans j k told n) (records.Sub l m w q) e = absurd e
one_submission i (records.Ans j k told n) (records.Ans l m made q) e = refl

pub seen_subs : (rs us : List Record) (i : ℕ) → AreSeenAs rs us → submissions rs i ≡ submissions us i
seen_subs [] [] i e = refl
seen_subs [] (u ∷ us) i e = absurd e
seen_subs (r ∷ rs) [] i e = absurd e
seen_subs (r ∷ rs) (u ∷ us) i e =
    submissions_more (r ∷ []) rs i ∙ ap (λ (xs : List Op). xs ++ submissions rs i) (one_submission i r u e.0) ∙ ap (λ (xs : List Op). submissions (u ∷ []) i ++ xs) (seen_subs rs us i e.1)
    ∙ sym (submissions_more (u ∷ []) us i)

-- ---- records but for their n's

pub seen_append : (rs us qs ws : List Record) → AreSeenAs rs us → AreSeenAs qs ws → AreSeenAs (rs ++ qs) (us ++ ws)
seen_append [] [] qs ws e f = f
seen_append [] (u ∷ us) qs ws e f = absurd e
seen_append (r ∷ rs) [] qs ws e f = absurd e
seen_append (r ∷ rs) (u ∷ us) qs ws e f = (e.0, seen_append rs us qs ws e.1 f)

pub subs_seen : (i k n m : ℕ) (ops : List Op) → AreSeenAs (subs i k n ops) (subs i k m ops)
subs_seen i k n m [] = tt
subs_seen i k n m (op ∷ ops) = ((refl, refl, refl), subs_seen i (suc k) n m ops)

pub answers_seen : (i k n m : ℕ) (rs : List Reply) → AreSeenAs (answers i k n rs) (answers i k m rs)
answers_seen i k n m [] = tt
answers_seen i k n m (r ∷ rs) = ((refl, refl, inr refl), answers_seen i (suc k) n m rs)
