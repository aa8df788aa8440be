-- Counts after one record more.
use Rattle.std.proofs.Common.{◌≡◌, ◌∙◌, ℕ, zero, suc, Bool, ◌+◌, ◌<◌, ◌≤◌, ◌++◌, ◌∷◌, [], List, Option, Some, length, take, set, get_or, replicate, refl, sym, ap, subst, inl, inr, arith, true, false, length-append}
use Rattle.std.specs.Prelude.{None, slice_get, ◌||◌, ◌&&◌, ◌==◌}
use Rattle.std.specs.List.{list_any}
use Rattle.std.proofs.lemmas.Bool.{cases_eq, cases_lt, cases_Bool, eqb-true, eq-eqb, and_parts}
use Rattle.std.proofs.lemmas.List.{length-set, get_or-set_same, get_or-set_other, get_or-replicate, get_or_past, length-replicate, take-take}
use Rattle.std.proofs.lemmas.List.Folds.{list_any_more}
use Rattle.std.proofs.lemmas.Option.{slice_get_cases, slice_get_read, slice_get_within, get_or_from_slice_get, same_Some}
use Rattle.tlp_core.specs.Ops.{Op}
use Rattle.seq_memory.specs.Entries.{Reply}
use Rattle.history_words.specs.Records.{Record}
use Rattle.history_words.specs.declared.record.RecordOf.TheVariants as records
use Rattle.history_words.specs.Trace.{submissions, IsNumbered, answers_to}
use Rattle.log_runs.specs.Tasks.{IsMisformed}
use Rattle.log_events.specs.Formed.{AreFormed, IsOpen, submits}
use Rattle.log_events.specs.Counts.{AreMarks, AreRight, IsCounted}

false_at : (n b : ℕ) → get_or (replicate n false) b false ≡ false
false_at n b = elim (cases_lt b n) [
  | inl low ↦ get_or-replicate n b false false low
  | inr high ↦ get_or_past (replicate n false) b false (omega (arith, high, length-replicate n false))
]

pub counted_none : (rs : List Record) → IsCounted (replicate 256 0) (replicate (length rs) false) rs 0
counted_none rs =
    let none : ℕ = 0 in
    record {
      counts = record { len = length-replicate 256 none; at = λ i l. get_or-replicate 256 i none none l };
      numbered = λ a i k n op at. cc;
      asked = λ a i k m reply l at. absurd (omega arith);
      right = λ a i k m reply l at. absurd (omega arith);
      len = length-replicate (length rs) false;
      marked = λ b i k n op at. cc;
      unmarked = λ b l. false_at (length rs) b;
    }

pub same_counted : (totals counts : List ℕ) (marks notes : List Bool) (rs : List Record) (n : ℕ) → totals ≡ counts → marks ≡ notes → IsCounted counts notes rs n → IsCounted totals marks rs n
same_counted totals counts marks notes rs n e f known = subst (λ (xs : List ℕ). IsCounted xs marks rs n) (sym e) (subst (λ (ms : List Bool). IsCounted counts ms rs n) (sym f) known)

abbrev pub Own : Type 0
Own = (rs : List Record) (a i k n : ℕ) (op : Op) → slice_get rs a ≡ Some (records.Sub i k op n) → submissions (take (a + 1) rs) i ≡ submissions (take a rs) i ++ op ∷ []

abbrev pub Other : Type 0
Other = (rs : List Record) (a i j k n : ℕ) (op : Op) → slice_get rs a ≡ Some (records.Sub i k op n) → (j ≡ i → ⊥) → submissions (take (a + 1) rs) j ≡ submissions (take a rs) j

abbrev pub Answer : Type 0
Answer = (rs : List Record) (a i j k n : ℕ) (reply : Reply) → slice_get rs a ≡ Some (records.Ans i k reply n) → submissions (take (a + 1) rs) j ≡ submissions (take a rs) j

abbrev pub Numbered : Type 0
Numbered = (rs : List Record) (a i k n : ℕ) (op : Op) → IsNumbered (take a rs) → slice_get rs a ≡ Some (records.Sub i k op n) → k ≡ length (submissions (take a rs) i) → IsNumbered (take (a + 1) rs)

abbrev pub NumberedAnswer : Type 0
NumberedAnswer = (rs : List Record) (a i k n : ℕ) (reply : Reply) → IsNumbered (take a rs) → slice_get rs a ≡ Some (records.Ans i k reply n) → IsNumbered (take (a + 1) rs)

pub no_answer : (i k n j l m : ℕ) (op : Op) (reply : Reply) → ◌≡◌ {A = Option Record} (Some (records.Sub i k op n)) (Some (records.Ans j l reply m)) → ⊥
no_answer i k n j l m op reply e = cc

pub record SameAnswer (i k j l : ℕ) : Type 0 where
  pub who : i ≡ j
  pub number : k ≡ l

pub same_answer : (i k n j l m : ℕ) (r q : Reply) → ◌≡◌ {A = Option Record} (Some (records.Ans i k r n)) (Some (records.Ans j l q m)) → SameAnswer i k j l
same_answer i k n j l m r q e = record { who = cc; number = cc }

pub clash : {b : Bool} → b ≡ true → b ≡ false → ⊥
clash t f = let e : true ≡ false = sym t ∙ f in cc

or_none : (b : Bool) → (b || false) ≡ b
or_none true = refl
or_none false = refl

or_left : (a b : Bool) → a ≡ true → (a || b) ≡ true
or_left true b e = refl
or_left false b e = cc

or_right : (a b : Bool) → b ≡ true → (a || b) ≡ true
or_right true b e = refl
or_right false b e = e

nothing_there : {X : Type 0} → (p : ℕ) (x : X) → slice_get [] p ≡ Some x → ⊥
nothing_there p x e = cc

pub to_take : {X : Type 0} → (xs : List X) (n p : ℕ) (x : X) → p < n → slice_get xs p ≡ Some x → slice_get (take n xs) p ≡ Some x
to_take [] n p x l e = cc
to_take (y ∷ ys) zero p x l e = absurd (omega arith)
to_take (y ∷ ys) (suc n) zero x l e = e
to_take (y ∷ ys) (suc n) (suc p) x l e = to_take ys n p x (omega arith) e

pub from_take : {X : Type 0} → (xs : List X) (n p : ℕ) (x : X) → slice_get (take n xs) p ≡ Some x → (p < n) × (slice_get xs p ≡ Some x)
from_take [] zero p x e = absurd (nothing_there p x e)
from_take [] (suc n) p x e = absurd (nothing_there p x e)
from_take (y ∷ ys) zero p x e = absurd (nothing_there p x e)
from_take (y ∷ ys) (suc n) zero x e = (omega arith, e)
from_take (y ∷ ys) (suc n) (suc p) x e = let (l, at) = from_take ys n p x e in (omega (arith, l), at)

any_none : (t : Record → Bool) (rs : List Record) → ((p : ℕ) (r : Record) → slice_get rs p ≡ Some r → t r ≡ false) → list_any t rs ≡ false
any_none t [] f = refl
any_none t (x ∷ xs) f = ap (λ b. b || list_any t xs) (f zero x refl) ∙ any_none t xs (λ p. f (suc p))

pub any_at : (t : Record → Bool) (rs : List Record) (p : ℕ) (r : Record) → slice_get rs p ≡ Some r → t r ≡ true → list_any t rs ≡ true
any_at t [] p r at e = cc
any_at t (x ∷ xs) zero r at e = or_left (t x) (list_any t xs) (ap t (same_Some x r at) ∙ e)
any_at t (x ∷ xs) (suc p) r at e = or_right (t x) (list_any t xs) (any_at t xs p r at e)

pub any_more : (t : Record → Bool) (rs : List Record) (a : ℕ) (r : Record) → slice_get rs a ≡ Some r → list_any t (take (a + 1) rs) ≡ (list_any t (take a rs) || t r)
any_more t rs a r at =
    list_any_more t rs a r (slice_get_within rs a r at) ∙ ap (λ (x : Record). list_any t (take a rs) || t x) (get_or_from_slice_get rs a r r at)

abbrev pub Unique : Type 0
Unique = (rs : List Record) (a b i k n m : ℕ) (op w : Op) → IsNumbered rs → slice_get rs a ≡ Some (records.Sub i k op n) → slice_get rs b ≡ Some (records.Sub i k w m) → a ≡ b

pub record SameSubmission (i k j l : ℕ) : Type 0 where
  pub who : i ≡ j
  pub number : k ≡ l

pub same_submission : (i k n j l m : ℕ) (op w : Op) → ◌≡◌ {A = Option Record} (Some (records.Sub i k op n)) (Some (records.Sub j l w m)) → SameSubmission i k j l
same_submission i k n j l m op w e = record { who = cc; number = cc }

-- ---- marks

-- no record before the submission of a request answers it
none_yet : Unique → (rs : List Record) (a b j m n : ℕ) (op : Op) → IsNumbered (take (a + 1) rs) → AreRight rs a → slice_get rs b ≡ Some (records.Sub j m op n) → a ≤ b → b < a + 1
    → (p : ℕ) (r : Record) → slice_get (take a rs) p ≡ Some r → answers_to j m r ≡ false
none_yet unique rs a b j m n op numbered right here low high p (records.Sub i k w q) at = refl
none_yet unique rs a b j m n op numbered right here low high p (records.Ans i k reply q) at = elim (cases_Bool ((j == i) && (m == k))) [
  | inl same_one ↦
      let (e1, e2) = and_parts (j == i) (m == k) same_one in
      let (l, there) = from_take rs a p (records.Ans i k reply q) at in
      let (c, fit) = right p i k q reply l there in
      let (before, asked) = from_take rs p c (records.Sub i k fit.op fit.since) fit.asked in
      let mine : slice_get rs c ≡ Some (records.Sub j m fit.op fit.since) =
      asked ∙ ap (λ x. Some (records.Sub x k fit.op fit.since)) (sym (eqb-true j i e1)) ∙ ap (λ y. Some (records.Sub j y fit.op fit.since)) (sym (eqb-true m k e2)) in
      let same = unique (take (a + 1) rs) c b j m fit.since n fit.op op numbered
      (to_take rs (a + 1) c (records.Sub j m fit.op fit.since) (omega (arith, before, l)) mine) (to_take rs (a + 1) b (records.Sub j m op n) high here) in
      absurd (omega (arith, same, before, l, low))
  | inr fine ↦ fine
]

marked_sub : Unique → (marks : List Bool) (rs : List Record) (a i k n : ℕ) (op : Op) → slice_get rs a ≡ Some (records.Sub i k op n) → IsNumbered (take (a + 1) rs) → AreRight rs a
    → AreMarks marks (take a rs) → ((b : ℕ) → a ≤ b → get_or marks b false ≡ false) → AreMarks marks (take (a + 1) rs)
marked_sub unique marks rs a i k n op at numbered right marked unmarked = λ b j m q w there.
    let (l, here) = from_take rs (a + 1) b (records.Sub j m w q) there in
    let more = any_more (answers_to j m) rs a (records.Sub i k op n) at ∙ or_none (list_any (answers_to j m) (take a rs)) in
    elim (cases_lt b a) [
      | inl before ↦ marked b j m q w (to_take rs a b (records.Sub j m w q) before here) ∙ sym more
      | inr last ↦
          let low : a ≤ b = omega (arith, last) in
          unmarked b low ∙ sym (more ∙ any_none (answers_to j m) (take a rs) (none_yet unique rs a b j m q w numbered right here low l))
    ]

module _ (unique : Unique) (marks : List Bool) (rs : List Record) (a i k n b : ℕ) (reply : Reply) (at : slice_get rs a ≡ Some (records.Ans i k reply n))
    (numbered : IsNumbered (take a rs)) (fit : IsOpen (take a rs) i k b) (len : length marks ≡ length rs) (marked : AreMarks marks (take a rs)) where
  below_end : b < a
  below_end = (from_take rs a b (records.Sub i k fit.op fit.since) fit.asked).0

  pub is_within : b < length marks
  is_within = omega (arith, len, below_end, slice_get_within rs a (records.Ans i k reply n) at)

  not_last : (c j m q : ℕ) (w : Op) → c < a + 1 → slice_get rs c ≡ Some (records.Sub j m w q) → c < a
  not_last c j m q w l here = elim (cases_lt c a) [
    | inl before ↦ before
    | inr last ↦
        let same : c ≡ a = omega (arith, l, last) in
        absurd (no_answer j m q i k n w reply (sym here ∙ ap (slice_get rs) same ∙ at))
  ]

  pub marked_answer : AreMarks (set marks b true) (take (a + 1) rs)
  marked_answer = λ c j m q w there.
      let (l, here) = from_take rs (a + 1) c (records.Sub j m w q) there in
      let low = to_take rs a c (records.Sub j m w q) (not_last c j m q w l here) here in
      let more = any_more (answers_to j m) rs a (records.Ans i k reply n) at in
      let before = list_any (answers_to j m) (take a rs) in
      elim (cases_eq c b) [
        | inl same ↦
            let s = same_submission j m q i k fit.since w fit.op (sym low ∙ ap (slice_get (take a rs)) same ∙ fit.asked) in
            let both : ((j == i) && (m == k)) ≡ true = ap (λ v. v && (m == k)) (eq-eqb j i s.who) ∙ eq-eqb m k s.number in
            ap (λ x. get_or (set marks b true) x false) same ∙ get_or-set_same marks b true false is_within
            ∙ sym (more ∙ or_right before ((j == i) && (m == k)) both)
        | inr other ↦
            let apart : ((j == i) && (m == k)) ≡ false = elim (cases_Bool ((j == i) && (m == k))) [
              | inl same_one ↦
                  let (e1, e2) = and_parts (j == i) (m == k) same_one in
                  let mine : slice_get (take a rs) b ≡ Some (records.Sub j m fit.op fit.since) =
                  fit.asked ∙ ap (λ x. Some (records.Sub x k fit.op fit.since)) (sym (eqb-true j i e1)) ∙ ap (λ y. Some (records.Sub j y fit.op fit.since)) (sym (eqb-true m k e2)) in
                  absurd (other (unique (take a rs) c b j m q fit.since w fit.op numbered low mine))
              | inr fine ↦ fine
            ] in
            get_or-set_other marks b c true false other ∙ marked c j m q w low ∙ sym (more ∙ ap (λ v. before || v) apart ∙ or_none before)
      ]

  pub unmarked_answer : ((c : ℕ) → a ≤ c → get_or marks c false ≡ false) → (c : ℕ) → a + 1 ≤ c → get_or (set marks b true) c false ≡ false
  unmarked_answer unmarked = λ c l.
      get_or-set_other marks b c true false (λ e. absurd (omega (arith, e, l, below_end))) ∙ unmarked c (omega (arith, l))

abbrev pub Below : Type 0
Below = (rs : List Record) (b i k n : ℕ) (op : Op) → IsNumbered rs → slice_get rs b ≡ Some (records.Sub i k op n) → k < length (submissions rs i)

pub counted_sub : Own → Other → Numbered → Unique → (counts : List ℕ) (marks : List Bool) (rs : List Record) (a i k n : ℕ) (op : Op) → slice_get rs a ≡ Some (records.Sub i k op n) → IsCounted counts marks rs a → i < 256 → k ≡ get_or counts i 0
    → IsCounted (set counts i (get_or counts i 0 + 1)) marks rs (a + 1)
counted_sub own other numbered unique counts marks rs a i k n op at known small is =
    let within : i < length counts = omega (arith, known.counts.len) in
    let still = numbered rs a i k n op known.numbered at (is ∙ known.counts.at i small) in
    record {
      counts = record {
        len = length-set counts i (get_or counts i 0 + 1) ∙ known.counts.len;
        at = λ j l. elim (cases_eq j i) [
          | inl s ↦ subst (λ v. get_or (set counts i (get_or counts i 0 + 1)) v 0 ≡ length (submissions (take (a + 1) rs) v)) (sym s)
              (get_or-set_same counts i (get_or counts i 0 + 1) 0 within ∙ ap (λ v. v + 1) (known.counts.at i small)
              ∙ sym (ap length (own rs a i k n op at) ∙ length-append (submissions (take a rs) i) (op ∷ [])))
          | inr d ↦ get_or-set_other counts i j (get_or counts i 0 + 1) 0 d ∙ known.counts.at j l ∙ sym (ap length (other rs a i j k n op at d))
        ];
      };
      numbered = still;
      asked = λ b j l m reply less there. elim (cases_lt b a) [
        | inl before ↦ known.asked b j l m reply before there
        | inr last ↦
            let same : a ≡ b = omega (arith, less, last) in
            absurd (no_answer i k n j l m op reply (sym at ∙ ap (slice_get rs) same ∙ there))
      ];
      right = λ b j l m reply less there. elim (cases_lt b a) [
        | inl before ↦ known.right b j l m reply before there
        | inr last ↦
            let same : a ≡ b = omega (arith, less, last) in
            absurd (no_answer i k n j l m op reply (sym at ∙ ap (slice_get rs) same ∙ there))
      ];
      len = known.len;
      marked = marked_sub unique marks rs a i k n op at still known.right known.marked known.unmarked;
      unmarked = λ b l. known.unmarked b (omega (arith, l));
    }

pub counted_answer : Answer → NumberedAnswer → Below → Unique → (counts : List ℕ) (marks : List Bool) (rs : List Record) (a i k n b : ℕ) (reply : Reply) → slice_get rs a ≡ Some (records.Ans i k reply n) → IsOpen (take a rs) i k b
    → IsCounted counts marks rs a → IsCounted counts (set marks b true) rs (a + 1)
counted_answer answer numbered below unique counts marks rs a i k n b reply at fit known =
    let here : k < length (submissions (take a rs) i) = below (take a rs) b i k fit.since fit.op known.numbered fit.asked in
    record {
      counts = record { len = known.counts.len; at = λ j l. known.counts.at j l ∙ sym (ap length (answer rs a i j k n reply at)) };
      numbered = numbered rs a i k n reply known.numbered at;
      asked = λ c j l m other less there. elim (cases_lt c a) [
        | inl before ↦ known.asked c j l m other before there
        | inr last ↦
            let eq : a ≡ c = omega (arith, less, last) in
            let same = same_answer i k n j l m reply other (sym at ∙ ap (slice_get rs) eq ∙ there) in
            subst (λ v. l < length (submissions (take v rs) j)) eq
            (subst (λ v. l < length (submissions (take a rs) v)) same.who (subst (λ v. v < length (submissions (take a rs) i)) same.number here))
      ];
      right = λ c j l m other less there. elim (cases_lt c a) [
        | inl before ↦ known.right c j l m other before there
        | inr last ↦
            let eq : a ≡ c = omega (arith, less, last) in
            let same = same_answer i k n j l m reply other (sym at ∙ ap (slice_get rs) eq ∙ there) in
            (b, subst (λ v. IsOpen (take v rs) j l b) eq (subst (λ v. IsOpen (take a rs) v l b) same.who (subst (λ v. IsOpen (take a rs) i v b) same.number fit)))
      ];
      len = length-set marks b true ∙ known.len;
      marked = marked_answer unique marks rs a i k n b reply at known.numbered fit known.len known.marked;
      unmarked = unmarked_answer unique marks rs a i k n b reply at known.numbered fit known.len known.marked known.unmarked;
    }

-- ---- misformed records

pub misnumbered : (counts : List ℕ) (marks : List Bool) (rs : List Record) (a i k n : ℕ) (op : Op) → IsCounted counts marks rs a → i < 256 → (get_or counts i 0 ≡ k → ⊥) → IsMisformed (take a rs) (records.Sub i k op n)
misnumbered counts marks rs a i k n op known small other = λ is. other (known.counts.at i small ∙ sym is)

-- the request isn't submitted
pub unasked : (rs : List Record) (i k n : ℕ) (reply : Reply) → list_any (submits i k) rs ≡ false → IsMisformed rs (records.Ans i k reply n)
unasked rs i k n reply none = inl (λ b op m at.
    let yes : ((i == i) && (k == k)) ≡ true = ap (λ v. v && (k == k)) (eq-eqb i i refl) ∙ eq-eqb k k refl in
    absurd (clash (any_at (submits i k) rs b (records.Sub i k op m) at yes) none))

formed_at : (rs : List Record) (n a : ℕ) → a < n → IsNumbered (take n rs) → AreRight rs n → (r : Record) → slice_get rs a ≡ Some r → IsMisformed (take a rs) r → ⊥
formed_at rs n a l numbered right (records.Sub i k op m) at wrong =
    wrong (numbered a i k m op (to_take rs n a (records.Sub i k op m) l at) ∙ ap (λ (xs : List Record). length (submissions xs i)) (take-take a n rs (omega (arith, l))))
formed_at rs n a l numbered right (records.Ans i k reply m) at (inl unasked) =
    let (b, fit) = right a i k m reply l at in
    clash (unasked b fit.op fit.since fit.asked) fit.not_posted
formed_at rs n a l numbered right (records.Ans i k reply m) at (inr again) =
    let (b, fit) = right a i k m reply l at in
    clash again fit.unanswered

pub all_formed : (totals : List ℕ) (marks : List Bool) (rs : List Record) (n : ℕ) → IsCounted totals marks rs n → AreFormed rs n
all_formed totals marks rs n known = λ a l wrong. formed_at rs n a l known.numbered known.right wrong.0 wrong.1 wrong.2

-- the record at a place that there is isn't missing
pub never_past : {X : Type 0} → (rs : List X) (a : ℕ) → a < length rs → slice_get rs a ≡ None → ⊥
never_past [] a within none = omega (arith, within)
never_past (r ∷ rs) zero within none = cc
never_past (r ∷ rs) (suc a) within none = never_past rs a (omega (arith, within)) none

-- none of the records passes, if none before does, and not the one there
pub none_more : {X : Type 0} → (p : X → Bool) (rs : List X) (a : ℕ) (found : Bool) → a < length rs → list_any p (take a rs) ≡ false → ((r : X) → slice_get rs a ≡ Some r → found ≡ p r) → found ≡ false → list_any p (take (a + 1) rs) ≡ false
none_more p rs a found within before value absent = elim (slice_get_cases rs a).1 [
  | inl here ↦
      let x = here.0 in
      list_any_more p rs a x within ∙ ap (λ b. b || p (get_or rs a x)) before ∙ ap p here.3 ∙ sym (value x here.2) ∙ absent
  | inr past ↦ absurd (omega (arith, within, past.0))
]
