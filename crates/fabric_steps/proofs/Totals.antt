-- The history of a whole whose lanes hold no request has as many entries as were submitted, and so many records that
-- belong to it are submissions.
use Rattle.std.proofs.Common.{◌≡◌, ◌≢◌, ℕ, zero, suc, ◌+◌, ◌<◌, ◌≤◌, ◌==◌, ◌&&◌, List, [], ◌∷◌, ◌++◌, length, map, get_or, refl, sym, ap, ◌∙◌, subst, arith, eq-eqb}
use Rattle.std.proofs.lemmas.Bool.{ne_eqb}
use native.Mathlib.Decide.{ℕ_discrete, dec_lt}
use mathlib.Core.Logic.{dite}
use Rattle.tlp_core.specs.Ops.{Op}
use Rattle.history_words.specs.Records.{Record}
use Rattle.history_words.specs.declared.record.RecordOf.TheVariants.{Sub, Ans}
use Rattle.history_words.specs.Trace.{is_request, submissions}
use Rattle.fabric_steps.specs.Lists.{Each, one_if}
use Rattle.fabric_steps.specs.ListFacts.{each_at, get_before, count_nil}
use Rattle.fabric_steps.specs.Whole.{Entry, RequesterView, Whole, view, path, up_of, requester_of, entry_of, unused}
use Rattle.fabric_steps.specs.Sound.{times, Sound}
use Rattle.fabric_steps.specs.Trace.{Belongs, submitted_by, submission_count}
use Rattle.fabric_steps.proofs.Lists.{count_cons}
use Rattle.fabric_steps.proofs.Numbers.{numbers_below}
use Rattle.fabric_steps.proofs.Legal.{quiet_acted}
use Rattle.fabric_steps.proofs.Submitted.{each_of}

-- ---- sums of the first n values

abbrev sum_below : (ℕ → ℕ) → ℕ → ℕ
sum_below f zero = 0
sum_below f (suc n) = f 0 + sum_below (λ k. f (suc k)) n

sum_same : (f g : ℕ → ℕ) (n : ℕ) → ((k : ℕ) → k < n → f k ≡ g k) → sum_below f n ≡ sum_below g n
sum_same f g zero h = refl
sum_same f g (suc n) h =
    ap (λ (x : ℕ). x + sum_below (λ k. f (suc k)) n) (h 0 (omega arith)) ∙ ap (λ (x : ℕ). g 0 + x) (sum_same (λ k. f (suc k)) (λ k. g (suc k)) n (λ k l. h (suc k) (omega arith)))

mixed : (a b c d e : ℕ) → e ≡ c + d → (a + b) + e ≡ (a + c) + (b + d)
mixed a b c d e h = omega arith

sum_add : (f g : ℕ → ℕ) (n : ℕ) → sum_below (λ k. f k + g k) n ≡ sum_below f n + sum_below g n
sum_add f g zero = refl
sum_add f g (suc n) = mixed (f 0) (g 0) (sum_below (λ k. f (suc k)) n) (sum_below (λ k. g (suc k)) n) (sum_below (λ k. f (suc k) + g (suc k)) n) (sum_add (λ k. f (suc k)) (λ k. g (suc k)) n)

added : (a b c d e : ℕ) → a ≡ c → b ≡ d → c + d ≡ e → a + b ≡ e
added a b c d e h k l = omega arith

sum_zero : (f : ℕ → ℕ) (n : ℕ) → ((k : ℕ) → f k ≡ 0) → sum_below f n ≡ 0
sum_zero f zero h = refl
sum_zero f (suc n) h = added (f 0) (sum_below (λ k. f (suc k)) n) 0 0 0 (h 0) (sum_zero (λ k. f (suc k)) n (λ k. h (suc k))) refl

sum_ones : (n : ℕ) → sum_below (λ k. 1) n ≡ n
sum_ones zero = refl
sum_ones (suc n) = let r : sum_below (λ k. 1) n ≡ n = sum_ones n in added 1 (sum_below (λ k. 1) n) 1 n (suc n) refl r (omega arith)

is_one : (a b : ℕ) → a ≡ b → one_if (a == b) ≡ 1
is_one a b e = rw (eq-eqb a b e) refl

is_none : (a b : ℕ) → a ≢ b → one_if (a == b) ≡ 0
is_none a b ne = rw (ne_eqb a b ne) refl

shifted : (k m : ℕ) → one_if (suc k == suc m) ≡ one_if (k == m)
shifted k m = dite (ℕ_discrete k m)
    (λ is. is_one (suc k) (suc m) (ap suc is) ∙ sym (is_one k m is))
    (λ ne. is_none (suc k) (suc m) (λ e. ne (let f : k ≡ m = omega arith in f)) ∙ sym (is_none k m ne))

sum_at : (m n : ℕ) → m < n → sum_below (λ k. one_if (k == m)) n ≡ 1
sum_at m zero l = absurd (omega arith)
sum_at zero (suc n) l = added (one_if (0 == 0)) (sum_below (λ k. one_if (suc k == 0)) n) 1 0 1 (is_one 0 0 refl) (sum_zero (λ k. one_if (suc k == 0)) n (λ k. is_none (suc k) 0 (λ e. absurd (omega arith)))) refl
sum_at (suc m) (suc n) l =
    added (one_if (0 == suc m)) (sum_below (λ k. one_if (suc k == suc m)) n) 0 1 1 (is_none 0 (suc m) (λ e. absurd (omega arith)))
    (sum_same (λ k. one_if (suc k == suc m)) (λ k. one_if (k == m)) n (λ k b. shifted k m) ∙ sum_at m n (omega arith)) refl

-- ---- entries by requester and number

own_hits : (r m : ℕ) (bound : ℕ → ℕ) → m < bound r → (i : ℕ) → sum_below (λ k. one_if ((i == r) && (k == m))) (bound i) ≡ one_if (i == r)
own_hits r m bound l i = dite (ℕ_discrete i r)
    (λ is. sum_same (λ k. one_if ((i == r) && (k == m))) (λ k. one_if (k == m)) (bound i) (λ k b. rw (eq-eqb i r is) refl)
    ∙ (sum_at m (bound i) (subst (λ (j : ℕ). m < bound j) (sym is) l) ∙ sym (is_one i r is)))
    (λ ne. sum_zero (λ k. one_if ((i == r) && (k == m))) (bound i) (λ k. rw (ne_eqb i r ne) refl) ∙ sym (is_none i r ne))

one_more : (n a b : ℕ) → a ≡ 1 + b → n ≡ b → suc n ≡ a
one_more n a b h k = omega arith

all_counted : (bound : ℕ → ℕ) (count : ℕ) (es : List Entry) → Each (λ e. (e.requester < count) × (e.number < bound e.requester)) es →
    length es ≡ sum_below (λ i. sum_below (λ k. times i k es) (bound i)) count
all_counted bound count [] h = sym (sum_zero (λ i. sum_below (λ k. times i k []) (bound i)) count (λ i. sum_zero (λ k. times i k []) (bound i) (λ k. count_nil (is_request i k))))
all_counted bound count (e ∷ es) h =
    one_more (length es) (sum_below (λ i. sum_below (λ k. times i k (e ∷ es)) (bound i)) count) (sum_below (λ i. sum_below (λ k. times i k es) (bound i)) count)
    (sum_same (λ i. sum_below (λ k. times i k (e ∷ es)) (bound i)) (λ i. one_if (i == e.requester) + sum_below (λ k. times i k es) (bound i)) count
    (λ i l. sum_same (λ k. times i k (e ∷ es)) (λ k. one_if (is_request i k e) + times i k es) (bound i) (λ k m. count_cons (is_request i k) e es)
    ∙ (sum_add (λ k. one_if (is_request i k e)) (λ k. times i k es) (bound i) ∙ ap (λ (x : ℕ). x + sum_below (λ k. times i k es) (bound i)) (own_hits e.requester e.number bound h.0.1 i)))
    ∙ (sum_add (λ i. one_if (i == e.requester)) (λ i. sum_below (λ k. times i k es) (bound i)) count
    ∙ ap (λ (x : ℕ). x + sum_below (λ i. sum_below (λ k. times i k es) (bound i)) count) (sum_at e.requester count h.0.0)))
    (all_counted bound count es h.1)

-- ---- the requesters

total_next : (qs : List RequesterView) → sum_below (λ i. (get_or qs i unused).next) (length qs) ≡ submitted_by qs
total_next [] = refl
total_next (q ∷ qs) = ap (λ (x : ℕ). q.next + x) (total_next qs)

past_end : (qs : List RequesterView) (i : ℕ) → length qs ≤ i → get_or qs i unused ≡ unused
past_end [] i h = refl
past_end (q ∷ qs) zero h = absurd (omega arith)
past_end (q ∷ qs) (suc i) h = past_end qs i (omega arith)

known : (qs : List RequesterView) (i m : ℕ) → m < (get_or qs i unused).next → i < length qs
known qs i m l = dite (dec_lt i (length qs))
    (λ (b : i < length qs). b)
    (λ no. absurd (let none : m < unused.next = subst (λ (q : RequesterView). m < q.next) (past_end qs i (omega arith)) l in omega arith))

pub quiet_total : (p : Whole) → Sound p → p.inward ≡ [] → ((i : ℕ) → up_of p i ≡ []) → length p.history ≡ submitted_by p.requesters
quiet_total p s a b =
    all_counted (λ i. (requester_of p i).next) (length p.requesters) p.history
    (each_of (λ (e : Entry). (e.requester < length p.requesters) × (e.number < (requester_of p e.requester).next)) p.history (λ n e at.
    let below : e.number < (requester_of p e.requester).next = each_at (λ (x : Entry). x.requester ≡ e.requester → x.number < (requester_of p e.requester).next) (path (view p e.requester)) n e
    (get_before p.history (map entry_of p.inward ++ map entry_of (up_of p e.requester)) n e at) (numbers_below e.requester (view p e.requester) (s e.requester)) refl in
    (known p.requesters e.requester e.number below, below)))
    ∙ (sum_same (λ i. sum_below (λ k. times i k p.history) (requester_of p i).next) (λ i. (requester_of p i).next) (length p.requesters)
    (λ i l. sum_same (λ k. times i k p.history) (λ k. 1) (requester_of p i).next (λ k m. quiet_acted i (view p i) (s i) a (b i) k m) ∙ sum_ones (requester_of p i).next)
    ∙ total_next p.requesters)

-- ---- the records

own_count : (i j k n : ℕ) (op : Op) (rs : List Record) → length (submissions (Sub j k op n ∷ rs) i) ≡ one_if (i == j) + length (submissions rs i)
own_count i j k n op rs = dite (ℕ_discrete i j)
    (λ is. rw (eq-eqb i j is) (omega arith))
    (λ ne. rw (ne_eqb i j ne) (omega arith))

own_one : (j k n : ℕ) (op : Op) (rs : List Record) → length (submissions (Sub j k op n ∷ rs) j) ≡ 1 + length (submissions rs j)
own_one j k n op rs = own_count j j k n op rs ∙ ap (λ (x : ℕ). x + length (submissions rs j)) (is_one j j refl)

records_counted : (n : ℕ) (rs : List Record) → ((i : ℕ) → n ≤ i → length (submissions rs i) ≡ 0) → sum_below (λ i. length (submissions rs i)) n ≡ submission_count rs
records_counted n [] none = sum_zero (λ i. 0) n (λ i. refl)
records_counted n (Ans j k reply m ∷ rs) none = records_counted n rs none
records_counted n (Sub j k op m ∷ rs) none =
    let inside : j < n = dite (dec_lt j n)
    (λ (b : j < n). b)
    (λ no. absurd (let z : length (submissions (Sub j k op m ∷ rs) j) ≡ 0 = none j (omega arith) in let o = own_one j k m op rs in omega (arith, z, o))) in
    let rest : (i : ℕ) → n ≤ i → length (submissions rs i) ≡ 0 = λ i l. let z : length (submissions (Sub j k op m ∷ rs) i) ≡ 0 = none i l in let o = own_count i j k m op rs in omega (arith, z, o) in
    sum_same (λ i. length (submissions (Sub j k op m ∷ rs) i)) (λ i. one_if (i == j) + length (submissions rs i)) n (λ i l. own_count i j k m op rs)
    ∙ (sum_add (λ i. one_if (i == j)) (λ i. length (submissions rs i)) n
    ∙ (ap (λ (x : ℕ). x + sum_below (λ i. length (submissions rs i)) n) (sum_at j n inside)
    ∙ ap (λ (x : ℕ). 1 + x) (records_counted n rs rest)))

pub belongs_counted : (p : Whole) (rs : List Record) → Belongs p rs → submission_count rs ≡ submitted_by p.requesters
belongs_counted p rs b =
    sym (records_counted (length p.requesters) rs (λ i l. (b.made i).spent ∙ ap (λ (q : RequesterView). q.next) (past_end p.requesters i l)))
    ∙ (sum_same (λ i. length (submissions rs i)) (λ i. (requester_of p i).next) (length p.requesters) (λ i l. (b.made i).spent)
    ∙ total_next p.requesters)
