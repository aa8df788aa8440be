-- A claim that grows: a request is submitted, acts, or is answered.
use Rattle.std.proofs.Common.{◌≡◌, ◌≢◌, ◌∙◌, ℕ, zero, suc, ◌+◌, ◌<◌, ◌≤◌, true, false, List, [], ◌∷◌, ◌++◌, length, take, refl, sym, ap, subst, arith, ⊎_elim, Some, eq-eqb}
use Rattle.std.specs.Prelude.{slice_get, ◌==◌, ◌&&◌, option_map}
use Rattle.std.proofs.lemmas.Bool.Decides.{nat_tests}
use Rattle.std.proofs.lemmas.List.{append-nil, length_push}
use Rattle.std.proofs.lemmas.List.Elements.{filter_map-append}
use Rattle.tlp_core.specs.Ops.{Op}
use Rattle.seq_memory.specs.Entries.{Entry}
use Rattle.seq_memory.specs.Entries.{Reply}
use Rattle.seq_memory.specs.Step.{answer}
use Rattle.seq_memory.specs.History.{MemoryView, extent_of, contents, contents_at, reply_at}
use Rattle.history_words.specs.Records.{Record}
use Rattle.history_words.specs.declared.record.RecordOf.TheVariants.{Sub, Ans}
use Rattle.history_words.specs.Claim.{Claim}
use Rattle.history_words.specs.Clocks.{IsClocked}
use Rattle.history_words.specs.Flaws.{moment}
use Rattle.history_words.specs.Trace.{submission, submissions, is_request, stands, IsNumbered, IsLawful, IsLegal, IsExplained, IsLinear, Explains}
use Rattle.log_piece_laws.proofs.Places.{get_before, get_within, get_back, get_push, take_before, take_push, in_take, in_list, test}

-- with one more record, or one more entry
abbrev pub said : Claim → Record → Claim
said c r = record c { records = c.records ++ r ∷ [] }

abbrev pub acting : MemoryView → Entry → MemoryView
acting m e = record m { entries = m.entries ++ e ∷ [] }

abbrev pub acted : Claim → Entry → Claim
acted c e = record c { memory = acting c.memory e }

pub record Kept (c : Claim) : Type 0 where
  pub explains : Explains c
  pub clocked : IsClocked c

-- ---- what was submitted

pub made_push : (rs : List Record) (r : Record) (i : ℕ) → submissions (rs ++ r ∷ []) i ≡ submissions rs i ++ submissions (r ∷ []) i
made_push rs r i = filter_map-append (submission i) rs (r ∷ [])

pub made_ans : (rs : List Record) (j k : ℕ) (x : Reply) (n i : ℕ) → submissions (rs ++ Ans j k x n ∷ []) i ≡ submissions rs i
made_ans rs j k x n i = made_push rs (Ans j k x n) i ∙ append-nil (submissions rs i)

-- the operation of a submission by its number
pub made_at : (i k n a : ℕ) (op : Op) (rs : List Record) → slice_get rs a ≡ Some (Sub i k op n) → slice_get (submissions rs i) (length (submissions (take a rs) i)) ≡ Some op
made_at i k n a op [] e = absurd (cc)
made_at i k n zero op (r ∷ rs) e =
    let is : r ≡ Sub i k op n = cc in
    subst (λ (x : Record). slice_get (submissions (x ∷ rs) i) 0 ≡ Some op) (sym is) (rw (eq-eqb i i refl) refl)
made_at i k n (suc a) op (Sub b c o m ∷ rs) e =
    let r : slice_get (submissions rs i) (length (submissions (take a rs) i)) ≡ Some op = made_at i k n a op rs e in
    ⊎_elim (λ (t : (i == b) ≡ true). rw t r) (λ (t : (i == b) ≡ false). rw t r) (test (i == b))
made_at i k n (suc a) op (Ans b c x m ∷ rs) e = made_at i k n a op rs e

-- a submission has the number of its operation
pub made_number : (rs : List Record) (a i k n : ℕ) (op : Op) → IsNumbered rs → slice_get rs a ≡ Some (Sub i k op n) → slice_get (submissions rs i) k ≡ Some op
made_number rs a i k n op num e = ap (λ (m : ℕ). slice_get (submissions rs i) m) (num a i k n op e) ∙ made_at i k n a op rs e

-- ---- requests in the history

own_request : (e : Entry) → is_request e.requester e.number e ≡ true
own_request e = rw (eq-eqb e.requester e.requester refl, eq-eqb e.number e.number refl) refl

pub there : (h : List Entry) (p : ℕ) (e : Entry) → slice_get h p ≡ Some e → stands h e.requester e.number ≡ true
there h p e at = in_list (is_request e.requester e.number) h p e at (own_request e)

pub there_before : (h : List Entry) (n p : ℕ) (e : Entry) → p < n → slice_get h p ≡ Some e → stands (take n h) e.requester e.number ≡ true
there_before h n p e l at = in_take (is_request e.requester e.number) h n p e l at (own_request e)

pub both_equal : (i k j m : ℕ) → ((i == j) && (k == m)) ≡ true → (j ≡ i) × (m ≡ k)
both_equal i k j m h = grind (arith, nat_tests)

pub other_number : (i k j m : ℕ) → k ≢ m → ((i == j) && (k == m)) ≡ false
other_number i k j m h = grind (arith, nat_tests)

-- ---- lawful entries stay so

pub lawful_more : (s t : ℕ → List Op) (before : List Entry) (e : Entry) → ((i : ℕ) → (more : List Op) × (t i ≡ s i ++ more)) → IsLawful s before e → IsLawful t before e
lawful_more s t before e m l =
    let x = m e.requester in
    let w : e.number < length (s e.requester) = get_within (s e.requester) e.number e.op l.submitted in
    record {
      submitted = subst (λ (ops : List Op). slice_get ops e.number ≡ Some e.op) (sym x.1) (get_before (s e.requester) x.0 e.number e.op l.submitted);
      once = l.once;
      ordered = λ j op less at posted. l.ordered j op less (get_back (s e.requester) x.0 j op (omega arith) (subst (λ (ops : List Op). slice_get ops j ≡ Some op) x.1 at)) posted;
    }

legal_more : (rs : List Record) (r : Record) (h : List Entry) → IsLegal (submissions rs) h → IsLegal (submissions (rs ++ r ∷ [])) h
legal_more rs r h l p e at = lawful_more (submissions rs) (submissions (rs ++ r ∷ [])) (take p h) e (λ i. (submissions (r ∷ []) i, made_push rs r i)) (l p e at)

legal_acting : (s : ℕ → List Op) (h : List Entry) (e : Entry) → IsLegal s h → IsLawful s h e → IsLegal s (h ++ e ∷ [])
legal_acting s h e l law p x at = ⊎_elim
    (λ (g : (p < length h) × (slice_get h p ≡ Some x)).
    let w : p < length h = g.0 in
    subst (λ (b : List Entry). IsLawful s b x) (sym (take_before h (e ∷ []) p (omega arith))) (l p x g.1))
    (λ (g : (p ≡ length h) × (e ≡ x)). subst (λ (b : List Entry). IsLawful s b x) (sym (take_push h e p g.0)) (subst (IsLawful s h) g.1 law))
    (get_push h e p x at)

-- ---- explanations stay so

pub reply_there : (m : MemoryView) (p : ℕ) (e : Entry) → slice_get m.entries p ≡ Some e → reply_at (extent_of m) m.entries p ≡ Some (answer m.base m.block (contents_at (extent_of m) m.entries p) e.op)
reply_there m p e at = ap (option_map (λ (e : Entry). answer m.base m.block (contents_at (extent_of m) m.entries p) e.op)) at

explained_acting : (m : MemoryView) (x : Entry) (before : List Record) (i k : ℕ) (r : Reply) (n : ℕ) → IsExplained m before i k r n → IsExplained (acting m x) before i k r n
explained_acting m x before i k r n e =
    let own : Entry = record { requester = i; number = k; op = e.op } in
    let w : e.point < length m.entries = get_within m.entries e.point own e.acted in
    let same : take e.point (m.entries ++ x ∷ []) ≡ take e.point m.entries = take_before m.entries (x ∷ []) e.point (omega arith) in
    let at : slice_get (m.entries ++ x ∷ []) e.point ≡ Some own = get_before m.entries (x ∷ []) e.point own e.acted in
    record {
      place = e.place;
      op = e.op;
      since = e.since;
      point = e.point;
      asked = e.asked;
      not_posted = e.not_posted;
      unanswered = e.unanswered;
      acted = at;
      after_submission = e.after_submission;
      before_answer = e.before_answer;
      replied = reply_there (acting m x) e.point own at ∙ (ap (λ (h : List Entry). Some (answer m.base m.block (contents (extent_of m) h) e.op)) same ∙ (sym (reply_there m e.point own e.acted) ∙ e.replied));
      above = λ c j q a less got. subst (λ (h : List Entry). stands h i j ≡ true) (sym same) (e.above c j q a less got);
    }

-- ---- n's

rising_push : (h : List Entry) (rs : List Record) (r : Record) → moment r ≡ length h → ((a : ℕ) (x : Record) → slice_get rs a ≡ Some x → moment x ≤ length h)
    → ((a b : ℕ) (x y : Record) → a < b → slice_get rs a ≡ Some x → slice_get rs b ≡ Some y → moment x ≤ moment y)
    → (a b : ℕ) (x y : Record) → a < b → slice_get (rs ++ r ∷ []) a ≡ Some x → slice_get (rs ++ r ∷ []) b ≡ Some y → moment x ≤ moment y
rising_push h rs r is few up a b x y less at bt = ⊎_elim
    (λ (g : (b < length rs) × (slice_get rs b ≡ Some y)). ⊎_elim
    (λ (k : (a < length rs) × (slice_get rs a ≡ Some x)). up a b x y less k.1 g.1)
    (λ (k : (a ≡ length rs) × (r ≡ x)). absurd (let u : b < length rs = g.0 in let v : a ≡ length rs = k.0 in omega arith))
    (get_push rs r a x at))
    (λ (g : (b ≡ length rs) × (r ≡ y)). ⊎_elim
    (λ (k : (a < length rs) × (slice_get rs a ≡ Some x)). let m : moment r ≡ moment y = ap moment g.1 in let w : moment x ≤ length h = few a x k.1 in omega arith)
    (λ (k : (a ≡ length rs) × (r ≡ x)). absurd (let u : b ≡ length rs = g.0 in let v : a ≡ length rs = k.0 in omega arith))
    (get_push rs r a x at))
    (get_push rs r b y bt)

bounded_push : (h : List Entry) (rs : List Record) (r : Record) → moment r ≡ length h → ((a : ℕ) (x : Record) → slice_get rs a ≡ Some x → moment x ≤ length h)
    → (a : ℕ) (x : Record) → slice_get (rs ++ r ∷ []) a ≡ Some x → moment x ≤ length h
bounded_push h rs r is few a x at = ⊎_elim
    (λ (k : (a < length rs) × (slice_get rs a ≡ Some x)). few a x k.1)
    (λ (k : (a ≡ length rs) × (r ≡ x)). let m : moment r ≡ moment x = ap moment k.1 in omega arith)
    (get_push rs r a x at)

-- ---- a request is submitted

sub_numbered : (rs : List Record) (i k n : ℕ) (op : Op) → IsNumbered rs → k ≡ length (submissions rs i) → IsNumbered (rs ++ Sub i k op n ∷ [])
sub_numbered rs i k n op num is a j m q z e =
    let r : Record = Sub i k op n in
    ⊎_elim
    (λ (g : (a < length rs) × (slice_get rs a ≡ Some (Sub j m z q))).
    let l : a < length rs = g.0 in
    num a j m q z g.1 ∙ ap (λ (x : List Record). length (submissions x j)) (sym (take_before rs (r ∷ []) a (omega arith))))
    (λ (g : (a ≡ length rs) × (r ≡ Sub j m z q)).
    let h : Sub i k op n ≡ Sub j m z q = g.1 in
    let own : i ≡ j = cc in
    let number : k ≡ m = cc in
    sym number ∙ (is ∙ (ap (λ (x : ℕ). length (submissions rs x)) own ∙ ap (λ (x : List Record). length (submissions x j)) (sym (take_push rs r a g.0)))))
    (get_push rs r a (Sub j m z q) e)

linear_more : (m : MemoryView) (rs : List Record) (r : Record) → IsLinear m rs → ((i k n : ℕ) (x : Reply) → r ≡ Ans i k x n → IsExplained m rs i k x n) → IsLinear m (rs ++ r ∷ [])
linear_more m rs r l new a i k n x e = ⊎_elim
    (λ (g : (a < length rs) × (slice_get rs a ≡ Some (Ans i k x n))).
    let w : a < length rs = g.0 in
    subst (λ (b : List Record). IsExplained m b i k x n) (sym (take_before rs (r ∷ []) a (omega arith))) (l a i k n x g.1))
    (λ (g : (a ≡ length rs) × (r ≡ Ans i k x n)). subst (λ (b : List Record). IsExplained m b i k x n) (sym (take_push rs r a g.0)) (new i k n x g.1))
    (get_push rs r a (Ans i k x n) e)

pub submitted : (c : Claim) (i k n : ℕ) (op : Op) → Kept c → k ≡ length (submissions c.records i) → n ≡ length c.memory.entries → stands c.memory.entries i k ≡ false → Kept (said c (Sub i k op n))
submitted c i k n op s is at none =
    let rs = c.records in
    let h = c.memory.entries in
    let r : Record = Sub i k op n in
    record {
      explains = record {
        numbered = sub_numbered rs i k n op s.explains.numbered is;
        legal = legal_more rs r h s.explains.legal;
        linear = linear_more c.memory rs r s.explains.linear (λ j m q x e. absurd (cc));
      };
      clocked = record {
        rises = rising_push h rs r at s.clocked.bounded s.clocked.rises;
        bounded = bounded_push h rs r at s.clocked.bounded;
        after_submission = λ p b q e z got e'. ⊎_elim
            (λ (g : (b < length rs) × (slice_get rs b ≡ Some (Sub e.requester e.number z q))). s.clocked.after_submission p b q e z got g.1)
            (λ (g : (b ≡ length rs) × (r ≡ Sub e.requester e.number z q)). absurd (
            let f : Sub i k op n ≡ Sub e.requester e.number z q = g.1 in
            let own : i ≡ e.requester = cc in
            let number : k ≡ e.number = cc in
            let yes : stands h i k ≡ true = subst (λ (y : ℕ). stands h y k ≡ true) (sym own) (subst (λ (y : ℕ). stands h e.requester y ≡ true) (sym number) (there h p e got)) in
            let clash : true ≡ false = sym yes ∙ none in
            cc))
            (get_push rs r b (Sub e.requester e.number z q) e');
      };
    }

-- ---- a request acts

pub entered : (c : Claim) (e : Entry) → Kept c → IsLawful (submissions c.records) c.memory.entries e → Kept (acted c e)
entered c e s law =
    let h = c.memory.entries in
    let long : length (h ++ e ∷ []) ≡ length h + 1 = length_push h e in
    record {
      explains = record {
        numbered = s.explains.numbered;
        legal = legal_acting (submissions c.records) h e s.explains.legal law;
        linear = λ a i k n r at. explained_acting c.memory e (take a c.records) i k r n (s.explains.linear a i k n r at);
      };
      clocked = record {
        rises = s.clocked.rises;
        bounded = λ a r at. let w : moment r ≤ length h = s.clocked.bounded a r at in omega arith;
        after_submission = λ p b n x op got sub. ⊎_elim
            (λ (g : (p < length h) × (slice_get h p ≡ Some x)). s.clocked.after_submission p b n x op g.1 sub)
            (λ (g : (p ≡ length h) × (e ≡ x)). let w : n ≤ length h = s.clocked.bounded b (Sub x.requester x.number op n) sub in let v : p ≡ length h = g.0 in omega arith)
            (get_push h e p x got);
      };
    }

-- ---- a request is answered

ans_numbered : (rs : List Record) (i k n : ℕ) (x : Reply) → IsNumbered rs → IsNumbered (rs ++ Ans i k x n ∷ [])
ans_numbered rs i k n x num a j m q z e =
    let r : Record = Ans i k x n in
    ⊎_elim
    (λ (g : (a < length rs) × (slice_get rs a ≡ Some (Sub j m z q))).
    let l : a < length rs = g.0 in
    num a j m q z g.1 ∙ ap (λ (y : List Record). length (submissions y j)) (sym (take_before rs (r ∷ []) a (omega arith))))
    (λ (g : (a ≡ length rs) × (r ≡ Sub j m z q)). absurd (let h : Ans i k x n ≡ Sub j m z q = g.1 in cc))
    (get_push rs r a (Sub j m z q) e)

same_explained : (m : MemoryView) (rs : List Record) (i k n j l q : ℕ) (x y : Reply) → ◌≡◌ {A = Record} (Ans i k x n) (Ans j l y q) → IsExplained m rs i k x n → IsExplained m rs j l y q
same_explained m rs i k n j l q x y e s =
    let own : i ≡ j = cc in
    let number : k ≡ l = cc in
    let reply : x ≡ y = cc in
    let len : n ≡ q = cc in
    subst (λ (a : ℕ). IsExplained m rs a l y q) own (subst (λ (a : ℕ). IsExplained m rs i a y q) number (subst (λ (a : Reply). IsExplained m rs i k a q) reply (subst (λ (a : ℕ). IsExplained m rs i k x a) len s)))

pub answered : (c : Claim) (i k n : ℕ) (x : Reply) → Kept c → n ≡ length c.memory.entries → IsExplained c.memory c.records i k x n → Kept (said c (Ans i k x n))
answered c i k n x s at ex =
    let rs = c.records in
    let h = c.memory.entries in
    let r : Record = Ans i k x n in
    record {
      explains = record {
        numbered = ans_numbered rs i k n x s.explains.numbered;
        legal = legal_more rs r h s.explains.legal;
        linear = linear_more c.memory rs r s.explains.linear (λ j m q y e. same_explained c.memory rs i k n j m q x y e ex);
      };
      clocked = record {
        rises = rising_push h rs r at s.clocked.bounded s.clocked.rises;
        bounded = bounded_push h rs r at s.clocked.bounded;
        after_submission = λ p b q e z got e'. ⊎_elim
            (λ (g : (b < length rs) × (slice_get rs b ≡ Some (Sub e.requester e.number z q))). s.clocked.after_submission p b q e z got g.1)
            (λ (g : (b ≡ length rs) × (r ≡ Sub e.requester e.number z q)). absurd (let f : Ans i k x n ≡ Sub e.requester e.number z q = g.1 in cc))
            (get_push rs r b (Sub e.requester e.number z q) e');
      };
    }
