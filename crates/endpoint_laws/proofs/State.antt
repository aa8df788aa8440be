-- What requester 1 submitted and was answered: what is open, and that each posted write acted.
use Rattle.std.proofs.Common.{◌≡◌, ◌∙◌, ℕ, zero, suc, ◌+◌, ◌<◌, true, false, List, [], ◌∷◌, ◌++◌, length, take, refl, sym, ap, subst, arith, ⊎_elim, ◌⊎◌, inl, inr, Some}
use Rattle.std.specs.Prelude.{slice_get}
use Rattle.std.specs.List.{list_any}
use Rattle.std.proofs.lemmas.List.{length_push}
use Rattle.tlp_core.specs.Ops.{Op}
use Rattle.tlp_core.specs.Operation.{is_posted}
use Rattle.seq_memory.specs.Entries.{Entry}
use Rattle.seq_memory.specs.Entries.{Reply}
use Rattle.seq_memory.specs.Step.{answer}
use Rattle.seq_memory.specs.History.{extent_of, contents, reply_at}
use Rattle.history_words.specs.Records.{Record}
use Rattle.history_words.specs.declared.record.RecordOf.TheVariants.{Sub, Ans}
use Rattle.history_words.specs.Claim.{Claim}
use Rattle.history_words.specs.Trace.{submissions, answers_to, is_request, stands, IsLawful, IsExplained}
use Rattle.endpoint_laws.proofs.Lists.{get_before, get_seam, get_within, get_push, take_push, found, any_append, none_push, test}
use Rattle.endpoint_laws.proofs.Growing.{said, acted, Kept, made_own, made_ans, made_number, there, both_equal, other_number, reply_there, submitted, entered, answered}

pub record State (c : Claim) (m : ℕ) : Type 0 where
  pub kept : Kept c
  pub count : length (submissions c.records 1) ≡ m
  pub posted : (j : ℕ) (op : Op) → slice_get (submissions c.records 1) j ≡ Some op → is_posted op ≡ true → stands c.memory.entries 1 j ≡ true

-- request k is submitted, and hasn't acted
pub record IsOpen (c : Claim) (k : ℕ) (op : Op) : Type 0 where
  pub place : ℕ
  pub since : ℕ
  pub asked : slice_get c.records place ≡ Some (Sub 1 k op since)
  pub waits : stands c.memory.entries 1 k ≡ false
  pub unanswered : list_any (answers_to 1 k) c.records ≡ false

-- those from number k on
abbrev pub AreOpen : Claim → ℕ → List Op → Type 0
AreOpen c k [] = Unit {0}
AreOpen c k (op ∷ ops) = IsOpen c k op × AreOpen c (k + 1) ops

abbrev pub entry : ℕ → Op → Entry
entry k op = record { requester = 1; number = k; op = op }

-- ---- numbers

pub made : (c : Claim) (m k : ℕ) (op : Op) → State c m → IsOpen c k op → slice_get (submissions c.records 1) k ≡ Some op
made c m k op s o = made_number c.records o.place 1 k o.since op s.kept.explains.numbered o.asked

pub open_below : (c : Claim) (m k : ℕ) (op : Op) → State c m → IsOpen c k op → k < m
open_below c m k op s o =
    let w : k < length (submissions c.records 1) = get_within (submissions c.records 1) k op (made c m k op s o) in
    let n : length (submissions c.records 1) ≡ m = s.count in
    omega arith

pub get_taken : {X : Type 0} (n : ℕ) (xs : List X) (p : ℕ) (x : X) → slice_get (take n xs) p ≡ Some x → slice_get xs p ≡ Some x
get_taken zero xs p x e = absurd (cc)
get_taken (suc n) [] p x e = absurd (cc)
get_taken (suc n) (y ∷ ys) zero x e = e
get_taken (suc n) (y ∷ ys) (suc p) x e = get_taken n ys p x e

-- the next number is new
pub not_there : (c : Claim) (m : ℕ) → State c m → stands c.memory.entries 1 m ≡ false
not_there c m s = ⊎_elim
    (λ (t : stands c.memory.entries 1 m ≡ true). absurd (
    let f = found (is_request 1 m) c.memory.entries t in
    let e : Entry = f.1 in
    let is : (e.requester ≡ 1) × (e.number ≡ m) = both_equal 1 m e.requester e.number f.3 in
    let law = s.kept.explains.legal f.0 e f.2 in
    let at : slice_get (submissions c.records 1) e.number ≡ Some e.op = subst (λ (i : ℕ). slice_get (submissions c.records i) e.number ≡ Some e.op) is.0 law.submitted in
    let w : e.number < length (submissions c.records 1) = get_within (submissions c.records 1) e.number e.op at in
    let n : length (submissions c.records 1) ≡ m = s.count in
    let same : e.number ≡ m = is.1 in
    omega arith))
    (λ (t : stands c.memory.entries 1 m ≡ false). t)
    (test (stands c.memory.entries 1 m))

answered_at : (c : Claim) (m a : ℕ) (r : Record) → State c m → slice_get c.records a ≡ Some r → answers_to 1 m r ≡ true → ⊥
answered_at c m a (Sub i k op n) s at is = cc
answered_at c m a (Ans i k x n) s at is =
    let same : (i ≡ 1) × (k ≡ m) = both_equal 1 m i k is in
    let e : IsExplained c.memory (take a c.records) i k x n = s.kept.explains.linear a i k n x at in
    let sub : slice_get c.records e.place ≡ Some (Sub i k e.op e.since) = get_taken a c.records e.place (Sub i k e.op e.since) e.asked in
    let got : slice_get (submissions c.records i) k ≡ Some e.op = made_number c.records e.place i k e.since e.op s.kept.explains.numbered sub in
    let here : slice_get (submissions c.records 1) k ≡ Some e.op = subst (λ (j : ℕ). slice_get (submissions c.records j) k ≡ Some e.op) same.0 got in
    let w : k < length (submissions c.records 1) = get_within (submissions c.records 1) k e.op here in
    let n : length (submissions c.records 1) ≡ m = s.count in
    let number : k ≡ m = same.1 in
    omega arith

not_answered : (c : Claim) (m : ℕ) → State c m → list_any (answers_to 1 m) c.records ≡ false
not_answered c m s = ⊎_elim
    (λ (t : list_any (answers_to 1 m) c.records ≡ true). absurd (let f = found (answers_to 1 m) c.records t in answered_at c m f.0 f.1 s f.2 f.3))
    (λ (t : list_any (answers_to 1 m) c.records ≡ false). t)
    (test (list_any (answers_to 1 m) c.records))

-- ---- what is open stays so

pub said_open : (c : Claim) (r : Record) (k : ℕ) (op : Op) → answers_to 1 k r ≡ false → IsOpen c k op → IsOpen (said c r) k op
said_open c r k op not o = record {
  place = o.place;
  since = o.since;
  asked = get_before c.records (r ∷ []) o.place (Sub 1 k op o.since) o.asked;
  waits = o.waits;
  unanswered = none_push (answers_to 1 k) c.records r o.unanswered not;
}

pub acted_open : (c : Claim) (e : Entry) (k : ℕ) (op : Op) → is_request 1 k e ≡ false → IsOpen c k op → IsOpen (acted c e) k op
acted_open c e k op not o = record {
  place = o.place;
  since = o.since;
  asked = o.asked;
  waits = none_push (is_request 1 k) c.memory.entries e o.waits not;
  unanswered = o.unanswered;
}

-- ---- a request is submitted

pub submit_open : (c : Claim) (m n : ℕ) (op : Op) → State c m → IsOpen (said c (Sub 1 m op n)) m op
submit_open c m n op s = record {
  place = length c.records;
  since = n;
  asked = get_seam c.records [] (Sub 1 m op n);
  waits = not_there c m s;
  unanswered = none_push (answers_to 1 m) c.records (Sub 1 m op n) (not_answered c m s) refl;
}

counted : (c : Claim) (m n : ℕ) (op : Op) → State c m → length (submissions (said c (Sub 1 m op n)).records 1) ≡ m + 1
counted c m n op s = ap length (made_own c.records m op n) ∙ (length_push (submissions c.records 1) op ∙ ap (λ (x : ℕ). x + 1) s.count)

-- what was submitted before, or the new one
new_or_old : (c : Claim) (m n j : ℕ) (op z : Op) → State c m → slice_get (submissions (said c (Sub 1 m op n)).records 1) j ≡ Some z → (slice_get (submissions c.records 1) j ≡ Some z) ⊎ ((j ≡ m) × (op ≡ z))
new_or_old c m n j op z s at = ⊎_elim
    (λ (g : (j < length (submissions c.records 1)) × (slice_get (submissions c.records 1) j ≡ Some z)). inl g.1)
    (λ (g : (j ≡ length (submissions c.records 1)) × (op ≡ z)). inr (g.0 ∙ s.count, g.1))
    (get_push (submissions c.records 1) op j z (subst (λ (ops : List Op). slice_get ops j ≡ Some z) (made_own c.records m op n) at))

said_kept : (c : Claim) (m n : ℕ) (op : Op) → State c m → n ≡ length c.memory.entries → Kept (said c (Sub 1 m op n))
said_kept c m n op s at = submitted c 1 m n op s.kept (sym s.count) at (not_there c m s)

pub submit_state : (c : Claim) (m n : ℕ) (op : Op) → State c m → is_posted op ≡ false → n ≡ length c.memory.entries → State (said c (Sub 1 m op n)) (m + 1)
submit_state c m n op s not at = record {
  kept = said_kept c m n op s at;
  count = counted c m n op s;
  posted = λ j z got is. ⊎_elim
      (λ (g : slice_get (submissions c.records 1) j ≡ Some z). s.posted j z g is)
      (λ (g : (j ≡ m) × (op ≡ z)). absurd (let clash : true ≡ false = sym is ∙ (ap is_posted (sym g.1) ∙ not) in cc))
      (new_or_old c m n j op z s got);
}

-- ---- a posted request acts when it is submitted

module _ (c : Claim) (m n : ℕ) (op : Op) (s : State c m) (at : n ≡ length c.memory.entries) where
  abbrev asks : Claim
  asks = said c (Sub 1 m op n)

  posted_law : IsLawful (submissions asks.records) c.memory.entries (entry m op)
  posted_law = record {
    submitted = subst (λ (ops : List Op). slice_get ops m ≡ Some op) (sym (made_own c.records m op n)) (subst (λ (x : ℕ). slice_get (submissions c.records 1 ++ op ∷ []) x ≡ Some op) s.count (get_seam (submissions c.records 1) [] op));
    once = not_there c m s;
    ordered = λ j z less got is. ⊎_elim
        (λ (g : slice_get (submissions c.records 1) j ≡ Some z). s.posted j z g is)
        (λ (g : (j ≡ m) × (op ≡ z)). absurd (let e : j ≡ m = g.0 in omega arith))
        (new_or_old c m n j op z s got);
  }

  pub post_state : State (acted asks (entry m op)) (m + 1)
  post_state = record {
    kept = entered asks (entry m op) (said_kept c m n op s at) posted_law;
    count = counted c m n op s;
    posted = λ j z got is. ⊎_elim
        (λ (g : slice_get (submissions c.records 1) j ≡ Some z). any_append (is_request 1 j) c.memory.entries (entry m op ∷ []) (s.posted j z g is))
        (λ (g : (j ≡ m) × (op ≡ z)). subst (λ (x : ℕ). stands (c.memory.entries ++ entry m op ∷ []) 1 x ≡ true) (sym g.0) (there (c.memory.entries ++ entry m op ∷ []) (length c.memory.entries) (entry m op) (get_seam c.memory.entries [] (entry m op))))
        (new_or_old c m n j op z s got);
  }

  pub post_open : (k : ℕ) (ops : List Op) → AreOpen c k ops → AreOpen (acted asks (entry m op)) k ops
  post_open k [] o = tt
  post_open k (z ∷ ops) o =
      let w : k < m = open_below c m k z s o.0 in
      (acted_open asks (entry m op) k z (other_number 1 k 1 m (λ e. omega arith)) (said_open c (Sub 1 m op n) k z refl o.0), post_open (k + 1) ops o.1)

-- ---- an open request acts, and is answered

module _ (c : Claim) (m k : ℕ) (op : Op) (reply : Reply) (s : State c m) (o : IsOpen c k op) (not : is_posted op ≡ false)
    (is : reply ≡ answer c.memory.base c.memory.block (contents (extent_of c.memory) c.memory.entries) op) where
  abbrev goes : Claim
  goes = acted c (entry k op)

  open_law : IsLawful (submissions c.records) c.memory.entries (entry k op)
  open_law = record { submitted = made c m k op s o; once = o.waits; ordered = λ j z less got posted. s.posted j z got posted }

  seam : slice_get goes.memory.entries (length c.memory.entries) ≡ Some (entry k op)
  seam = get_seam c.memory.entries [] (entry k op)

  all : take (length c.memory.entries) goes.memory.entries ≡ c.memory.entries
  all = take_push c.memory.entries (entry k op) (length c.memory.entries) refl

  told : reply_at (extent_of goes.memory) goes.memory.entries (length c.memory.entries) ≡ Some reply
  told =
      reply_there goes.memory (length c.memory.entries) (entry k op) seam
      ∙ ap Some (ap (λ (h : List Entry). answer c.memory.base c.memory.block (contents (extent_of c.memory) h) op) all ∙ sym is)

  explained : IsExplained goes.memory goes.records 1 k reply (length goes.memory.entries)
  explained = record {
    place = o.place;
    op = op;
    since = o.since;
    point = length c.memory.entries;
    asked = o.asked;
    not_posted = not;
    unanswered = o.unanswered;
    acted = seam;
    after_submission = s.kept.clocked.bounded o.place (Sub 1 k op o.since) o.asked;
    before_answer = let long : length (c.memory.entries ++ entry k op ∷ []) ≡ length c.memory.entries + 1 = length_push c.memory.entries (entry k op) in omega arith;
    replied = told;
    above = λ a j n r less at.
        let e : IsExplained c.memory (take a c.records) 1 j r n = s.kept.explains.linear a 1 j n r at in
        subst (λ (h : List Entry). stands h 1 j ≡ true) (sym all) (there c.memory.entries e.point (entry j e.op) e.acted);
  }

  abbrev pub done : Claim
  done = said goes (Ans 1 k reply (length goes.memory.entries))

  pub act_state : State done m
  act_state = record {
    kept = answered goes 1 k (length goes.memory.entries) reply (entered c (entry k op) s.kept open_law) refl explained;
    count = ap length (made_ans c.records 1 k reply (length goes.memory.entries) 1) ∙ s.count;
    posted = λ j z got posted. any_append (is_request 1 j) c.memory.entries (entry k op ∷ []) (s.posted j z (subst (λ (ops : List Op). slice_get ops j ≡ Some z) (made_ans c.records 1 k reply (length goes.memory.entries) 1) got) posted);
  }

  -- others with greater numbers are open
  pub act_open : (i : ℕ) (ops : List Op) → k < i → AreOpen c i ops → AreOpen done i ops
  act_open i [] less a = tt
  act_open i (z ∷ ops) less a =
      (said_open goes (Ans 1 k reply (length goes.memory.entries)) i z (other_number 1 i 1 k (λ e. omega arith)) (acted_open c (entry k op) i z (other_number 1 i 1 k (λ e. omega arith)) a.0), act_open (i + 1) ops (omega arith) a.1)
