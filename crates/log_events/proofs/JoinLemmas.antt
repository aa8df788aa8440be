-- The table of partners after one record more.
use Rattle.std.proofs.Common.{◌≡◌, ◌∙◌, ℕ, zero, suc, Bool, ◌+◌, ◌<◌, [], ◌∷◌, List, Some, None, length, take, set, refl, sym, ap, subst, inl, inr, arith, true}
use Rattle.std.specs.Prelude.{slice_get, ◌&&◌, ◌==◌, if◌then◌else◌, option_and_then}
use Rattle.std.proofs.lemmas.Bool.{cases_lt, eq-eqb, ne_eqb}
use Rattle.std.proofs.lemmas.List.{length-set}
use Rattle.std.proofs.lemmas.Option.{slice_get_within}
use Rattle.std.proofs.Math.Seq.{take-length}
use Rattle.tlp_core.specs.Ops.{Op}
use Rattle.seq_memory.specs.Entries.{Reply}
use Rattle.history_words.specs.Records.{Record}
use Rattle.history_words.specs.declared.record.RecordOf.TheVariants as records
use Rattle.history_words.specs.Trace.{IsNumbered, answers_to}
use Rattle.log_events.specs.Formed.{IsOpen}
use Rattle.log_events.specs.Joined.{partner, ArePartners, AreJoined}
use Rattle.log_events.proofs.CountLemmas.{Unique, to_take, from_take, any_at, clash, no_answer, same_answer, same_submission}

set_here : {X : Type 0} → (xs : List X) (i : ℕ) (v : X) → i < length xs → slice_get (set xs i v) i ≡ Some v
set_here [] i v l = absurd (omega arith)
set_here (x ∷ xs) zero v l = refl
set_here (x ∷ xs) (suc i) v l = set_here xs i v (omega arith)

set_there : {X : Type 0} → (xs : List X) (i j : ℕ) (v : X) → (j ≡ i → ⊥) → slice_get (set xs i v) j ≡ slice_get xs j
set_there [] i j v n = refl
set_there (x ∷ xs) zero zero v n = absurd (n refl)
set_there (x ∷ xs) zero (suc j) v n = refl
set_there (x ∷ xs) (suc i) zero v n = refl
set_there (x ∷ xs) (suc i) (suc j) v n = set_there xs i j v (λ e. n (ap suc e))

partner_here : (places : List ℕ) (a b : ℕ) → a < length places → (b ≡ a → ⊥) → partner (set places a b) a ≡ Some b
partner_here places a b l d =
    ap (option_and_then (λ (c : ℕ). if c == a then None else Some c)) (set_here places a b l) ∙ ap (λ (t : Bool). if t then None else Some b) (ne_eqb b a d)

partner_there : (places : List ℕ) (a b c : ℕ) → (c ≡ a → ⊥) → partner (set places a b) c ≡ partner places c
partner_there places a b c d = ap (option_and_then (λ (e : ℕ). if e == c then None else Some e)) (set_there places a c b d)

pub joined_none : (places : List ℕ) (rs : List Record) → length places ≡ length rs → AreJoined places rs 0
joined_none places rs len = record {
  len = len;
  partners = record { submission = λ a i k n reply at. absurd (nothing a (records.Ans i k reply n) at); answer = λ a b i k n m op reply sub ans. absurd (nothing b (records.Sub i k op m) sub) };
}
  where
    nothing : (a : ℕ) (r : Record) → slice_get (take 0 rs) a ≡ Some r → ⊥
    nothing a r at = let (l, _) = from_take rs 0 a r at in omega arith

pub joined_all : (places : List ℕ) (rs : List Record) (n : ℕ) → n ≡ length rs → AreJoined places rs n → ArePartners places rs
joined_all places rs n e x = subst (ArePartners places) (ap (λ k. take k rs) e ∙ take-length rs) x.partners

pub same_joined : (places others : List ℕ) (rs : List Record) (n : ℕ) → places ≡ others → AreJoined others rs n → AreJoined places rs n
same_joined places others rs n e x = subst (λ ps. AreJoined ps rs n) (sym e) x

-- ---- a submission

pub joined_sub : Unique → (places : List ℕ) (rs : List Record) (a i k n : ℕ) (op : Op) → slice_get rs a ≡ Some (records.Sub i k op n) → IsNumbered (take (a + 1) rs) → AreJoined places rs a → AreJoined places rs (a + 1)
joined_sub unique places rs a i k n op at numbered x = record {
  len = x.len;
  partners = record {
    submission = λ c j l m reply ans.
        let (low, there) = before c j l m reply ans in
        let (b, q, w, sub, other) = x.partners.submission c j l m reply (to_take rs a c (records.Ans j l reply m) low there) in
        let (_, whole) = from_take rs a b (records.Sub j l w q) sub in
        let (l1, _) = from_take rs a b (records.Sub j l w q) sub in
        (b, q, w, to_take rs (a + 1) b (records.Sub j l w q) (omega (arith, l1)) whole, other);
    answer = λ c d j l m q w reply sub ans.
        let (low, there) = before c j l m reply ans in
        let here = to_take rs a c (records.Ans j l reply m) low there in
        elim (cases_lt d a) [
          | inl small ↦
              let (_, whole) = from_take rs (a + 1) d (records.Sub j l w q) sub in
              x.partners.answer c d j l m q w reply (to_take rs a d (records.Sub j l w q) small whole) here
          | inr large ↦
              let (b, p, v, asked, other) = x.partners.submission c j l m reply here in
              let (small, whole) = from_take rs a b (records.Sub j l v p) asked in
              let same = unique (take (a + 1) rs) b d j l p q v w numbered (to_take rs (a + 1) b (records.Sub j l v p) (omega (arith, small)) whole) sub in
              absurd (omega (arith, small, large, same))
        ];
  };
}
  where
    before : (c j l m : ℕ) (reply : Reply) → slice_get (take (a + 1) rs) c ≡ Some (records.Ans j l reply m) → (c < a) × (slice_get rs c ≡ Some (records.Ans j l reply m))
    before c j l m reply ans =
        let (low, there) = from_take rs (a + 1) c (records.Ans j l reply m) ans in
        elim (cases_lt c a) [
          | inl small ↦ (small, there)
          | inr large ↦
              let same : a ≡ c = omega (arith, low, large) in
              absurd (no_answer i k n j l m op reply (sym at ∙ ap (slice_get rs) same ∙ there))
        ]

-- ---- an answer

module _ (unique : Unique) (places : List ℕ) (rs : List Record) (a i k n b : ℕ) (reply : Reply) (at : slice_get rs a ≡ Some (records.Ans i k reply n))
    (numbered : IsNumbered (take a rs)) (fit : IsOpen (take a rs) i k b) (x : AreJoined places rs a) where
  abbrev pub new : List ℕ
  new = set (set places b a) a b

  below : b < a
  below = (from_take rs a b (records.Sub i k fit.op fit.since) fit.asked).0

  asked_at : slice_get rs b ≡ Some (records.Sub i k fit.op fit.since)
  asked_at = (from_take rs a b (records.Sub i k fit.op fit.since) fit.asked).1

  inside : a < length places
  inside = subst (λ l. a < l) (sym x.len) (slice_get_within rs a (records.Ans i k reply n) at)

  own_answer : partner new b ≡ Some a
  own_answer = partner_there (set places b a) a b b (λ e. omega (arith, e, below)) ∙ partner_here places b a (omega (arith, inside, below)) (λ e. omega (arith, e, below))

  own_submission : partner new a ≡ Some b
  own_submission = partner_here (set places b a) a b (subst (λ l. a < l) (sym (length-set places b a)) inside) (λ e. omega (arith, e, below))

  others : (c : ℕ) → (c ≡ a → ⊥) → (c ≡ b → ⊥) → partner new c ≡ partner places c
  others c d e = partner_there (set places b a) a b c d ∙ partner_there places b a c e

  pub joined_answer : AreJoined new rs (a + 1)
  joined_answer = record {
    len = length-set (set places b a) a b ∙ length-set places b a ∙ x.len;
    partners = record {
      submission = λ c j l m other ans.
          let (low, there) = from_take rs (a + 1) c (records.Ans j l other m) ans in
          elim (cases_lt c a) [
            | inl small ↦
                let (d, q, w, sub, p) = x.partners.submission c j l m other (to_take rs a c (records.Ans j l other m) small there) in
                let (l1, whole) = from_take rs a d (records.Sub j l w q) sub in (
                  d,
                  q,
                  w,
                  to_take rs (a + 1) d (records.Sub j l w q) (omega (arith, l1)) whole,
                  others c (λ e. omega (arith, e, small)) (λ e. no_answer i k fit.since j l m fit.op other (sym asked_at ∙ ap (slice_get rs) (sym e) ∙ there)) ∙ p,
                )
            | inr large ↦
                let eq : a ≡ c = omega (arith, low, large) in
                let same = same_answer i k n j l m reply other (sym at ∙ ap (slice_get rs) eq ∙ there) in
                let sub : slice_get (take (a + 1) rs) b ≡ Some (records.Sub j l fit.op fit.since) =
                to_take rs (a + 1) b (records.Sub i k fit.op fit.since) (omega (arith, below)) asked_at
                ∙ ap (λ v. Some (records.Sub v k fit.op fit.since)) same.who ∙ ap (λ v. Some (records.Sub j v fit.op fit.since)) same.number in
                (b, fit.since, fit.op, sub, ap (partner new) (sym eq) ∙ own_submission)
          ];
      answer = λ c d j l m q w other sub ans.
          let (low, there) = from_take rs (a + 1) c (records.Ans j l other m) ans in
          let (front, whole) = from_take rs (a + 1) d (records.Sub j l w q) sub in
          let small : d < a = elim (cases_lt d a) [
            | inl s ↦ s
            | inr g ↦
                let eq : d ≡ a = omega (arith, front, g) in
                absurd (no_answer j l q i k n w reply (sym whole ∙ ap (slice_get rs) eq ∙ at))
          ] in
          let mine = to_take rs a d (records.Sub j l w q) small whole in
          elim (cases_lt c a) [
            | inl early ↦
                let ahead = to_take rs a c (records.Ans j l other m) early there in
                others d (λ e. omega (arith, e, small)) (λ e. twice c d j l m q w other e mine ahead) ∙ x.partners.answer c d j l m q w other mine ahead
            | inr late ↦
                let eq : a ≡ c = omega (arith, low, late) in
                let same = same_answer i k n j l m reply other (sym at ∙ ap (slice_get rs) eq ∙ there) in
                let asked : slice_get (take a rs) b ≡ Some (records.Sub j l fit.op fit.since) =
                fit.asked ∙ ap (λ v. Some (records.Sub v k fit.op fit.since)) same.who ∙ ap (λ v. Some (records.Sub j v fit.op fit.since)) same.number in
                let one = unique (take a rs) d b j l q fit.since w fit.op numbered mine asked in
                ap (partner new) one ∙ own_answer ∙ ap Some eq
          ];
    };
  }
    where
      twice : (c d j l m q : ℕ) (w : Op) (other : Reply) → d ≡ b → slice_get (take a rs) d ≡ Some (records.Sub j l w q) → slice_get (take a rs) c ≡ Some (records.Ans j l other m) → ⊥
      twice c d j l m q w other e mine ahead =
          let s = same_submission j l q i k fit.since w fit.op (sym mine ∙ ap (slice_get (take a rs)) e ∙ fit.asked) in
          let both : ((i == j) && (k == l)) ≡ true = ap (λ v. v && (k == l)) (eq-eqb i j (sym s.who)) ∙ eq-eqb k l (sym s.number) in
          clash (any_at (answers_to i k) (take a rs) c (records.Ans j l other m) ahead both) fit.unanswered
