-- An explainable log without one of its answers is explainable.
use Rattle.std.proofs.Common.{◌≡◌, ◌∙◌, ℕ, zero, suc, ◌<◌, Bool, true, false, List, [], ◌∷◌, Some, None, take, length, remove, Option, refl, sym, ap, subst, arith}
use Rattle.std.specs.Prelude.{slice_get, ◌||◌}
use Rattle.std.specs.List.{list_any, cons_option}
use Rattle.std.proofs.lemmas.Option.{same_Some}
use Rattle.tlp_core.specs.Ops.{Op}
use Rattle.seq_memory.specs.Entries.{Entry}
use Rattle.seq_memory.specs.Entries.{Reply}
use Rattle.history_words.specs.Records.{Record}
use Rattle.history_words.specs.declared.record.RecordOf.TheVariants as records
use Rattle.history_words.specs.TraceView.{TraceView}
use Rattle.history_words.specs.Claim.{claim_of}
use Rattle.history_words.specs.Trace.{submission, submissions, answers_to, Explains, IsNumbered, IsLegal, IsExplained}
use Rattle.history_words.specs.Clocks.{IsClocked}
use Rattle.log_runs.specs.Explainable.{IsExplainable, without}
use Rattle.log_runs.proofs.Lists.{from_take, to_take}
use Rattle.log_runs.proofs.Alike.{same_without, ans_alike}

-- where an element stood before the one at place a was taken out
abbrev shift : ℕ → ℕ → ℕ
shift zero p = suc p
shift (suc a) zero = zero
shift (suc a) (suc p) = suc (shift a p)

get_remove : {X : Type 0} → (xs : List X) (a p : ℕ) → slice_get (remove xs a) p ≡ slice_get xs (shift a p)
get_remove [] zero p = refl
get_remove [] (suc a) p = refl
get_remove (x ∷ xs) zero p = refl
get_remove (x ∷ xs) (suc a) zero = refl
get_remove (x ∷ xs) (suc a) (suc p) = get_remove xs a p

unshift : (a p : ℕ) → (p ≡ a → ⊥) → (q : ℕ) × (shift a q ≡ p)
unshift zero zero n = absurd (n refl)
unshift zero (suc p) n = (p, refl)
unshift (suc a) zero n = (zero, refl)
unshift (suc a) (suc p) n = let (q, e) = unshift a p (λ e. n (ap suc e)) in (suc q, ap suc e)

shift_less : (a p q : ℕ) → p < q → shift a p < shift a q
shift_less zero p q l = omega arith
shift_less (suc a) p zero l = absurd (omega arith)
shift_less (suc a) zero (suc q) l = omega arith
shift_less (suc a) (suc p) (suc q) l = let rest : shift a p < shift a q = shift_less a p q (omega arith) in omega arith

less_shift : (a p q : ℕ) → shift a p < shift a q → p < q
less_shift zero p q l = omega arith
less_shift (suc a) p zero l = absurd (omega arith)
less_shift (suc a) zero (suc q) l = omega arith
less_shift (suc a) (suc p) (suc q) l = let rest : p < q = less_shift a p q (omega arith) in omega arith

no_submission : (i j k n : ℕ) (reply : Reply) (r : Record) → Some r ≡ Some (records.Ans j k reply n) → submission i r ≡ None
no_submission i j k n reply r e = ap (submission i) (same_Some r (records.Ans j k reply n) e)

subs_take : (rs : List Record) (a p i j k n : ℕ) (reply : Reply) → slice_get rs a ≡ Some (records.Ans j k reply n) → submissions (take p (remove rs a)) i ≡ submissions (take (shift a p) rs) i
subs_take [] a p i j k n reply at = cc
subs_take (r ∷ rs) zero p i j k n reply at = sym (ap (λ (o : Option Op). cons_option o (submissions (take p rs) i)) (no_submission i j k n reply r at))
subs_take (r ∷ rs) (suc a) zero i j k n reply at = refl
subs_take (r ∷ rs) (suc a) (suc p) i j k n reply at = ap (λ (xs : List Op). cons_option (submission i r) xs) (subs_take rs a p i j k n reply at)

subs_all : (rs : List Record) (a i j k n : ℕ) (reply : Reply) → slice_get rs a ≡ Some (records.Ans j k reply n) → submissions (remove rs a) i ≡ submissions rs i
subs_all [] a i j k n reply at = cc
subs_all (r ∷ rs) zero i j k n reply at = sym (ap (λ (o : Option Op). cons_option o (submissions rs i)) (no_submission i j k n reply r at))
subs_all (r ∷ rs) (suc a) i j k n reply at = ap (λ (xs : List Op). cons_option (submission i r) xs) (subs_all rs a i j k n reply at)

both_false : (a b : Bool) → (a || b) ≡ false → (a ≡ false) × (b ≡ false)
both_false true b e = cc
both_false false b e = (refl, e)

nothing_in : {X : Type 0} → (t : X → Bool) (p : ℕ) → list_any t (take p []) ≡ false
nothing_in t zero = refl
nothing_in t (suc p) = refl

none_take : {X : Type 0} → (t : X → Bool) (rs : List X) (a p : ℕ) → list_any t (take (shift a p) rs) ≡ false → list_any t (take p (remove rs a)) ≡ false
none_take t [] zero p e = nothing_in t p
none_take t [] (suc a) p e = nothing_in t p
none_take t (r ∷ rs) zero p e = (both_false (t r) (list_any t (take p rs)) e).1
none_take t (r ∷ rs) (suc a) zero e = refl
none_take t (r ∷ rs) (suc a) (suc p) e =
    let (one, two) = both_false (t r) (list_any t (take (shift a p) rs)) e in
    ap (λ (b : Bool). b || list_any t (take p (remove rs a))) one ∙ none_take t rs a p two

module _ (u : TraceView) (h : List Entry) (x : Explains (claim_of u h)) (c : IsClocked (claim_of u h)) (a i0 k0 n0 : ℕ) (r0 : Reply) (gone : slice_get u.records a ≡ Some (records.Ans i0 k0 r0 n0)) where
  back : (b : ℕ) (r : Record) → slice_get (remove u.records a) b ≡ Some r → slice_get u.records (shift a b) ≡ Some r
  back b r at = sym (get_remove u.records a b) ∙ at

  numbered : IsNumbered (remove u.records a)
  numbered b i k n op at =
      x.numbered (shift a b) i k n op (back b (records.Sub i k op n) at) ∙ ap length (sym (subs_take u.records a b i i0 k0 n0 r0 gone))

  legal : IsLegal (submissions (remove u.records a)) h
  legal p e at =
      let f = x.legal p e at in
      let same = subs_all u.records a e.requester i0 k0 n0 r0 gone in
      record {
        submitted = ap (λ (xs : List Op). slice_get xs e.number) same ∙ f.submitted;
        once = f.once;
        ordered = λ j op l there posted. f.ordered j op l (ap (λ (xs : List Op). slice_get xs j) (sym same) ∙ there) posted;
      }

  explained : (b i k n : ℕ) (reply : Reply) → slice_get (remove u.records a) b ≡ Some (records.Ans i k reply n)
      → IsExplained (record { base = u.base; size = u.size; block = u.block; entries = h }) (take b (remove u.records a)) i k reply n
  explained b i k n reply at =
      let f = x.linear (shift a b) i k n reply (back b (records.Ans i k reply n) at) in
      let (sub, early) = from_take u.records (shift a b) f.place (records.Sub i k f.op f.since) f.asked in
      let other : f.place ≡ a → ⊥ = λ e. let clash : Some (records.Sub i k f.op f.since) ≡ Some (records.Ans i0 k0 r0 n0) = sym sub ∙ ap (slice_get u.records) e ∙ gone in cc in
      let (q, is) = unshift a f.place other in
      let less : q < b = less_shift a q b (subst (λ p. p < shift a b) (sym is) early) in
      record {
        place = q;
        op = f.op;
        since = f.since;
        point = f.point;
        asked = to_take (remove u.records a) b q (records.Sub i k f.op f.since) less (get_remove u.records a q ∙ ap (slice_get u.records) is ∙ sub);
        not_posted = f.not_posted;
        unanswered = none_take (answers_to i k) u.records a b f.unanswered;
        acted = f.acted;
        after_submission = f.after_submission;
        before_answer = f.before_answer;
        replied = f.replied;
        above = λ d j m r l ans.
            let (there, inside) = from_take (remove u.records a) b d (records.Ans i j r m) ans in
            f.above (shift a d) j m r (subst (λ p. shift a d < p) is (shift_less a d q l))
            (to_take u.records (shift a b) (shift a d) (records.Ans i j r m) (shift_less a d b inside) (back d (records.Ans i j r m) there));
      }

  explains : Explains (claim_of (without a u) h)
  explains = record { numbered = numbered; legal = legal; linear = explained }

  clocked : IsClocked (claim_of (without a u) h)
  clocked = record {
    rises = λ b d r s l one two. c.rises (shift a b) (shift a d) r s (shift_less a b d l) (back b r one) (back d s two);
    bounded = λ b r one. c.bounded (shift a b) r (back b r one);
    after_submission = λ p b n e op at sub. c.after_submission p (shift a b) n e op at (back b (records.Sub e.requester e.number op n) sub);
  }

pub fewer_answers : (t : TraceView) (a i k n : ℕ) (reply : Reply) → slice_get t.records a ≡ Some (records.Ans i k reply n) → IsExplainable t → IsExplainable (without a t)
fewer_answers t a i k n reply at (u, h, alike, x, c) =
    let (made, m, there, may) = ans_alike t.records u.records alike.records a i k n reply at in (
      without a u,
      h,
      record {
        base = alike.base;
        size = alike.size;
        block = alike.block;
        records = same_without a t.records u.records alike.records;
      },
      explains u h x c a i k m made there,
      clocked u h x c a i k m made there,
    )
