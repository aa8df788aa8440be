-- What stands in a history, and the bytes after it.
use Rattle.std.proofs.Common.{◌≡◌, ◌∙◌, ℕ, zero, suc, ◌<◌, Bool, true, false, List, [], ◌∷◌, ◌++◌, take, Some, refl, ap, inl, inr}
use Rattle.std.specs.Prelude.{slice_get, ◌==◌, ◌||◌}
use Rattle.std.proofs.lemmas.Bool.{cases_Bool, eq-eqb, eqb-true, and_parts}
use Rattle.std.specs.List.{list_any}
use Rattle.std.proofs.lemmas.List.Folds.{list_any-append}
use Rattle.std.proofs.lemmas.List.Sums.{fold-append}
use Rattle.std.proofs.Math.Bool.{or-false, or-true}
use Rattle.seq_memory.specs.Entries.{Entry}
use Rattle.seq_memory.specs.Limits.{Extent}
use Rattle.seq_memory.specs.Step.{after}
use Rattle.seq_memory.specs.History.{contents}
use Rattle.history_words.specs.Trace.{is_request, stands}
use Rattle.log_runs.proofs.Lists.{to_take}

own : (e : Entry) → is_request e.requester e.number e ≡ true
own e = rw (eq-eqb e.requester e.requester refl, eq-eqb e.number e.number refl) refl

pub stands_push : (h : List Entry) (e : Entry) (i k : ℕ) → stands (h ++ e ∷ []) i k ≡ (stands h i k || is_request i k e)
stands_push h e i k = list_any-append (is_request i k) h (e ∷ []) ∙ ap (λ v. stands h i k || v) (or-false (is_request i k e))

pub stands_same : (h : List Entry) (e : Entry) → stands (h ++ e ∷ []) e.requester e.number ≡ true
stands_same h e = stands_push h e e.requester e.number ∙ ap (λ v. stands h e.requester e.number || v) (own e) ∙ or-true (stands h e.requester e.number)

pub stands_other : (h : List Entry) (e : Entry) (i k : ℕ) → ((i ≡ e.requester) × (k ≡ e.number) → ⊥) → stands (h ++ e ∷ []) i k ≡ stands h i k
stands_other h e i k other = elim (cases_Bool (is_request i k e)) [
  | inl hit ↦
      let (one, two) = and_parts (i == e.requester) (k == e.number) hit in
      absurd (other (eqb-true i e.requester one, eqb-true k e.number two))
  | inr miss ↦ stands_push h e i k ∙ ap (λ v. stands h i k || v) miss ∙ or-false (stands h i k)
]

or_left : (a b : Bool) → a ≡ true → (a || b) ≡ true
or_left true b e = refl
or_left false b e = cc

or_right : (a b : Bool) → b ≡ true → (a || b) ≡ true
or_right true b e = refl
or_right false b e = e

pub one_stands : {X : Type 0} → (t : X → Bool) (xs : List X) (p : ℕ) (x : X) → slice_get xs p ≡ Some x → t x ≡ true → list_any t xs ≡ true
one_stands t [] p x at e = cc
one_stands t (y ∷ ys) zero x at e = or_left (t y) (list_any t ys) (let same : y ≡ x = cc in ap t same ∙ e)
one_stands t (y ∷ ys) (suc p) x at e = or_right (t y) (list_any t ys) (one_stands t ys p x at e)

-- an entry stands in each prefix beyond it
pub stands_at : (h : List Entry) (p q : ℕ) (e : Entry) → slice_get h p ≡ Some e → p < q → stands (take q h) e.requester e.number ≡ true
stands_at h p q e at l = one_stands (is_request e.requester e.number) (take q h) p e (to_take h q p e l at) (own e)

pub contents_push : (x : Extent) (h : List Entry) (e : Entry) → contents x (h ++ e ∷ []) ≡ after x.base x.block (contents x h) e.op
unfolding contents
contents_push x h e = fold-append (λ m (e : Entry). after x.base x.block m e.op) _ h (e ∷ [])
