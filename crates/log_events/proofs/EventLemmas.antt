-- Events, one after another, and all of them.
use Rattle.std.proofs.Common.{◌≡◌, ◌∙◌, ℕ, zero, suc, ◌+◌, ◌<◌, ◌++◌, ◌∷◌, [], List, Some, length, refl, sym, ap, subst, inl, inr, arith, length-append}
use Rattle.std.specs.Prelude.{slice_get}
use Rattle.std.proofs.lemmas.Bool.{cases_lt}
use Rattle.std.proofs.lemmas.Option.{slice_get_within, same_Some}
use Rattle.history_words.specs.Records.{Record}
use Rattle.history_words.specs.declared.record.RecordOf.TheVariants as records
use Rattle.log_runs.specs.EventView.{EventView}
use Rattle.log_runs.specs.Tasks.{Says, AreEvents, AreAllEvents}
use Rattle.log_events.specs.Joined.{partner, ArePartners, SaysAll}

-- the event says what its record says, no more, and no less if the table is right
pub record IsEvent (places : List ℕ) (rs : List Record) (a : ℕ) (r : Record) (e : EventView) : Type 0 where
  pub says : Says rs r e
  pub all : SaysAll rs (partner places a) r e

pub record EventsTo (places : List ℕ) (rs : List Record) (es : List EventView) (n : ℕ) : Type 0 where
  pub len : length es ≡ n
  pub at : (a : ℕ) (r : Record) (e : EventView) → slice_get rs a ≡ Some r → slice_get es a ≡ Some e → IsEvent places rs a r e

get_front : {X : Type 0} → (xs : List X) (y : X) (p : ℕ) → p < length xs → slice_get (xs ++ y ∷ []) p ≡ slice_get xs p
get_front [] y p l = absurd (omega arith)
get_front (x ∷ xs) y zero l = refl
get_front (x ∷ xs) y (suc p) l = get_front xs y p (omega arith)

get_end : {X : Type 0} → (xs : List X) (y : X) → slice_get (xs ++ y ∷ []) (length xs) ≡ Some y
get_end [] y = refl
get_end (x ∷ xs) y = get_end xs y

pub events_more : (places : List ℕ) (rs : List Record) (es fs : List EventView) (e : EventView) (n : ℕ) → fs ≡ es ++ e ∷ [] → EventsTo places rs es n → ((r : Record) → slice_get rs n ≡ Some r → Says rs r e) → ((r : Record) → slice_get rs n ≡ Some r → SaysAll rs (partner places n) r e)
    → EventsTo places rs fs (n + 1)
events_more places rs es fs e n is before says all = record {
  len = ap length is ∙ length-append es (e ∷ []) ∙ ap (λ k. k + 1) before.len;
  at = λ a r x at there. elim (cases_lt a n) [
    | inl low ↦ before.at a r x at (sym (get_front es e a (omega (arith, before.len))) ∙ ap (λ (ys : List EventView). slice_get ys a) (sym is) ∙ there)
    | inr high ↦
        let inside : a < length fs = slice_get_within fs a x there in
        let count : length fs ≡ n + 1 = ap length is ∙ length-append es (e ∷ []) ∙ ap (λ k. k + 1) before.len in
        let same : n ≡ a = omega arith in
        let eq : e ≡ x = same_Some e x (sym (get_end es e) ∙ ap (slice_get (es ++ e ∷ [])) (before.len ∙ same) ∙ ap (λ (ys : List EventView). slice_get ys a) (sym is) ∙ there) in
        let here : slice_get rs n ≡ Some r = ap (slice_get rs) same ∙ at in
        subst (λ b. IsEvent places rs b r x) same (subst (IsEvent places rs n r) eq (record { says = says r here; all = all r here }))
  ];
}

pub are_events : (places : List ℕ) (rs : List Record) (es : List EventView) → EventsTo places rs es (length rs) → AreEvents rs es
are_events places rs es x = record { len = x.len; at = λ a r e at there. (x.at a r e at there).says }

some_at : {X : Type 0} → (xs : List X) (i : ℕ) → i < length xs → (x : X) × (slice_get xs i ≡ Some x)
some_at [] i l = absurd (omega arith)
some_at (x ∷ xs) zero l = (x, refl)
some_at (x ∷ xs) (suc i) l = some_at xs i (omega arith)

pub are_all_events : (places : List ℕ) (rs : List Record) (es : List EventView) → EventsTo places rs es (length rs) → ArePartners places rs → AreAllEvents rs es
are_all_events places rs es x p = record {
  right = are_events places rs es x;
  replied = λ a b i k n m op reply sub ans.
      let (e, there) = inside b (records.Sub i k op n) sub in
      there ∙ ap Some ((x.at b (records.Sub i k op n) e sub there).all.replied a i k n m op reply refl (p.answer a b i k m n op reply sub ans) ans);
  due = λ a i k n reply ans.
      let (b, m, op, sub, other) = p.submission a i k n reply ans in
      let (e, there) = inside a (records.Ans i k reply n) ans in
      (b, there ∙ ap Some ((x.at a (records.Ans i k reply n) e ans there).all.due b i k n m op reply refl other sub));
}
  where
    inside : (b : ℕ) (r : Record) → slice_get rs b ≡ Some r → (e : EventView) × (slice_get es b ≡ Some e)
    inside b r at = some_at es b (subst (λ l. b < l) (sym x.len) (slice_get_within rs b r at))

pub events_end : (places : List ℕ) (rs : List Record) (es : List EventView) (n : ℕ) → n ≡ length rs → EventsTo places rs es n → EventsTo places rs es (length rs)
events_end places rs es n e x = subst (EventsTo places rs es) e x
