-- A request that is ready may act.
use Rattle.std.proofs.Common.{◌≡◌, ◌∙◌, ℕ, ◌<◌, Bool, true, false, List, [], ◌∷◌, Some, None, Option, refl, sym, ap, subst, inl, inr, arith}
use Rattle.std.specs.Prelude.{◌==◌, ◌&&◌, not, nat_lt, slice_get, bytes_eq}
use Rattle.std.specs.List.{list_any}
use Rattle.std.proofs.lemmas.Bool.{cases_Bool, ltb-true, lt-ltb, eqb-true, eq-eqb, and_parts, and_from, or_cases, or_left, or_right, not-true, not_from_false}
use Rattle.std.proofs.lemmas.Option.{same_Some, slice_get_within}
use Rattle.tlp_core.specs.Ops.{Op}
use Rattle.tlp_core.specs.Operation.{is_posted}
use Rattle.seq_memory.specs.Entries.{Reply}
use Rattle.seq_memory.specs.declared.reply.ReplyOf.TheVariants as replies
use Rattle.seq_memory.specs.Limits.{Extent}
use Rattle.search_effects.specs.Effects.{Agrees, AreSameAt}
use Rattle.history_words.specs.Flaws.{same_reply}
use Rattle.log_runs.specs.EventView.{EventView}
use Rattle.log_runs.specs.EventView as events
use Rattle.log_runs.specs.LogView.{LogView}
use Rattle.log_runs.specs.Runs.{State, has_acted, MayAct, reply_of}
use Rattle.search_places.specs.Pending.{has, submits, is_done, IsTable, is_post, ArePosts, is_post_of, blocks}
use Rattle.search_places.specs.PlaceView.{PlaceView}
use Rattle.search_places.specs.Places.{IsPlace}
use Rattle.search_places.specs.Ready.{is_told, is_set, is_ready}
use Rattle.search_places.proofs.Lists.{clash}
use Rattle.search_places.proofs.Tables.{done_is, done_from}

-- ---- replies

bytes_same : (xs ys : List ℕ) → bytes_eq xs ys ≡ true → xs ≡ ys
bytes_same [] [] e = refl
bytes_same [] (y ∷ ys) e = cc
bytes_same (x ∷ xs) [] e = cc
bytes_same (x ∷ xs) (y ∷ ys) e =
    let (e1, e2) = and_parts (x == y) (bytes_eq xs ys) e in
    let head = eqb-true x y e1 in
    let tail = bytes_same xs ys e2 in
    cc

bytes_refl : (xs : List ℕ) → bytes_eq xs xs ≡ true
bytes_refl [] = refl
bytes_refl (x ∷ xs) = and_from (x == x) (bytes_eq xs xs) (eq-eqb x x refl) (bytes_refl xs)

reply_refl : (r : Reply) → same_reply r r ≡ true
reply_refl replies.Done = refl
reply_refl (replies.Data xs) = bytes_refl xs.items
reply_refl replies.Unsupported = refl
reply_refl replies.Aborted = refl

reply_same : (x y : Reply) → same_reply x y ≡ true → x ≡ y
reply_same replies.Done replies.Done h = refl
reply_same (replies.Data xs) (replies.Data ys) h = ap (λ (items : List ℕ). replies.Data (record { items = items })) (bytes_same xs.items ys.items h)
reply_same replies.Unsupported replies.Unsupported h = refl
reply_same replies.Aborted replies.Aborted h = refl
reply_same _ _ h = cc

differs : (r made : Reply) → (made ≡ r → ⊥) → false ≡ same_reply r made
differs r made h = elim (cases_Bool (same_reply r made)) as (λ z. false ≡ same_reply r made) [
  | inl same ↦ absurd (h (sym (reply_same r made same)))
  | inr other ↦ sym other
]

pub missed : (x : Extent) (base : ℕ) (m : List ℕ) (op : Op) (r : Reply) → base ≡ x.base → ((block : ℕ) (n : List ℕ) → AreSameAt base op m n → Agrees base block n op (Some r) → ⊥) → false ≡ same_reply r (reply_of x m op)
unfolding reply_of
missed x base m op r eb waits = differs r (reply_of x m op) (λ e.
    subst (λ b. (block : ℕ) (n : List ℕ) → AreSameAt b op m n → Agrees b block n op (Some r) → ⊥) eb waits x.block m (λ k front back. refl) (λ s told. e ∙ same_Some r s told))

told_is : (told : Option Reply) (made r : Reply) → is_told told made ≡ true → told ≡ Some r → made ≡ r
told_is told made r h e = sym (reply_same r made (subst (λ o. is_told o made ≡ true) e h))

pub told_from : (told : Option Reply) (made : Reply) → ((r : Reply) → told ≡ Some r → made ≡ r) → is_told told made ≡ true
told_from None made h = refl
told_from (Some r) made h = subst (λ m. same_reply r m ≡ true) (sym (h r refl)) (reply_refl r)

-- ---- the lists of pending requests

any_has : (test : ℕ → Bool) (xs : List ℕ) (c : ℕ) → has xs c ≡ true → test c ≡ true → list_any test xs ≡ true
any_has test [] c h t = cc
any_has test (x ∷ xs) c h t = elim (or_cases (x == c) (has xs c) h) [
  | inl here ↦ or_left (test x) (list_any test xs) (subst (λ y. test y ≡ true) (sym (eqb-true x c here)) t)
  | inr there ↦ or_right (test x) (list_any test xs) (any_has test xs c there t)
]

has_any : (test : ℕ → Bool) (xs : List ℕ) → list_any test xs ≡ true → (c : ℕ) × (has xs c ≡ true) × (test c ≡ true)
has_any test [] h = cc
has_any test (x ∷ xs) h = elim (or_cases (test x) (list_any test xs) h) [
  | inl here ↦ (x, or_left (x == x) (has xs x) (eq-eqb x x refl), here)
  | inr there ↦ let (c, member, t) = has_any test xs there in (c, or_right (x == c) (has xs c) member, t)
]

write_is : (i : ℕ) (o : Option EventView) → is_post_of i o ≡ true → (w : Op) × (r : Option Reply) × (o ≡ Some (events.Sub i w r)) × (is_posted w ≡ true)
write_is i (Some (events.Sub j op told)) h =
    let (same, posted) = and_parts (i == j) (is_posted op) h in
    (op, told, ap (λ (k : ℕ). Some (events.Sub k op told)) (sym (eqb-true i j same)), posted)
write_is i (Some (events.Due b)) h = cc
write_is i (Some events.Free) h = cc
write_is i None h = cc

write_from : (i : ℕ) (o : Option EventView) (w : Op) (r : Option Reply) → o ≡ Some (events.Sub i w r) → is_posted w ≡ true → is_post_of i o ≡ true
write_from i o w r e p = subst (λ x. is_post_of i x ≡ true) (sym e) (and_from (i == i) (is_posted w) (eq-eqb i i refl) p)

unset : (xs : List Bool) (b : ℕ) (y : Bool) → slice_get xs b ≡ Some y → is_set (slice_get xs b) ≡ false → slice_get xs b ≡ Some false
unset xs b y at e = at ∙ ap (λ (z : Bool). Some z) (sym (ap is_set at) ∙ e)

module _ (log : LogView) (s : State) (p ps : List ℕ) (t : IsTable log s.event p s.acted) (a : ArePosts log p ps) where
  -- a posted write that was passed and isn't pending has acted
  acted_before : (b i c : ℕ) (w : Op) (r : Option Reply) → b < s.event → list_any (blocks log i b) ps ≡ false → c < b → slice_get log.events c ≡ Some (events.Sub i w r) → is_posted w ≡ true → has_acted s c
  acted_before b i c w r late free l at posted =
      let inside = slice_get_within log.events c (events.Sub i w r) at in
      let blocked : blocks log i b c ≡ true = and_from (nat_lt c b) (is_post_of i (slice_get log.events c)) (lt-ltb c b l) (write_from i (slice_get log.events c) w r at posted) in
      let gone : has p c ≡ false = elim (cases_Bool (has p c)) as (λ z. has p c ≡ false) [
        | inl there ↦
            let post : is_post (slice_get log.events c) ≡ true = ap is_post at ∙ posted in
            let member : has ps c ≡ true = a c ∙ and_from (has p c) (is_post (slice_get log.events c)) there post in
            absurd (clash (any_has (blocks log i b) ps c member blocked) free)
        | inr away ↦ away
      ] in
      t.at c inside ∙ ap (λ (z : Bool). Some z) (done_from log s.event p c (omega (arith, l, late)) (ap submits at) gone)

  free_from : (b i : ℕ) → ((c : ℕ) (w : Op) (r : Option Reply) → c < b → slice_get log.events c ≡ Some (events.Sub i w r) → is_posted w ≡ true → has_acted s c) → list_any (blocks log i b) ps ≡ false
  free_from b i ordered = elim (cases_Bool (list_any (blocks log i b) ps)) as (λ z. list_any (blocks log i b) ps ≡ false) [
    | inl blocked ↦
        let (c, member, test) = has_any (blocks log i b) ps blocked in
        let (waits, post) = and_parts (has p c) (is_post (slice_get log.events c)) (sym (a c) ∙ member) in
        let (l, is) = and_parts (nat_lt c b) (is_post_of i (slice_get log.events c)) test in
        let (w, r, at, posted) = write_is i (slice_get log.events c) is in
        let acted = ordered c w r (ltb-true c b l) at posted in
        let inside = slice_get_within log.events c (events.Sub i w r) at in
        let done : is_done log s.event p c ≡ true = same_Some (is_done log s.event p c) true (sym (t.at c inside) ∙ acted) in
        absurd (clash waits (done_is log s.event p c done).2)
    | inr free ↦ free
  ]

  ready_is : (b : ℕ) (o : Option EventView) → slice_get log.events b ≡ o → is_ready log s ps b o ≡ true → MayAct log s b
  ready_is b (Some (events.Sub i op told)) at h =
      let (h2, free) = and_parts (nat_lt b s.event && not (is_set (slice_get s.acted b)) && is_told told (reply_of log.extent s.bytes op)) (not (list_any (blocks log i b) ps)) h in
      let (h3, agreed) = and_parts (nat_lt b s.event && not (is_set (slice_get s.acted b))) (is_told told (reply_of log.extent s.bytes op)) h2 in
      let (early, fresh) = and_parts (nat_lt b s.event) (not (is_set (slice_get s.acted b))) h3 in
      let late = ltb-true b s.event early in
      let inside = slice_get_within log.events b (events.Sub i op told) at in
      record {
        requester = i;
        op = op;
        told = told;
        submitted = at;
        since = late;
        once = unset s.acted b (is_done log s.event p b) (t.at b inside) (not-true (is_set (slice_get s.acted b)) fresh);
        ordered = λ c w r l posts posted. acted_before b i c w r late (not-true (list_any (blocks log i b) ps) free) l posts posted;
        replied = λ r told_it. told_is told (reply_of log.extent s.bytes op) r agreed told_it;
      }
  ready_is b (Some (events.Due c)) at h = cc
  ready_is b (Some events.Free) at h = cc
  ready_is b None at h = cc

  ready_from : (b : ℕ) → (m : MayAct log s b) → is_ready log s ps b (Some (events.Sub m.requester m.op m.told)) ≡ true
  ready_from b m =
      and_from (nat_lt b s.event && not (is_set (slice_get s.acted b)) && is_told m.told (reply_of log.extent s.bytes m.op)) (not (list_any (blocks log m.requester b) ps))
      (and_from (nat_lt b s.event && not (is_set (slice_get s.acted b))) (is_told m.told (reply_of log.extent s.bytes m.op))
      (and_from (nat_lt b s.event) (not (is_set (slice_get s.acted b))) (lt-ltb b s.event m.since) (not_from_false (is_set (slice_get s.acted b)) (ap is_set m.once)))
      (told_from m.told (reply_of log.extent s.bytes m.op) m.replied))
      (not_from_false (list_any (blocks log m.requester b) ps) (free_from b m.requester m.ordered))

  ready_iff : (b : ℕ) (r : Bool) → r ≡ is_ready log s ps b (slice_get log.events b) → (r ≡ true → MayAct log s b) × (MayAct log s b → r ≡ true)
  ready_iff b r h = (
    λ ready. ready_is b (slice_get log.events b) refl (sym h ∙ ready),
    λ m. h ∙ ap (is_ready log s ps b) m.submitted ∙ ready_from b m,
  )

pub may_act_is : (log : LogView) (p : PlaceView) → IsPlace log p → (b : ℕ) (r : Bool) → r ≡ is_ready log p.state p.posts b (slice_get log.events b)
    → (r ≡ true → MayAct log p.state b) × (MayAct log p.state b → r ≡ true)
may_act_is log p place = ready_iff log p.state p.pending p.posts place.table place.posts
