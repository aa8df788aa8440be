-- A submission keeps the fabric sound.
use Rattle.std.proofs.Common.{◌≡◌, ℕ, ◌+◌, ◌<◌, ◌==◌, Bool, true, false, [], ◌∷◌, ◌++◌, map, refl, sym, ap, ◌∙◌, subst, arith, append_assoc, inl, inr, ◌⊎◌, ⊎_elim, Option, Some, None}
use Rattle.std.specs.Prelude.{nat_lt}
use Rattle.std.proofs.lemmas.List.{map-append}
use mathlib.Core.Logic.{dite}
use native.Mathlib.Decide.{ℕ_discrete}
use Rattle.fabric_steps.specs.Lists.{Each, Pairs, one_if}
use Rattle.fabric_steps.specs.Whole.{Entry, MarkedPacket, Op, is_posted, View, RequesterView, open_number, size_at, path, entry_of, marked_request}
use Rattle.history_words.specs.Trace.{is_request}
use Rattle.fabric_steps.specs.Sound.{times, answers, served, InOrder, IsRequestOf, IsTagged, IsAskedBy, IsSized, IsReply, IsReplyFor, SoundAt}
use Rattle.fabric_steps.specs.Steps.{IsOpened}
use Rattle.fabric_steps.proofs.Lists.{each_append, each_weaken, pairs_push, count_append, count_one}
use Rattle.fabric_steps.proofs.Numbers.{below_next, same, path_times, numbers_below, not_counted}

-- of an open tag: it was, or it is the new one
pub data Opening (q : RequesterView) (tag : ℕ) (op : Op) (q' : RequesterView) (t : ℕ) : Type 0 where
  old : open_number q' t ≡ open_number q t → Opening q tag op q' t
  new : t ≡ tag → is_posted op ≡ false → Opening q tag op q' t

test_of : (b : Bool) → (b ≡ true) ⊎ (b ≡ false)
test_of true = inl refl
test_of false = inr refl

pub opening : (q : RequesterView) (tag : ℕ) (op : Op) (q' : RequesterView) → IsOpened q tag op q' → (t : ℕ) → Opening q tag op q' t
opening q tag op q' o t = ⊎_elim
    (λ (p : is_posted op ≡ true). old (o.posted p t))
    (λ (n : is_posted op ≡ false). dite (ℕ_discrete t tag) (λ e. new e n) (λ ne. old (o.others t ne)))
    (test_of (is_posted op))

module _ (i tag : ℕ) (op : Op) (v : View) (q' : RequesterView) (s : SoundAt i v) (o : IsOpened v.requester tag op q') where
  abbrev x : MarkedPacket
  x = marked_request i tag v.requester.next op

  abbrev after : View
  after = record v { up = v.up ++ x ∷ []; requester = q' }

  pub longer : path after ≡ path v ++ entry_of x ∷ []
  longer = simp (map-append, append_assoc)

  pub still_open : (t k : ℕ) → open_number v.requester t ≡ Some k → open_number q' t ≡ Some k
  still_open t k e = elim (opening v.requester tag op q' o t) [
    | old h ↦ h ∙ e
    | new at n ↦ absurd (let was : open_number v.requester t ≡ None = ap (open_number v.requester) at ∙ o.free n in cc)
  ]

  pub new_number : (t k : ℕ) → t ≡ tag → is_posted op ≡ false → open_number q' t ≡ Some k → k ≡ v.requester.next
  new_number t k at n e = let is : open_number q' t ≡ Some v.requester.next = ap (open_number q') at ∙ o.opened n in cc

  whole : (k : ℕ) → times i k (path after) ≡ one_if (nat_lt k q'.next)
  whole k =
      let n : ℕ = v.requester.next in
      let grown : times i k (path after) ≡ times i k (path v) + one_if (is_request i k (entry_of x)) =
      ap (times i k) longer ∙ (count_append (is_request i k) (path v) (entry_of x ∷ []) ∙ ap (λ (m : ℕ). times i k (path v) + m) (count_one (is_request i k) (entry_of x))) in
      let one : one_if (is_request i k (entry_of x)) ≡ one_if (k == n) = rw (same i) refl in
      grown ∙ (ap (λ (m : ℕ). m + one_if (is_request i k (entry_of x))) (s.whole k) ∙ (ap (λ (m : ℕ). one_if (nat_lt k n) + m) one ∙ (sym (below_next n k) ∙ ap (λ (m : ℕ). one_if (nat_lt k m)) (sym o.next))))

  ordered : Pairs (InOrder i) (path after)
  ordered = subst (Pairs (InOrder i)) (sym longer) (pairs_push (InOrder i) (path v) (entry_of x) s.ordered
      (each_weaken (λ (e : Entry). e.requester ≡ i → e.number < v.requester.next) (λ (e : Entry). InOrder i e (entry_of x)) (path v) (λ e below own _ _. below own) (numbers_below i v s)))

  tagged : Each (IsTagged i q') (v.inward ++ (v.up ++ x ∷ []))
  tagged = subst (Each (IsTagged i q')) (append_assoc v.inward v.up (x ∷ [])) (each_append (IsTagged i q') (v.inward ++ v.up) (x ∷ [])
      (each_weaken (IsTagged i v.requester) (IsTagged i q') (v.inward ++ v.up) (λ y h own n. still_open y.tag y.mark (h own n)) s.tagged)
      ((λ own n. o.opened n), tt))

  open_below : (t k : ℕ) → open_number q' t ≡ Some k → k < q'.next
  open_below t k e = elim (opening v.requester tag op q' o t) [
    | old h ↦ let b : k < v.requester.next = s.open_below t k (sym h ∙ e) in let n : q'.next ≡ v.requester.next + 1 = o.next in omega arith
    | new at n ↦ let b : k ≡ v.requester.next = new_number t k at n e in let m : q'.next ≡ v.requester.next + 1 = o.next in omega arith
  ]

  open_asked : (t k : ℕ) → open_number q' t ≡ Some k → Each (IsAskedBy i k) (path after)
  open_asked t k e = subst (Each (IsAskedBy i k)) (sym longer) (elim (opening v.requester tag op q' o t) [
    | old h ↦ each_append (IsAskedBy i k) (path v) (entry_of x ∷ []) (s.open_asked t k (sym h ∙ e))
        ((λ own is. absurd (let b : k < v.requester.next = s.open_below t k (sym h ∙ e) in let f : v.requester.next ≡ k = is in omega arith)), tt)
    | new at n ↦ let b : k ≡ v.requester.next = new_number t k at n e in
        each_append (IsAskedBy i k) (path v) (entry_of x ∷ [])
        (each_weaken (λ (a : Entry). a.requester ≡ i → a.number < v.requester.next) (IsAskedBy i k) (path v) (λ a below own is. absurd (let l : a.number < v.requester.next = below own in omega arith)) (numbers_below i v s))
        ((λ own is. n), tt)
  ])

  open_sized : (t k : ℕ) → open_number q' t ≡ Some k → Each (IsSized i k (size_at q' t)) (path after)
  open_sized t k e = subst (Each (IsSized i k (size_at q' t))) (sym longer) (elim (opening v.requester tag op q' o t) [
    | old h ↦ each_append (IsSized i k (size_at q' t)) (path v) (entry_of x ∷ [])
        (subst (λ (n : ℕ). Each (IsSized i k n) (path v)) (sym (o.kept t k (sym h ∙ e))) (s.open_sized t k (sym h ∙ e)))
        ((λ own is. absurd (let b : k < v.requester.next = s.open_below t k (sym h ∙ e) in let f : v.requester.next ≡ k = is in omega arith)), tt)
    | new at n ↦ let b : k ≡ v.requester.next = new_number t k at n e in
        each_append (IsSized i k (size_at q' t)) (path v) (entry_of x ∷ [])
        (each_weaken (λ (a : Entry). a.requester ≡ i → a.number < v.requester.next) (IsSized i k (size_at q' t)) (path v) (λ a below own is. absurd (let l : a.number < v.requester.next = below own in omega arith)) (numbers_below i v s))
        ((λ own is. sym (ap (size_at q') at ∙ o.sized n)), tt)
  ])

  open_once : (t u k : ℕ) → open_number q' t ≡ Some k → open_number q' u ≡ Some k → t ≡ u
  open_once t u k e f = elim (opening v.requester tag op q' o t) [
    | old h ↦ elim (opening v.requester tag op q' o u) [
      | old g ↦ s.open_once t u k (sym h ∙ e) (sym g ∙ f)
      | new at n ↦ absurd (let b : k < v.requester.next = s.open_below t k (sym h ∙ e) in let c : k ≡ v.requester.next = new_number u k at n f in omega arith)
    ]
    | new at n ↦ elim (opening v.requester tag op q' o u) [
      | old g ↦ absurd (let b : k < v.requester.next = s.open_below u k (sym g ∙ f) in let c : k ≡ v.requester.next = new_number t k at n e in omega arith)
      | new as' m ↦ at ∙ sym as'
    ]
  ]

  under_way : (t : ℕ) → answers i t v.outward + answers i t v.down ≡ served i (open_number q' t) v.history
  under_way t = elim (opening v.requester tag op q' o t) [
    | old h ↦ s.under_way t ∙ ap (λ (a : Option ℕ). served i a v.history) (sym h)
    | new at n ↦
        let was : served i (open_number v.requester t) v.history ≡ 0 = ap (λ (a : Option ℕ). served i a v.history) (ap (open_number v.requester) at ∙ o.free n) in
        let is : served i (open_number q' t) v.history ≡ times i v.requester.next v.history = ap (λ (a : Option ℕ). served i a v.history) (ap (open_number q') at ∙ o.opened n) in
        let none : times i v.requester.next (path v) ≡ 0 = s.whole v.requester.next ∙ not_counted v.requester.next v.requester.next (omega arith) in
        let parts : times i v.requester.next (path v) ≡ times i v.requester.next v.history + (times i v.requester.next (map entry_of v.inward) + times i v.requester.next (map entry_of v.up)) = path_times i v.requester.next v in
        let here : times i v.requester.next v.history ≡ 0 = omega arith in
        s.under_way t ∙ (was ∙ (sym here ∙ sym is))
  ]

  replies : Each (IsReplyFor v.extent i q' v.history) (v.outward ++ v.down)
  replies = each_weaken (IsReplyFor v.extent i v.requester v.history) (IsReplyFor v.extent i q' v.history) (v.outward ++ v.down)
      (λ c h own. let r : IsReply v.extent i v.requester v.history c = h own in record { number = r.number; point = r.point; op = r.op; open_tag = still_open c.tag r.number r.open_tag; acted = r.acted; sized = r.sized; replied = r.replied })
      s.replies

  pub submit_keeps : SoundAt i after
  submit_keeps = record {
    whole = whole;
    ordered = ordered;
    requests = s.requests;
    own_requests = each_append (IsRequestOf i) v.up (x ∷ []) s.own_requests ((refl, refl), tt);
    completions = s.completions;
    own_completions = s.own_completions;
    tagged = tagged;
    open_below = open_below;
    open_asked = open_asked;
    open_sized = open_sized;
    open_once = open_once;
    under_way = under_way;
    replies = replies;
  }
