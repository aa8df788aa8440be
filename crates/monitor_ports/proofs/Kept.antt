-- What a monitor and its records keep over any list of calls.
use Rattle.std.proofs.Common.{◌≡◌, ◌≢◌, ℕ, zero, suc, ◌+◌, ◌<◌, ◌≤◌, ◌==◌, ◌&&◌, ◌||◌, Bool, true, false, List, [], ◌∷◌, ◌++◌, length, take, get_or, Option, Some, None, refl, sym, ap, ◌∙◌, subst, arith, inl, inr, ◌⊎◌, ⊎_elim, append_assoc}
use Rattle.std.specs.Prelude.{slice_get, slice_set, replicate, Result, Ok, Err}
use Rattle.std.specs.List.{list_any}
use Rattle.std.proofs.lemmas.List.{append-nil, get_or-set_same, get_or-set_other, get_or_past, get_or-replicate, length-replicate, length-append, length-set}
use Rattle.std.proofs.lemmas.Bool.{cases_eq}
use Rattle.tlp_core.specs.Ops.{Op}
use Rattle.tlp_core.specs.Operation.{is_posted}
use Rattle.seq_memory.specs.Entries.{Reply}
use Rattle.history_words.specs.Records.{Record}
use Rattle.history_words.specs.declared.record.RecordOf.TheVariants as records
use Rattle.history_words.specs.Trace.{submissions, answers_to}
use Rattle.monitor_ports.specs.declared.watched.OpenRequest.{OpenRequest}
use Rattle.monitor_ports.specs.declared.watched.Watched.{Watched}
use Rattle.monitor_ports.specs.Watched.{fresh, open_at, closed}
use Rattle.monitor_ports.specs.Runs.{IsAsked, IsWellFormed}
use Rattle.monitor_ports.proofs.Forms.{at_set, none_more, made_ans, made_own, made_other, not_this, asked_longer, asked_now, formed_push, formed_none}

abbrev pub at : List Watched → ℕ → Watched
at ws i = get_or ws i fresh

-- what the requesters are, beside the records so far
pub record Holds (ws : List Watched) (rs : List Record) : Type 0 where
  pub eight : length ws ≡ 8
  -- the next number is how many requests there were
  pub counted : (i : ℕ) → (at ws i).next ≡ length (submissions rs i)
  -- an open request was submitted, and isn't answered
  pub asked : (i tag : ℕ) (o : OpenRequest) → open_at (at ws i) tag ≡ Some o → IsAsked rs i o.number
  pub given : (i tag : ℕ) (o : OpenRequest) → open_at (at ws i) tag ≡ Some o → o.number < (at ws i).next
  -- under one tag
  pub one_tag : (i tag other : ℕ) (o p : OpenRequest) → open_at (at ws i) tag ≡ Some o → open_at (at ws i) other ≡ Some p → o.number ≡ p.number → tag ≡ other
  -- what isn't submitted isn't answered
  pub unsent : (i k : ℕ) → (at ws i).next ≤ k → list_any (answers_to i k) rs ≡ false
  pub formed : IsWellFormed rs

here : (ws : List Watched) (i : ℕ) (w : Watched) → i < length ws → at (slice_set ws i w) i ≡ w
here ws i w lt = get_or-set_same ws i w fresh lt

elsewhere : (ws : List Watched) (i j : ℕ) (w : Watched) → j ≢ i → at (slice_set ws i w) j ≡ at ws j
elsewhere ws i j w ne = get_or-set_other ws i j w fresh ne

-- what holds of the one that was set, and of each other one
each : (P : ℕ → Watched → Type 0) (ws : List Watched) (i : ℕ) (w : Watched) → i < length ws → P i w → ((j : ℕ) → j ≢ i → P j (at ws j)) → (j : ℕ) → P j (at (slice_set ws i w) j)
each P ws i w lt own others j = elim (cases_eq j i) [
  | inl same ↦ subst (λ k. P k (at (slice_set ws i w) k)) (sym same) (subst (P i) (sym (here ws i w lt)) own)
  | inr other ↦ subst (P j) (sym (elsewhere ws i j w other)) (others j other)
]

-- ---- a request

-- the next number is spent; it opens that tag, if it isn't posted
pub record Opens (w w' : Watched) (t : ℕ) (op : Op) : Type 0 where
  pub more : w'.next ≡ w.next + 1
  pub found : (tag : ℕ) (o : OpenRequest) → open_at w' tag ≡ Some o → ((tag ≡ t) × (o.number ≡ w.next) × (is_posted op ≡ false)) ⊎ (open_at w tag ≡ Some o)

module _ (ws : List Watched) (rs : List Record) (h : Holds ws rs) (i t n : ℕ) (op : Op) (w : Watched) (lt : i < 8) (o : Opens (at ws i) w t op) where
  abbrev sent : Record
  sent = records.Sub i (at ws i).next op n

  in_list : i < length ws
  in_list = omega (arith, h.eight, lt)

  counted_after : (j : ℕ) → (at (slice_set ws i w) j).next ≡ length (submissions (rs ++ sent ∷ []) j)
  counted_after = each (λ j v. v.next ≡ length (submissions (rs ++ sent ∷ []) j)) ws i w in_list
      (o.more ∙ ap (λ k. k + 1) (h.counted i) ∙ sym (ap (length {A = Op}) (made_own i (at ws i).next n op rs) ∙ length-append (submissions rs i) (op ∷ [])))
      (λ j ne. h.counted j ∙ ap (length {A = Op}) (sym (made_other j i (at ws i).next n op rs (λ e. ne (sym e)))))

  asked_after : (j : ℕ) (tag : ℕ) (p : OpenRequest) → open_at (at (slice_set ws i w) j) tag ≡ Some p → IsAsked (rs ++ sent ∷ []) j p.number
  asked_after = each (λ j v. (tag : ℕ) (p : OpenRequest) → open_at v tag ≡ Some p → IsAsked (rs ++ sent ∷ []) j p.number) ws i w in_list
      (λ tag p e. elim (o.found tag p e) [
        | inl new ↦ subst (λ k. IsAsked (rs ++ sent ∷ []) i k) (sym new.1) (asked_now rs i (at ws i).next n op new.2 (h.unsent i (at ws i).next (omega arith)))
        | inr old ↦ asked_longer rs sent i p.number (h.asked i tag p old) refl
      ])
      (λ j ne tag p e. asked_longer rs sent j p.number (h.asked j tag p e) refl)

  given_after : (j : ℕ) (tag : ℕ) (p : OpenRequest) → open_at (at (slice_set ws i w) j) tag ≡ Some p → p.number < (at (slice_set ws i w) j).next
  given_after = each (λ j v. (tag : ℕ) (p : OpenRequest) → open_at v tag ≡ Some p → p.number < v.next) ws i w in_list
      (λ tag p e. elim (o.found tag p e) [
        | inl new ↦ omega (arith, new.1, o.more)
        | inr old ↦ omega (arith, h.given i tag p old, o.more)
      ])
      (λ j ne. h.given j)

  one_after : (j : ℕ) (tag other : ℕ) (p q : OpenRequest) → open_at (at (slice_set ws i w) j) tag ≡ Some p → open_at (at (slice_set ws i w) j) other ≡ Some q → p.number ≡ q.number → tag ≡ other
  one_after = each (λ j v. (tag other : ℕ) (p q : OpenRequest) → open_at v tag ≡ Some p → open_at v other ≡ Some q → p.number ≡ q.number → tag ≡ other) ws i w in_list
      (λ tag other p q e f same. elim (o.found tag p e) [
        | inl new ↦ elim (o.found other q f) [
          | inl too ↦ new.0 ∙ sym too.0
          | inr old ↦ absurd (omega (arith, new.1, h.given i other q old, same))
        ]
        | inr old ↦ elim (o.found other q f) [
          | inl new ↦ absurd (omega (arith, new.1, h.given i tag p old, same))
          | inr too ↦ h.one_tag i tag other p q old too same
        ]
      ])
      (λ j ne. h.one_tag j)

  unsent_after : (j : ℕ) (k : ℕ) → (at (slice_set ws i w) j).next ≤ k → list_any (answers_to j k) (rs ++ sent ∷ []) ≡ false
  unsent_after = each (λ j v. (k : ℕ) → v.next ≤ k → list_any (answers_to j k) (rs ++ sent ∷ []) ≡ false) ws i w in_list
      (λ k le. none_more (answers_to i k) rs sent (h.unsent i k (omega (arith, o.more, le))) refl)
      (λ j ne k le. none_more (answers_to j k) rs sent (h.unsent j k le) refl)

  number_is : (j k m : ℕ) (x : Op) → sent ≡ records.Sub j k x m → k ≡ length (submissions rs j)
  number_is j k m x e =
      let own : i ≡ j = cc in
      let number : (at ws i).next ≡ k = cc in
      sym number ∙ (h.counted i ∙ ap (λ j. length (submissions rs j)) own)

  pub sent_holds : Holds (slice_set ws i w) (rs ++ sent ∷ [])
  sent_holds = record {
    eight = length-set ws i w ∙ h.eight;
    counted = counted_after;
    asked = asked_after;
    given = given_after;
    one_tag = one_after;
    unsent = unsent_after;
    formed = formed_push rs sent h.formed number_is (λ j k m reply e. absurd cc);
  }

-- ---- a completion

module _ (ws : List Watched) (rs : List Record) (h : Holds ws rs) (i t n : ℕ) (o : OpenRequest) (reply : Reply) (lt : i < 8) (found : open_at (at ws i) t ≡ Some o) where
  abbrev said : Record
  said = records.Ans i o.number reply n

  abbrev w : Watched
  w = closed (at ws i) t

  in_list' : i < length ws
  in_list' = omega (arith, h.eight, lt)

  -- what is still open
  still : (tag : ℕ) (p : OpenRequest) → open_at w tag ≡ Some p → (tag ≢ t) × (open_at (at ws i) tag ≡ Some p)
  still tag p e = elim (at_set (at ws i).open_tags t tag None p e) [
    | inl same ↦ absurd (let no : ◌≡◌ {A = Option OpenRequest} None (Some p) = same.1 in cc)
    | inr other ↦ other
  ]

  other_number : (tag : ℕ) (p : OpenRequest) → (tag ≢ t) × (open_at (at ws i) tag ≡ Some p) → p.number ≡ o.number → ⊥
  other_number tag p s e = s.0 (h.one_tag i tag t p o s.1 found e)

  said_holds_of : (j : ℕ) → j ≢ i → (k : ℕ) → answers_to j k said ≡ false
  said_holds_of j ne k = not_this j k i o.number n reply (λ e f. ne e)

  counted_then : (j : ℕ) → (at (slice_set ws i w) j).next ≡ length (submissions (rs ++ said ∷ []) j)
  counted_then = each (λ j v. v.next ≡ length (submissions (rs ++ said ∷ []) j)) ws i w in_list'
      (h.counted i ∙ ap (length {A = Op}) (sym (made_ans i i o.number reply n rs)))
      (λ j ne. h.counted j ∙ ap (length {A = Op}) (sym (made_ans j i o.number reply n rs)))

  asked_then : (j : ℕ) (tag : ℕ) (p : OpenRequest) → open_at (at (slice_set ws i w) j) tag ≡ Some p → IsAsked (rs ++ said ∷ []) j p.number
  asked_then = each (λ j v. (tag : ℕ) (p : OpenRequest) → open_at v tag ≡ Some p → IsAsked (rs ++ said ∷ []) j p.number) ws i w in_list'
      (λ tag p e. let s = still tag p e in asked_longer rs said i p.number (h.asked i tag p s.1) (not_this i p.number i o.number n reply (λ a b. other_number tag p s b)))
      (λ j ne tag p e. asked_longer rs said j p.number (h.asked j tag p e) (said_holds_of j ne p.number))

  given_then : (j : ℕ) (tag : ℕ) (p : OpenRequest) → open_at (at (slice_set ws i w) j) tag ≡ Some p → p.number < (at (slice_set ws i w) j).next
  given_then = each (λ j v. (tag : ℕ) (p : OpenRequest) → open_at v tag ≡ Some p → p.number < v.next) ws i w in_list'
      (λ tag p e. h.given i tag p (still tag p e).1)
      (λ j ne. h.given j)

  one_then : (j : ℕ) (tag other : ℕ) (p q : OpenRequest) → open_at (at (slice_set ws i w) j) tag ≡ Some p → open_at (at (slice_set ws i w) j) other ≡ Some q → p.number ≡ q.number → tag ≡ other
  one_then = each (λ j v. (tag other : ℕ) (p q : OpenRequest) → open_at v tag ≡ Some p → open_at v other ≡ Some q → p.number ≡ q.number → tag ≡ other) ws i w in_list'
      (λ tag other p q e f same. h.one_tag i tag other p q (still tag p e).1 (still other q f).1 same)
      (λ j ne. h.one_tag j)

  unsent_then : (j : ℕ) (k : ℕ) → (at (slice_set ws i w) j).next ≤ k → list_any (answers_to j k) (rs ++ said ∷ []) ≡ false
  unsent_then = each (λ j v. (k : ℕ) → v.next ≤ k → list_any (answers_to j k) (rs ++ said ∷ []) ≡ false) ws i w in_list'
      (λ k le. none_more (answers_to i k) rs said (h.unsent i k le) (not_this i k i o.number n reply (λ a b. omega (arith, h.given i t o found, le, b))))
      (λ j ne k le. none_more (answers_to j k) rs said (h.unsent j k le) (said_holds_of j ne k))

  asks : (j k m : ℕ) (r : Reply) → said ≡ records.Ans j k r m → IsAsked rs j k
  asks j k m r e =
      let own : i ≡ j = cc in
      let number : o.number ≡ k = cc in
      subst (λ j. IsAsked rs j k) own (subst (λ k. IsAsked rs i k) number (h.asked i t o found))

  pub said_holds : Holds (slice_set ws i w) (rs ++ said ∷ [])
  said_holds = record {
    eight = length-set ws i w ∙ h.eight;
    counted = counted_then;
    asked = asked_then;
    given = given_then;
    one_tag = one_then;
    unsent = unsent_then;
    formed = formed_push rs said h.formed (λ j k m x e. absurd cc) asks;
  }

-- ---- a tag that is given up

module _ (ws : List Watched) (rs : List Record) (h : Holds ws rs) (i t : ℕ) (lt : i < 8) where
  abbrev freed : Watched
  freed = closed (at ws i) t

  in_list'' : i < length ws
  in_list'' = omega (arith, h.eight, lt)

  open_before : (tag : ℕ) (p : OpenRequest) → open_at freed tag ≡ Some p → open_at (at ws i) tag ≡ Some p
  open_before tag p e = elim (at_set (at ws i).open_tags t tag None p e) [
    | inl same ↦ absurd (let no : ◌≡◌ {A = Option OpenRequest} None (Some p) = same.1 in cc)
    | inr other ↦ other.1
  ]

  pub given_up_holds : Holds (slice_set ws i freed) rs
  given_up_holds = record {
    eight = length-set ws i freed ∙ h.eight;
    counted = each (λ j v. v.next ≡ length (submissions rs j)) ws i freed in_list'' (h.counted i) (λ j ne. h.counted j);
    asked = each (λ j v. (tag : ℕ) (p : OpenRequest) → open_at v tag ≡ Some p → IsAsked rs j p.number) ws i freed in_list''
        (λ tag p e. h.asked i tag p (open_before tag p e))
        (λ j ne. h.asked j);
    given = each (λ j v. (tag : ℕ) (p : OpenRequest) → open_at v tag ≡ Some p → p.number < v.next) ws i freed in_list''
        (λ tag p e. h.given i tag p (open_before tag p e))
        (λ j ne. h.given j);
    one_tag = each (λ j v. (tag other : ℕ) (p q : OpenRequest) → open_at v tag ≡ Some p → open_at v other ≡ Some q → p.number ≡ q.number → tag ≡ other) ws i freed in_list''
        (λ tag other p q e f same. h.one_tag i tag other p q (open_before tag p e) (open_before other q f) same)
        (λ j ne. h.one_tag j);
    unsent = each (λ j v. (k : ℕ) → v.next ≤ k → list_any (answers_to j k) rs ≡ false) ws i freed in_list'' (h.unsent i) (λ j ne. h.unsent j);
    formed = h.formed;
  }

-- ---- at first

no_tag : (tag : ℕ) (o : OpenRequest) → (tag < 256) ⊎ (256 ≤ tag) → open_at fresh tag ≡ Some o → ⊥
no_tag tag o (inl lt) e = let n = get_or-replicate {A = Option OpenRequest} 256 tag None None lt in cc
no_tag tag o (inr le) e = let n = get_or_past (replicate {A = Option OpenRequest} 256 None) tag None (rw (length-replicate {A = Option OpenRequest} 256 None) le) in cc

below_or_not : (a b : ℕ) → (a < b) ⊎ (b ≤ a)
below_or_not a b = grind arith

all_fresh : (i : ℕ) → (i < 8) ⊎ (8 ≤ i) → at (replicate 8 fresh) i ≡ fresh
all_fresh i (inl lt) = get_or-replicate 8 i fresh fresh lt
all_fresh i (inr le) = get_or_past (replicate 8 fresh) i fresh (rw (length-replicate {A = Watched} 8 fresh) le)

none_yet : (i tag : ℕ) (o : OpenRequest) → open_at (at (replicate 8 fresh) i) tag ≡ Some o → ⊥
none_yet i tag o e = no_tag tag o (below_or_not tag 256) (subst (λ w. open_at w tag ≡ Some o) (all_fresh i (below_or_not i 8)) e)

pub new_holds : Holds (replicate 8 fresh) []
new_holds = record {
  eight = length-replicate {A = Watched} 8 fresh;
  counted = λ i. ap (λ (w : Watched). w.next) (all_fresh i (below_or_not i 8));
  asked = λ i tag o e. absurd (none_yet i tag o e);
  given = λ i tag o e. absurd (none_yet i tag o e);
  one_tag = λ i tag other o p e f same. absurd (none_yet i tag o e);
  unsent = λ i k le. refl;
  formed = formed_none;
}
