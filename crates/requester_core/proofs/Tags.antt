-- The lowest free tag, and what each requester keeps.
use Rattle.std.proofs.Common.{◌≡◌, ℕ, ◌+◌, ◌<◌, ◌≤◌, Bool, true, false, List, length, get_or, Option, Some, None, refl, sym, ap, subst, ◌∙◌, inl, inr, arith}
use Rattle.std.specs.Prelude.{◌==◌, not, ◌&&◌, if◌then◌else◌, Result, Ok, is_none, is_some, slice_set, replicate, min, ◌⊎◌}
use Rattle.std.proofs.lemmas.Bool.Decides.{nat_tests}
use Rattle.std.proofs.lemmas.Bool.{cases_eq}
use Rattle.std.proofs.lemmas.List.{get_or-set_same, get_or-set_other, length-set, get_or-replicate, length-replicate, get_or_past}
use Rattle.std.proofs.lemmas.List.Sums.{position_or_len_is, fails_before_first, passes_at_first, prefix_len-le-length}
use Rattle.requester_core.specs.declared.requester.OpenRequest.{OpenRequest}
use Rattle.tlp_core.specs.Ops.{Op}
use Rattle.tlp_core.specs.declared.operation.OpOf.TheVariants as ops
use Rattle.tlp_core.specs.declared.packet.Kind.TheVariants as kinds
use Rattle.tlp_core.specs.declared.fault.TlpFault.{TlpFault}
use Rattle.tlp_core.specs.TlpView.{TlpView}
use Rattle.tlp_core.specs.Operation.{op_fault, is_posted}
use Rattle.requester_core.specs.declared.fault.SubmitRefusal.{SubmitRefusal}
use Rattle.requester_core.specs.Request.{kind_for, request_for}
use Rattle.requester_core.specs.RequesterView.{RequesterView, IsSound, lowest_free, fresh, prepared, prepared_by, lacks_tag, tag_for}

pub lowest_in_range : (tags : List (Option OpenRequest)) → lowest_free tags ≤ length tags
lowest_in_range tags = prefix_len-le-length _ tags

some_is : (o p : OpenRequest) → ◌≡◌ {A = Option OpenRequest} (Some o) (Some p) → o ≡ p
some_is o p e = cc

some_not_none : (o : Option OpenRequest) → is_some o ≡ true → is_none o ≡ true → ⊥
some_not_none (Some o) h n = cc
some_not_none None h n = cc

not_some : (o : Option OpenRequest) → is_some o ≡ false → is_none o ≡ true
not_some (Some o) h = absurd cc
not_some None h = refl

is_open : (o : Option OpenRequest) → is_none o ≡ false → is_some o ≡ true
is_open (Some o) h = refl
is_open None h = absurd cc

none_is : (o : Option OpenRequest) → is_none o ≡ true → o ≡ None
none_is (Some o) h = absurd cc
none_is None h = refl

-- at the lowest free tag nothing is open
pub free_at_lowest : (tags : List (Option OpenRequest)) → lowest_free tags < length tags → is_none (get_or tags (lowest_free tags) None) ≡ true
free_at_lowest tags lt = passes_at_first is_none tags None lt

pub open_below : (tags : List (Option OpenRequest)) (i : ℕ) → i < lowest_free tags → is_none (get_or tags i None) ≡ false
open_below tags i lt = fails_before_first is_none tags i None lt

next_by : (tags : List (Option OpenRequest)) (i : ℕ) → i < length tags → is_some (get_or tags i None) ≡ true → (i ≡ lowest_free tags) ⊎ (i ≡ lowest_free tags → ⊥) → i ≤ lowest_free tags → i + 1 ≤ lowest_free tags
next_by tags i lt e (inl same) le =
    let free : is_none (get_or tags i None) ≡ true = subst (λ k. is_none (get_or tags k None) ≡ true) (sym same) (free_at_lowest tags (subst (λ k. k < length tags) same lt)) in
    absurd (some_not_none (get_or tags i None) e free)
next_by tags i lt e (inr other) le = grind (arith, le, other)

-- an open tag is not the lowest free one
pub next_below : (tags : List (Option OpenRequest)) (i : ℕ) → i < length tags → is_some (get_or tags i None) ≡ true → i ≤ lowest_free tags → i + 1 ≤ lowest_free tags
next_below tags i lt e le = next_by tags i lt e (cases_eq i (lowest_free tags)) le

lowest_by : (tags : List (Option OpenRequest)) (i : ℕ) → is_some (get_or tags i None) ≡ false → (i ≡ lowest_free tags) ⊎ (i ≡ lowest_free tags → ⊥) → i ≤ lowest_free tags → i ≡ lowest_free tags
lowest_by tags i e (inl same) le = same
lowest_by tags i e (inr other) le =
    let busy = open_below tags i (grind (arith, le, other)) in absurd (let free = not_some (get_or tags i None) e in cc)

-- a tag that is free, with none below it, is the lowest free one
pub is_lowest : (tags : List (Option OpenRequest)) (i : ℕ) → is_some (get_or tags i None) ≡ false → i ≤ lowest_free tags → i ≡ lowest_free tags
is_lowest tags i e le = lowest_by tags i e (cases_eq i (lowest_free tags)) le

at_least_by : (tags : List (Option OpenRequest)) (i : ℕ) → i ≤ length tags → ((k : ℕ) → k < i → is_none (get_or tags k None) ≡ false) → (lowest_free tags < i) ⊎ (i ≤ lowest_free tags) → i ≤ lowest_free tags
at_least_by tags i le open_all (inr h) = h
at_least_by tags i le open_all (inl h) =
    let busy = open_all (lowest_free tags) h in
    let free = free_at_lowest tags (omega (arith, h, le)) in absurd cc

below_or_not : (a b : ℕ) → (a < b) ⊎ (b ≤ a)
below_or_not a b = grind arith

-- the lowest free tag is not below tags that are all open
pub at_least : (tags : List (Option OpenRequest)) (i : ℕ) → i ≤ length tags → ((k : ℕ) → k < i → is_none (get_or tags k None) ≡ false) → i ≤ lowest_free tags
at_least tags i le open_all = at_least_by tags i le open_all (below_or_not (lowest_free tags) i)

-- where a tag is opened, no tag below it becomes free
pub still_open : (tags : List (Option OpenRequest)) (tag : ℕ) (o : OpenRequest) → tag < length tags → tag ≤ lowest_free tags → tag ≤ lowest_free (slice_set tags tag (Some o))
still_open tags tag o lt le = at_least (slice_set tags tag (Some o)) tag (rw (length-set tags tag (Some o)) (omega (arith, lt)))
    (λ k below. rw (get_or-set_other tags tag k (Some o) None (λ e. omega (arith, e, below))) (open_below tags k (omega (arith, below, le))))

-- ---- a tag is freed

freed_by : (tags : List (Option OpenRequest)) (tag i : ℕ) → tag < length tags → i ≡ min (lowest_free tags) tag → (i ≡ tag) ⊎ (i ≡ tag → ⊥) → i < length (slice_set tags tag None) → is_none (get_or (slice_set tags tag None) i None) ≡ true
freed_by tags tag i lt e (inl same) h = rw (same, get_or-set_same tags tag None None lt) refl
freed_by tags tag i lt e (inr other) h =
    let low : i ≡ lowest_free tags = grind (arith, e, other) in
    let small : lowest_free tags < length tags = grind (arith, e, other, lt) in
    rw (get_or-set_other tags tag i None None other, low) (free_at_lowest tags small)

pub lowest_freed : (tags : List (Option OpenRequest)) (tag : ℕ) → tag < length tags → min (lowest_free tags) tag ≡ lowest_free (slice_set tags tag None)
lowest_freed tags tag lt = sym (position_or_len_is is_none (slice_set tags tag None) (min (lowest_free tags) tag) None
    (rw (length-set tags tag None) (grind (arith, lt)))
    (λ k below. rw (get_or-set_other tags tag k None None (grind (arith, below))) (open_below tags k (grind (arith, below))))
    (λ h. freed_by tags tag (min (lowest_free tags) tag) lt refl (cases_eq (min (lowest_free tags) tag) tag) h))

-- ---- what each requester keeps

at_other : (tags : List (Option OpenRequest)) (tag k : ℕ) (new : Option OpenRequest) (o : OpenRequest) → (k ≡ tag → ⊥) → get_or (slice_set tags tag new) k None ≡ Some o → get_or tags k None ≡ Some o
at_other tags tag k new o other e = sym (get_or-set_other tags tag k new None other) ∙ e

none_at : (tags : List (Option OpenRequest)) (tag : ℕ) (o : OpenRequest) → tag < length tags → get_or (slice_set tags tag None) tag None ≡ Some o → ⊥
none_at tags tag o lt e = let n = get_or-set_same tags tag None None lt in cc

number_at : (tags : List (Option OpenRequest)) (tag : ℕ) (o p : OpenRequest) → tag < length tags → get_or (slice_set tags tag (Some o)) tag None ≡ Some p → p.number ≡ o.number
number_at tags tag o p lt e = let n = get_or-set_same tags tag (Some o) None lt in let same : ◌≡◌ {A = Option OpenRequest} (Some p) (Some o) = sym e ∙ n in ap (λ (q : OpenRequest). q.number) (some_is p o same)

given_by : (s : RequesterView) (tag : ℕ) (o : OpenRequest) → IsSound s → tag < length s.open_tags → o.number ≡ s.next → (k : ℕ) (p : OpenRequest) → (k ≡ tag) ⊎ (k ≡ tag → ⊥) → get_or (slice_set s.open_tags tag (Some o)) k None ≡ Some p → p.number < s.next + 1
given_by s tag o h lt e k p (inl same) is =
    let n = number_at s.open_tags tag o p lt (subst (λ k. get_or (slice_set s.open_tags tag (Some o)) k None ≡ Some p) same is) in omega (arith, n, e)
given_by s tag o h lt e k p (inr other) is = let n = h.given k p (at_other s.open_tags tag k (Some o) p other is) in omega (arith, n)

one_by : (s : RequesterView) (tag : ℕ) (o : OpenRequest) → IsSound s → tag < length s.open_tags → o.number ≡ s.next → (k j : ℕ) (p q : OpenRequest) → (k ≡ tag) ⊎ (k ≡ tag → ⊥) → (j ≡ tag) ⊎ (j ≡ tag → ⊥) → get_or (slice_set s.open_tags tag (Some o)) k None ≡ Some p → get_or (slice_set s.open_tags tag (Some o)) j None ≡ Some q → p.number ≡ q.number → k ≡ j
one_by s tag o h lt e k j p q (inl a) (inl b) is_p is_q same = a ∙ sym b
one_by s tag o h lt e k j p q (inl a) (inr b) is_p is_q same =
    let n = number_at s.open_tags tag o p lt (subst (λ k. get_or (slice_set s.open_tags tag (Some o)) k None ≡ Some p) a is_p) in
    let m = h.given j q (at_other s.open_tags tag j (Some o) q b is_q) in absurd (omega (arith, n, m, e, same))
one_by s tag o h lt e k j p q (inr a) (inl b) is_p is_q same =
    let n = number_at s.open_tags tag o q lt (subst (λ k. get_or (slice_set s.open_tags tag (Some o)) k None ≡ Some q) b is_q) in
    let m = h.given k p (at_other s.open_tags tag k (Some o) p a is_p) in absurd (omega (arith, n, m, e, same))
one_by s tag o h lt e k j p q (inr a) (inr b) is_p is_q same =
    h.one_tag k j p q (at_other s.open_tags tag k (Some o) p a is_p) (at_other s.open_tags tag j (Some o) q b is_q) same

-- the next number under a tag
pub sound_opened : (s : RequesterView) (tag : ℕ) (o : OpenRequest) → IsSound s → tag < length s.open_tags → o.number ≡ s.next → s.next < 4294967295 → IsSound (record { port = s.port; next = s.next + 1; open_tags = slice_set s.open_tags tag (Some o) })
sound_opened s tag o h lt e few = record {
  some_port = h.some_port;
  few_ports = h.few_ports;
  numbers = omega (arith, few);
  tags = length-set s.open_tags tag (Some o) ∙ h.tags;
  given = λ k p is. given_by s tag o h lt e k p (cases_eq k tag) is;
  one_tag = λ k j p q is_p is_q same. one_by s tag o h lt e k j p q (cases_eq k tag) (cases_eq j tag) is_p is_q same;
}

-- a number that opens no tag
pub sound_spent : (s : RequesterView) → IsSound s → s.next < 4294967295 → IsSound (record { port = s.port; next = s.next + 1; open_tags = s.open_tags })
sound_spent s h few = record { some_port = h.some_port; few_ports = h.few_ports; numbers = omega (arith, few); tags = h.tags; given = λ k p is. omega (arith, h.given k p is); one_tag = h.one_tag }

still_at : (s : RequesterView) (tag k : ℕ) (p : OpenRequest) → tag < length s.open_tags → (k ≡ tag) ⊎ (k ≡ tag → ⊥) → get_or (slice_set s.open_tags tag None) k None ≡ Some p → get_or s.open_tags k None ≡ Some p
still_at s tag k p lt (inl same) is = absurd (none_at s.open_tags tag p lt (subst (λ k. get_or (slice_set s.open_tags tag None) k None ≡ Some p) same is))
still_at s tag k p lt (inr other) is = at_other s.open_tags tag k None p other is

-- a tag that is freed
pub sound_freed : (s : RequesterView) (tag : ℕ) → IsSound s → tag < length s.open_tags → IsSound (record { port = s.port; next = s.next; open_tags = slice_set s.open_tags tag None })
sound_freed s tag h lt = record {
  some_port = h.some_port;
  few_ports = h.few_ports;
  numbers = h.numbers;
  tags = length-set s.open_tags tag None ∙ h.tags;
  given = λ k p is. h.given k p (still_at s tag k p lt (cases_eq k tag) is);
  one_tag = λ k j p q is_p is_q same. h.one_tag k j p q (still_at s tag k p lt (cases_eq k tag) is_p) (still_at s tag j q lt (cases_eq j tag) is_q) same;
}

none_open : (port k : ℕ) (o : OpenRequest) → (k < 256) ⊎ (256 ≤ k) → get_or (replicate 256 None) k None ≡ Some o → ⊥
none_open port k o (inl lt) e = let n = get_or-replicate {A = Option OpenRequest} 256 k None None lt in cc
none_open port k o (inr le) e = let n = get_or_past (replicate {A = Option OpenRequest} 256 None) k None (rw (length-replicate {A = Option OpenRequest} 256 None) le) in cc

-- a new requester
pub sound_fresh : (port : ℕ) → 1 ≤ port → port ≤ 7 → IsSound (fresh port)
sound_fresh port h1 h2 = record {
  some_port = h1;
  few_ports = h2;
  numbers = omega arith;
  tags = length-replicate {A = Option OpenRequest} 256 None;
  given = λ k o is. absurd (none_open port k o (below_or_not k 256) is);
  one_tag = λ k j o p is_o is_p same. absurd (none_open port k o (below_or_not k 256) is_o);
}

pub lowest_fresh : 0 ≡ lowest_free (replicate 256 None)
lowest_fresh = refl

-- ---- a request that was prepared

record WasPrepared (f : Option TlpFault) (tags_used numbers_used : Bool) (t u : TlpView) : Type 0 where
  pub sound : f ≡ None
  pub has_tag : tags_used ≡ false
  pub has_number : numbers_used ≡ false
  pub same : t ≡ u

pair_is : (p q : ℕ × TlpView) → ◌≡◌ {A = Result (ℕ × TlpView) SubmitRefusal} (Ok p) (Ok q) → p ≡ q
pair_is p q e = cc

second_is : (n : ℕ) (t u : TlpView) → ◌≡◌ {A = Result (ℕ × TlpView) SubmitRefusal} (Ok (n, t)) (Ok (n, u)) → t ≡ u
second_is n t u e = let same = pair_is (n, t) (n, u) e in ap (λ (p : ℕ × TlpView). p.1) same

is_prepared : (f : Option TlpFault) (tags_used numbers_used : Bool) (n : ℕ) (t u : TlpView) → prepared_by f tags_used numbers_used n t ≡ Ok (n, u) → WasPrepared f tags_used numbers_used t u
is_prepared (Some f) a b n t u e = absurd cc
is_prepared None true b n t u e = absurd cc
is_prepared None false true n t u e = absurd cc
is_prepared None false false n t u e = record { sound = refl; has_tag = refl; has_number = refl; same = second_is n t u e }

tag_of : (op : Op) (lowest : ℕ) → (kind_for op ≡ kinds.MemoryWrite → ⊥) → (if is_posted op then 0 else lowest) ≡ lowest
tag_of (ops.Read a dw f l) lowest n = refl
tag_of (ops.Write a f l bytes) lowest n = absurd (n refl)
tag_of (ops.FetchAdd a w x) lowest n = refl
tag_of (ops.Swap a w x) lowest n = refl
tag_of (ops.Cas a w x y) lowest n = refl

few_numbers : (n : ℕ) → n ≤ 4294967295 → (n == 4294967295) ≡ false → n < 4294967295
few_numbers n h e = grind (arith, nat_tests)

-- a non-posted request that was prepared has the lowest free tag, and there is a number for it
pub prepared_tag : (s : RequesterView) (op : Op) (t : TlpView) → s.next ≤ 4294967295 → prepared s op ≡ Ok (s.next, t) → (t.kind ≡ kinds.MemoryWrite → ⊥) → (t.tag ≡ lowest_free s.open_tags) × (s.next < 4294967295)
prepared_tag s op t lt e n =
    let p = is_prepared (op_fault op) (lacks_tag s op) (s.next == 4294967295) s.next (request_for s.port (tag_for s op) op) t e in
    (sym (ap (λ (t : TlpView). t.tag) p.same) ∙ tag_of op (lowest_free s.open_tags) (λ same. n (sym (ap (λ (t : TlpView). t.kind) p.same) ∙ same)), few_numbers s.next lt p.has_number)

pub prepared_number : (s : RequesterView) (op : Op) (t : TlpView) → s.next ≤ 4294967295 → prepared s op ≡ Ok (s.next, t) → s.next < 4294967295
prepared_number s op t lt e = few_numbers s.next lt (is_prepared (op_fault op) (lacks_tag s op) (s.next == 4294967295) s.next (request_for s.port (tag_for s op) op) t e).has_number

not_256 : (n : ℕ) → (n == 256) ≡ false → n ≤ 256 → n < 256
not_256 n e h = grind (arith, nat_tests)

not_all : (op : Op) (lowest : ℕ) → (kind_for op ≡ kinds.MemoryWrite → ⊥) → (not (is_posted op) && (lowest == 256)) ≡ false → lowest ≤ 256 → lowest < 256
not_all (ops.Read a dw f l) lowest n e h = not_256 lowest e h
not_all (ops.Write a f l bytes) lowest n e h = absurd (n refl)
not_all (ops.FetchAdd a w x) lowest n e h = not_256 lowest e h
not_all (ops.Swap a w x) lowest n e h = not_256 lowest e h
not_all (ops.Cas a w x y) lowest n e h = not_256 lowest e h

-- its tag is one of the 256
pub prepared_in_range : (s : RequesterView) (op : Op) (t : TlpView) → IsSound s → prepared s op ≡ Ok (s.next, t) → (t.kind ≡ kinds.MemoryWrite → ⊥) → t.tag < length s.open_tags
prepared_in_range s op t sound e n =
    let p = is_prepared (op_fault op) (lacks_tag s op) (s.next == 4294967295) s.next (request_for s.port (tag_for s op) op) t e in
    let kind : kind_for op ≡ kinds.MemoryWrite → ⊥ = λ same. n (sym (ap (λ (t : TlpView). t.kind) p.same) ∙ same) in
    let most = lowest_in_range s.open_tags in
    let lt = not_all op (lowest_free s.open_tags) kind p.has_tag (omega (arith, most, sound.tags)) in
    let tag = prepared_tag s op t sound.numbers e n in
    omega (arith, lt, tag.0, sound.tags)

first_by : (f : Option TlpFault) (a b : Bool) (n : ℕ) (t : TlpView) (p : ℕ × TlpView) → prepared_by f a b n t ≡ Ok p → (n, t) ≡ p
first_by (Some f) a b n t p e = absurd cc
first_by None true b n t p e = absurd cc
first_by None false true n t p e = absurd cc
first_by None false false n t p e = pair_is (n, t) p e

-- the number that is given is the next
pub prepared_first : (s : RequesterView) (op : Op) (p : ℕ × TlpView) → prepared s op ≡ Ok p → s.next ≡ p.0
prepared_first s op p e = ap (λ (q : ℕ × TlpView). q.0) (first_by (op_fault op) (lacks_tag s op) (s.next == 4294967295) s.next (request_for s.port (tag_for s op) op) p e)

pub prepared_next : (s : RequesterView) (op : Op) (p : ℕ × TlpView) → prepared s op ≡ Ok p → prepared s op ≡ Ok (s.next, p.1)
prepared_next s op p e = subst (λ n. prepared s op ≡ Ok (n, p.1)) (sym (prepared_first s op p e)) e
