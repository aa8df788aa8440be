-- An answer that a requester collects keeps the fabric sound.
use Rattle.std.proofs.Common.{◌≡◌, ◌≢◌, ℕ, ◌+◌, ◌<◌, ◌≤◌, Bool, true, false, List, ◌∷◌, ◌++◌, map, refl, sym, ap, ◌∙◌, subst, arith, Option, Some, None}
use Rattle.std.specs.Prelude.{nat_lt, slice_get}
use mathlib.Core.Logic.{dite}
use native.Mathlib.Decide.{ℕ_discrete}
use Rattle.fabric_steps.specs.Lists.{Each, one_if}
use Rattle.fabric_steps.specs.Whole.{Entry, MarkedPacket, Op, View, RequesterView, open_number, path, entry_of, Extent}
use Rattle.history_words.specs.Trace.{is_request}
use Rattle.fabric_steps.specs.Sound.{times, is_answer, answers, served, IsTagged, IsSized, IsReply, IsReplyFor, SoundAt}
use Rattle.fabric_steps.specs.Steps.{IsClosed}
use Rattle.fabric_steps.proofs.Lists.{each_append, each_split, each_weaken, each_join, each_unmap, each_counted, count_append, count_cons, count_at}
use Rattle.fabric_steps.proofs.Numbers.{hit, miss_right, both_same, path_times}

at_most_one : (b : Bool) → one_if b ≤ 1
at_most_one true = omega arith
at_most_one false = omega arith

-- what waits on the path isn't in the history
pub not_yet : (i : ℕ) (v : View) → SoundAt i v → Each (λ (y : MarkedPacket). y.requester ≡ i → times i y.mark v.history ≡ 0) (v.inward ++ v.up)
not_yet i v s =
    let there : (ys : List MarkedPacket) → Each (λ (y : MarkedPacket). 1 ≤ times y.requester y.mark (map entry_of ys)) ys =
    λ ys. each_unmap (λ (e : Entry). 1 ≤ times e.requester e.number (map entry_of ys)) entry_of ys
    (each_counted (λ (e : Entry). 1 ≤ times e.requester e.number (map entry_of ys)) (λ (e : Entry). is_request e.requester e.number) (map entry_of ys) (λ e. both_same e.requester e.number) (λ e h. h)) in
    each_append (λ (y : MarkedPacket). y.requester ≡ i → times i y.mark v.history ≡ 0) v.inward v.up
    (each_weaken (λ (y : MarkedPacket). 1 ≤ times y.requester y.mark (map entry_of v.inward)) (λ (y : MarkedPacket). y.requester ≡ i → times i y.mark v.history ≡ 0) v.inward
    (λ y n own. none y.mark (let m : 1 ≤ times i y.mark (map entry_of v.inward) = subst (λ (j : ℕ). 1 ≤ times j y.mark (map entry_of v.inward)) own n in omega arith)) (there v.inward))
    (each_weaken (λ (y : MarkedPacket). 1 ≤ times y.requester y.mark (map entry_of v.up)) (λ (y : MarkedPacket). y.requester ≡ i → times i y.mark v.history ≡ 0) v.up
    (λ y n own. none y.mark (let m : 1 ≤ times i y.mark (map entry_of v.up) = subst (λ (j : ℕ). 1 ≤ times j y.mark (map entry_of v.up)) own n in omega arith)) (there v.up))
  where
    none : (k : ℕ) → 1 ≤ times i k (map entry_of v.inward) + times i k (map entry_of v.up) → times i k v.history ≡ 0
    none k h =
        let a : times i k (path v) ≡ times i k v.history + (times i k (map entry_of v.inward) + times i k (map entry_of v.up)) = path_times i k v in
        let b : times i k (path v) ≡ one_if (nat_lt k v.requester.next) = s.whole k in
        let c : one_if (nat_lt k v.requester.next) ≤ 1 = at_most_one (nat_lt k v.requester.next) in
        omega arith

pub acted_counted : (i k : ℕ) (o : Op) (h : List Entry) (n : ℕ) → slice_get h n ≡ Some (record { requester = i; number = k; op = o }) → 1 ≤ times i k h
acted_counted i k o h n e = count_at (is_request i k) h n (record { requester = i; number = k; op = o }) e (both_same i k)

module _ (i : ℕ) (g : Extent) (h : List Entry) (w o u rest : List MarkedPacket) (q q' : RequesterView) (c : MarkedPacket) (number : ℕ) where
  abbrev was : View
  was = record { extent = g; history = h; inward = w; outward = o; up = u; down = c ∷ rest; requester = q }

  abbrev now : View
  now = record { extent = g; history = h; inward = w; outward = o; up = u; down = rest; requester = q' }

  module _ (s : SoundAt i was) (z : IsClosed q c.tag number q') where
    mine : c.requester ≡ i
    mine = s.own_completions.0.0

    -- the reply that is collected
    pub collected : IsReply g i q h c
    collected = (each_split (IsReplyFor g i q h) o (c ∷ rest) s.replies).1.0 mine

    pub collected_number : collected.number ≡ number
    collected_number = let a : open_number q c.tag ≡ Some collected.number = collected.open_tag in let b : open_number q c.tag ≡ Some number = z.was_open in cc

    in_history : 1 ≤ times i number h
    in_history = subst (λ (k : ℕ). 1 ≤ times i k h) collected_number (acted_counted i collected.number collected.op h collected.point collected.acted)

    pub still : (t k : ℕ) → open_number q' t ≡ Some k → (t ≢ c.tag) × (open_number q t ≡ Some k)
    still t k e = dite (ℕ_discrete t c.tag)
        (λ at. absurd (let n : open_number q' t ≡ None = ap (open_number q') at ∙ z.closed in cc))
        (λ ne. (ne, sym (z.others t ne) ∙ e))

    -- no other completion has the tag
    alone : answers i c.tag o + answers i c.tag rest ≡ 0
    alone =
        let a : answers i c.tag o + answers i c.tag (c ∷ rest) ≡ served i (open_number q c.tag) h = s.under_way c.tag in
        let b : served i (open_number q c.tag) h ≡ times i number h = ap (λ (m : Option ℕ). served i m h) z.was_open in
        let e : answers i c.tag (c ∷ rest) ≡ one_if (is_answer i c.tag c) + answers i c.tag rest = count_cons (is_answer i c.tag) c rest in
        let f : one_if (is_answer i c.tag c) ≡ 1 = hit i c.tag c.requester c.tag mine refl in
        let g : times i number (path was) ≡ times i number h + (times i number (map entry_of w) + times i number (map entry_of u)) = path_times i number was in
        let j : times i number (path was) ≡ one_if (nat_lt number q.next) = s.whole number in
        let m : one_if (nat_lt number q.next) ≤ 1 = at_most_one (nat_lt number q.next) in
        omega arith

    tagged : Each (IsTagged i q') (w ++ u)
    tagged = each_join (IsTagged i q) (λ (y : MarkedPacket). y.requester ≡ i → times i y.mark h ≡ 0) (IsTagged i q') (w ++ u)
        (λ y t free own n. z.others y.tag (λ at. absurd (
        let a : open_number q y.tag ≡ Some y.mark = t own n in
        let b : open_number q y.tag ≡ Some number = ap (open_number q) at ∙ z.was_open in
        let m : y.mark ≡ number = cc in
        let f : times i y.mark h ≡ 0 = free own in
        let g : 1 ≤ times i y.mark h = subst (λ (k : ℕ). 1 ≤ times i k h) (sym m) in_history in
        omega arith)) ∙ t own n)
        s.tagged (not_yet i was s)

    other_tags : Each (λ (y : MarkedPacket). y.requester ≡ i → y.tag ≢ c.tag) (o ++ rest)
    other_tags = each_counted (λ (y : MarkedPacket). y.requester ≡ i → y.tag ≢ c.tag) (λ (y : MarkedPacket). is_answer y.requester y.tag) (o ++ rest) (λ y. both_same y.requester y.tag)
        (λ y n own at. absurd (
        let a : 1 ≤ answers i y.tag (o ++ rest) = subst (λ (j : ℕ). 1 ≤ answers j y.tag (o ++ rest)) own n in
        let b : 1 ≤ answers i c.tag (o ++ rest) = subst (λ (t : ℕ). 1 ≤ answers i t (o ++ rest)) at a in
        let e : answers i c.tag (o ++ rest) ≡ answers i c.tag o + answers i c.tag rest = count_append (is_answer i c.tag) o rest in
        let f : answers i c.tag o + answers i c.tag rest ≡ 0 = alone in
        omega arith))

    pub collect_keeps : SoundAt i now
    collect_keeps =
        let all : Each (IsReplyFor g i q h) o × Each (IsReplyFor g i q h) (c ∷ rest) = each_split (IsReplyFor g i q h) o (c ∷ rest) s.replies in
        record {
          whole = λ k. s.whole k ∙ ap (λ (n : ℕ). one_if (nat_lt k n)) (sym z.next);
          ordered = s.ordered;
          requests = s.requests;
          own_requests = s.own_requests;
          completions = s.completions;
          own_completions = s.own_completions.1;
          tagged = tagged;
          open_below = λ t k e. subst (λ (n : ℕ). k < n) (sym z.next) (s.open_below t k (still t k e).1);
          open_asked = λ t k e. s.open_asked t k (still t k e).1;
          open_sized = λ t k e. subst (λ (n : ℕ). Each (IsSized i k n) (path now)) (sym (z.sizes t (still t k e).0)) (s.open_sized t k (still t k e).1);
          open_once = λ t r k e f. s.open_once t r k (still t k e).1 (still r k f).1;
          under_way = λ t. dite (ℕ_discrete t c.tag)
              (λ at. subst (λ (n : ℕ). answers i n o + answers i n rest ≡ served i (open_number q' n) h) (sym at) (alone ∙ ap (λ (m : Option ℕ). served i m h) (sym z.closed)))
              (λ ne.
              let a : answers i t o + answers i t (c ∷ rest) ≡ served i (open_number q t) h = s.under_way t in
              let b : answers i t (c ∷ rest) ≡ one_if (is_answer i t c) + answers i t rest = count_cons (is_answer i t) c rest in
              let e : one_if (is_answer i t c) ≡ 0 = miss_right i t c.requester c.tag (λ is. ne (sym is)) in
              let f : answers i t o + answers i t rest ≡ served i (open_number q t) h = omega arith in
              f ∙ ap (λ (m : Option ℕ). served i m h) (sym (z.others t ne)));
          replies = each_join (IsReplyFor g i q h) (λ (y : MarkedPacket). y.requester ≡ i → y.tag ≢ c.tag) (IsReplyFor g i q' h) (o ++ rest)
              (λ y r other own. let a : IsReply g i q h y = r own in record { number = a.number; point = a.point; op = a.op; open_tag = z.others y.tag (other own) ∙ a.open_tag; acted = a.acted; sized = a.sized; replied = a.replied })
              (each_append (IsReplyFor g i q h) o rest all.0 all.1.1) other_tags;
        }
