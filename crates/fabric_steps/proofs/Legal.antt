-- The history of a sound fabric is legal.
use Rattle.std.proofs.Common.{◌≡◌, ◌≢◌, ℕ, ◌+◌, ◌<◌, ◌≤◌, ◌==◌, ◌&&◌, Bool, true, false, List, [], ◌++◌, length, take, map, refl, ap, ◌∙◌, subst, arith, Option, Some}
use Rattle.std.specs.Prelude.{slice_get, nat_lt}
use Rattle.std.proofs.lemmas.Bool.Decides.{nat_tests}
use native.Mathlib.Decide.{dec_lt}
use mathlib.Core.Logic.{dite}
use Rattle.fabric_steps.specs.Lists.{one_if, count}
use Rattle.fabric_steps.specs.Whole.{Op, is_posted, Entry, MarkedPacket, View, Whole, view, path, entry_of, open_number}
use Rattle.history_words.specs.Trace.{is_request}
use Rattle.fabric_steps.specs.Sound.{is_answer, times, answers, served, Sound, SoundAt, InOrder}
use Rattle.history_words.specs.Trace.{stands, IsLegal}
use Rattle.fabric_steps.specs.Trace.{IsMade}
use Rattle.fabric_steps.proofs.Records.{none_any, some_any}
use Rattle.fabric_steps.proofs.Lists.{each_split, each_at, get_before, get_within, take_before, count_nil}
use Rattle.fabric_steps.proofs.Numbers.{both_same, path_times, below_counted, numbers_below}
use Rattle.fabric_steps.proofs.Places.{count_take_at, found_behind}

at_most_one : (b : Bool) → one_if b ≤ 1
at_most_one true = omega arith
at_most_one false = omega arith

pub hits : (i k a b : ℕ) → ((i == a) && (k == b)) ≡ true → (a ≡ i) × (b ≡ k)
hits i k a b h = grind (arith, nat_tests)

differs : (i k a b : ℕ) → b ≢ k → ((i == a) && (k == b)) ≡ false
differs i k a b h = grind (arith, nat_tests)

pub at_most_once : (i k : ℕ) (v : View) → SoundAt i v → times i k v.history ≤ 1
at_most_once i k v s =
    let a : times i k (path v) ≡ times i k v.history + (times i k (map entry_of v.inward) + times i k (map entry_of v.up)) = path_times i k v in
    let b : times i k (path v) ≡ one_if (nat_lt k v.requester.next) = s.whole k in
    let c : one_if (nat_lt k v.requester.next) ≤ 1 = at_most_one (nat_lt k v.requester.next) in
    omega arith

-- a posted write of a smaller number stands before
write_before : (i : ℕ) (v : View) (ops : List Op) → SoundAt i v → IsMade i v ops → (p : ℕ) (e : Entry) (j : ℕ) (op : Op) → e.requester ≡ i → slice_get v.history p ≡ Some e → j < e.number → slice_get ops j ≡ Some op → is_posted op ≡ true
    → stands (take p v.history) i j ≡ true
write_before i v ops s m p e j op own at less is posted = dite (dec_lt 0 (count (is_request i j) (take p v.history)))
    (λ (some : 0 < count (is_request i j) (take p v.history)). some_any (is_request i j) (take p v.history) (omega arith))
    (λ none. absurd (
    let below : e.number < v.requester.next = each_at (λ (x : Entry). x.requester ≡ i → x.number < v.requester.next) (path v) p e (get_before v.history (map entry_of v.inward ++ map entry_of v.up) p e at) (numbers_below i v s) own in
    let one : times i j (path v) ≡ 1 = s.whole j ∙ below_counted v.requester.next j (omega arith) in
    let w : p < length v.history = get_within v.history p e at in
    let zero_there : count (is_request i j) (take p (path v)) ≡ 0 = ap (count (is_request i j)) (take_before v.history (map entry_of v.inward ++ map entry_of v.up) p (omega arith)) ∙ omega arith in
    let (y, r, o, t) = found_behind (InOrder i) (λ (x : Entry). x.requester ≡ i → slice_get ops x.number ≡ Some x.op) (is_request i j) (path v) p e s.ordered m.each
    (get_before v.history (map entry_of v.inward ++ map entry_of v.up) p e at) (differs i j e.requester e.number (λ h. omega arith)) zero_there (omega arith) in
    let here : (y.requester ≡ i) × (y.number ≡ j) = hits i j y.requester y.number t in
    let got : slice_get ops j ≡ Some y.op = subst (λ (k : ℕ). slice_get ops k ≡ Some y.op) here.1 (o here.0) in
    let same_op : op ≡ y.op = cc in
    let wrong : e.number < y.number = r own here.0 (subst (λ (z : Op). is_posted z ≡ true) same_op posted) in
    let n : y.number ≡ j = here.1 in
    omega arith))

pub legal : (p : Whole) (s : ℕ → List Op) → Sound p → ((i : ℕ) → IsMade i (view p i) (s i)) → IsLegal s p.history
legal p s sound m n e at = record {
  submitted = each_at (λ (x : Entry). x.requester ≡ e.requester → slice_get (s e.requester) x.number ≡ Some x.op) p.history n e at (each_split (λ (x : Entry). x.requester ≡ e.requester → slice_get (s e.requester) x.number ≡ Some x.op) p.history (map entry_of p.inward ++ map entry_of (view p e.requester).up) (m e.requester).each).0 refl;
  once =
      let a : count (is_request e.requester e.number) (take n p.history) + 1 ≤ times e.requester e.number p.history = count_take_at (is_request e.requester e.number) p.history n e at (both_same e.requester e.number) in
      let b : times e.requester e.number p.history ≤ 1 = at_most_once e.requester e.number (view p e.requester) (sound e.requester) in
      none_any (is_request e.requester e.number) (take n p.history) (omega arith);
  ordered = λ j op less is posted. write_before e.requester (view p e.requester) (s e.requester) (sound e.requester) (m e.requester) n e j op refl at less is posted;
}

-- where no lane has anything, each submission acted, and nothing is open
pub quiet_acted : (i : ℕ) (v : View) → SoundAt i v → v.inward ≡ [] → v.up ≡ [] → (k : ℕ) → k < v.requester.next → times i k v.history ≡ 1
quiet_acted i v s a b k less =
    let c : times i k (path v) ≡ times i k v.history + (times i k (map entry_of v.inward) + times i k (map entry_of v.up)) = path_times i k v in
    let d : times i k (map entry_of v.inward) ≡ 0 = ap (λ (l : List MarkedPacket). times i k (map entry_of l)) a ∙ count_nil (is_request i k) in
    let e : times i k (map entry_of v.up) ≡ 0 = ap (λ (l : List MarkedPacket). times i k (map entry_of l)) b ∙ count_nil (is_request i k) in
    let f : times i k (path v) ≡ 1 = s.whole k ∙ below_counted v.requester.next k less in
    omega arith

pub quiet_open : (i : ℕ) (v : View) → SoundAt i v → v.inward ≡ [] → v.up ≡ [] → v.outward ≡ [] → v.down ≡ [] → (t k : ℕ) → open_number v.requester t ≢ Some k
quiet_open i v s a b c d t k o =
    let one : times i k v.history ≡ 1 = quiet_acted i v s a b k (s.open_below t k o) in
    let e : answers i t v.outward ≡ 0 = ap (answers i t) c ∙ count_nil (is_answer i t) in
    let f : answers i t v.down ≡ 0 = ap (answers i t) d ∙ count_nil (is_answer i t) in
    let g : served i (open_number v.requester t) v.history ≡ times i k v.history = ap (λ (x : Option ℕ). served i x v.history) o in
    let h : answers i t v.outward + answers i t v.down ≡ served i (open_number v.requester t) v.history = s.under_way t in
    omega arith
