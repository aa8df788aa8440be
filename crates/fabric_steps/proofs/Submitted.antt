-- What a requester submitted is one list, read off its path.
use Rattle.std.proofs.Common.{◌≡◌, ℕ, zero, suc, ◌+◌, ◌<◌, ◌≤◌, Bool, true, false, if◌then◌else◌, List, [], ◌∷◌, ◌++◌, length, refl, sym, ap, ◌∙◌, subst, arith, inl, inr, ◌⊎◌, ⊎_elim, Some, set}
use Rattle.std.specs.Prelude.{slice_get}
use Rattle.std.proofs.lemmas.List.{append-nil, length_push}
use Rattle.std.proofs.lemmas.Bool.Decides.{nat_tests}
use Rattle.std.proofs.lemmas.Option.{none-some, same_Some, slice_get_within}
use native.Mathlib.Decide.{ℕ_discrete, dec_lt}
use mathlib.Core.Logic.{dite}
use Rattle.history_words.specs.Records.{Record}
use Rattle.history_words.specs.declared.record.RecordOf.TheVariants.{Sub}
use Rattle.history_words.specs.Trace.{is_request, submissions, IsLegal}
use Rattle.fabric_steps.specs.Lists.{Each, one_if, count}
use Rattle.fabric_steps.specs.ListFacts.{each_at, get_before, get_seam}
use Rattle.fabric_steps.specs.Whole.{Op, no_op, Entry, MarkedPacket, RequesterView, View, Whole, view, path, up_of, requester_of, entry_of, marked_request, Reply}
use Rattle.fabric_steps.specs.Sound.{times, Sound, SoundAt}
use Rattle.fabric_steps.specs.Steps.{IsOpened, IsSubmit, IsCollect, Step, submits, forwards, serves, returns, collects, links}
use Rattle.fabric_steps.specs.Trace.{IsMade}
use Rattle.fabric_steps.proofs.Lists.{each_append, each_weaken, count_at}
use Rattle.fabric_steps.proofs.Numbers.{below_counted, numbers_below}
use Rattle.fabric_steps.proofs.Places.{found_at}
use Rattle.fabric_steps.proofs.Records.{made_ans, made_own, made_other}
use Rattle.fabric_steps.proofs.Submit.{longer}
use Rattle.fabric_steps.proofs.Views.{view_submit, view_submit_other, view_collect, view_collect_other}
use Rattle.fabric_steps.proofs.Belongs.{Silent}
use Rattle.fabric_steps.proofs.Headline.{forward_silent, serve_silent, return_silent}
use Rattle.fabric_steps.proofs.Legal.{hits, legal}

test : (b : Bool) → (b ≡ true) ⊎ (b ≡ false)
test true = inl refl
test false = inr refl

-- ---- there is one

-- the operation of the first entry of that request
op_at : ℕ → ℕ → List Entry → Op
op_at i k [] = no_op
op_at i k (e ∷ es) = if is_request i k e then e.op else op_at i k es

op_at_is : (i k : ℕ) (es : List Entry) (n : ℕ) (e : Entry) → count (is_request i k) es ≤ 1 → slice_get es n ≡ Some e → is_request i k e ≡ true → op_at i k es ≡ e.op
unfolding count op_at
op_at_is i k [] n e few at is = absurd (none-some e at)
op_at_is i k (x ∷ es) zero e few at is =
    let same : x ≡ e = same_Some x e at in
    let t : is_request i k x ≡ true = ap (is_request i k) same ∙ is in
    rw t (ap (λ (y : Entry). y.op) same)
op_at_is i k (x ∷ es) (suc n) e few at is = ⊎_elim
    (λ (t : is_request i k x ≡ true). absurd (let one : one_if (is_request i k x) ≡ 1 = ap one_if t in let more : 1 ≤ count (is_request i k) es = count_at (is_request i k) es n e at is in omega arith))
    (λ (t : is_request i k x ≡ false). rw t (op_at_is i k es n e (omega arith) at is))
    (test (is_request i k x))

-- those of the first n requests
ops_to : ℕ → List Entry → ℕ → List Op
ops_to i es zero = []
ops_to i es (suc n) = ops_to i es n ++ op_at i n es ∷ []

ops_length : (i : ℕ) (es : List Entry) (n : ℕ) → length (ops_to i es n) ≡ n
unfolding ops_to
ops_length i es zero = refl
ops_length i es (suc n) = let e = ops_length i es n in length_push (ops_to i es n) (op_at i n es) ∙ omega arith

ops_there : (i : ℕ) (es : List Entry) (n k : ℕ) → k < n → slice_get (ops_to i es n) k ≡ Some (op_at i k es)
unfolding ops_to
ops_there i es zero k less = absurd (omega arith)
ops_there i es (suc n) k less = dite (dec_lt k n)
    (λ (below : k < n). get_before (ops_to i es n) (op_at i n es ∷ []) k (op_at i k es) (ops_there i es n k below))
    (λ no. let is : k ≡ n = omega arith in
    subst (λ (m : ℕ). slice_get (ops_to i es n ++ op_at i n es ∷ []) m ≡ Some (op_at i k es)) (ops_length i es n ∙ sym is)
    (subst (λ (m : ℕ). slice_get (ops_to i es n ++ op_at i n es ∷ []) (length (ops_to i es n)) ≡ Some (op_at i m es)) (sym is) (get_seam (ops_to i es n) [] (op_at i n es))))

pub each_of : {X : Type 0} (P : X → Type 0) (xs : List X) → ((n : ℕ) (x : X) → slice_get xs n ≡ Some x → P x) → Each P xs
each_of P [] f = tt
each_of P (x ∷ xs) f = (f 0 x refl, each_of P xs (λ n y e. f (suc n) y e))

at_most_one : (b : Bool) → one_if b ≤ 1
at_most_one true = omega arith
at_most_one false = omega arith

own_request : (i : ℕ) (e : Entry) → e.requester ≡ i → is_request i e.number e ≡ true
own_request i e own = grind (arith, nat_tests)

pub read_off : (i : ℕ) (v : View) → SoundAt i v → (ops : List Op) × IsMade i v ops
read_off i v s = (
  ops_to i (path v) v.requester.next,
  record {
    spent = ops_length i (path v) v.requester.next;
    each = each_of (λ (e : Entry). e.requester ≡ i → slice_get (ops_to i (path v) v.requester.next) e.number ≡ Some e.op) (path v) (λ n e at own.
        let below : e.number < v.requester.next = each_at (λ (x : Entry). x.requester ≡ i → x.number < v.requester.next) (path v) n e at (numbers_below i v s) own in
        let few : times i e.number (path v) ≤ 1 = subst (λ (m : ℕ). m ≤ 1) (sym (s.whole e.number)) (at_most_one _) in
        ops_there i (path v) v.requester.next e.number below ∙ ap Some (op_at_is i e.number (path v) n e few at (own_request i e own)));
  },
)

-- ---- there is no other

same_list : {X : Type 0} (xs ys : List X) → length xs ≡ length ys → ((k : ℕ) (x y : X) → slice_get xs k ≡ Some x → slice_get ys k ≡ Some y → x ≡ y) → xs ≡ ys
same_list [] [] n f = refl
same_list [] (y ∷ ys) n f = absurd (omega arith)
same_list (x ∷ xs) [] n f = absurd (omega arith)
same_list (x ∷ xs) (y ∷ ys) n f = ap (λ (z : _). z ∷ xs) (f 0 x y refl refl) ∙ ap (λ (zs : List _). y ∷ zs) (same_list xs ys (omega arith) (λ k a b d e. f (suc k) a b d e))

pub only_one : (i : ℕ) (v : View) (ops others : List Op) → SoundAt i v → IsMade i v ops → IsMade i v others → ops ≡ others
only_one i v ops others s m n = same_list ops others (m.spent ∙ sym n.spent) (λ k x y at bt.
    let below : k < v.requester.next = subst (λ (l : ℕ). k < l) m.spent (slice_get_within ops k x at) in
    let one : times i k (path v) ≡ 1 = s.whole k ∙ below_counted v.requester.next k below in
    let (place, e, there, is) = found_at (is_request i k) (path v) (omega arith) in
    let own : (e.requester ≡ i) × (e.number ≡ k) = hits i k e.requester e.number is in
    let first : slice_get ops k ≡ Some e.op = subst (λ (l : ℕ). slice_get ops l ≡ Some e.op) own.1 (each_at (λ (z : Entry). z.requester ≡ i → slice_get ops z.number ≡ Some z.op) (path v) place e there m.each own.0) in
    let second : slice_get others k ≡ Some e.op = subst (λ (l : ℕ). slice_get others l ≡ Some e.op) own.1 (each_at (λ (z : Entry). z.requester ≡ i → slice_get others z.number ≡ Some z.op) (path v) place e there n.each own.0) in
    same_Some x y (sym at ∙ (first ∙ (sym second ∙ bt))))

-- ---- what a step adds

own_submission : (i tag : ℕ) (op : Op) (v : View) (q' : RequesterView) (ops : List Op) → SoundAt i v → IsOpened v.requester tag op q' → IsMade i v ops →
    IsMade i (record v { up = v.up ++ marked_request i tag v.requester.next op ∷ []; requester = q' }) (ops ++ op ∷ [])
own_submission i tag op v q' ops s o m = record {
  spent = length_push ops op ∙ (ap (λ (n : ℕ). n + 1) m.spent ∙ sym o.next);
  each = subst (Each (λ (e : Entry). e.requester ≡ i → slice_get (ops ++ op ∷ []) e.number ≡ Some e.op)) (sym (longer i tag op v q' s o))
      (each_append (λ (e : Entry). e.requester ≡ i → slice_get (ops ++ op ∷ []) e.number ≡ Some e.op) (path v) (entry_of (marked_request i tag v.requester.next op) ∷ [])
      (each_weaken (λ (e : Entry). e.requester ≡ i → slice_get ops e.number ≡ Some e.op) (λ (e : Entry). e.requester ≡ i → slice_get (ops ++ op ∷ []) e.number ≡ Some e.op) (path v)
      (λ e f own. get_before ops (op ∷ []) e.number e.op (f own)) m.each)
      ((λ own. subst (λ (n : ℕ). slice_get (ops ++ op ∷ []) n ≡ Some op) m.spent (get_seam ops [] op)), tt));
}

submit_adds : (p : Whole) (i : ℕ) (op : Op) (p' : Whole) (n j : ℕ) (ops : List Op) → Sound p → IsSubmit p i op p' → IsMade j (view p j) ops → IsMade j (view p' j) (ops ++ submissions (Sub i (requester_of p i).next op n ∷ []) j)
submit_adds p i op p' n j ops s e m = subst (λ (q : Whole). IsMade j (view q j) (ops ++ submissions (said ∷ []) j)) (sym e.now) (dite (ℕ_discrete j i)
    (λ is. subst (λ (k : ℕ). IsMade k (view now k) (ops ++ submissions (said ∷ []) k)) (sym is)
    (subst (λ (v : View). IsMade i v (ops ++ submissions (said ∷ []) i)) (sym (view_submit p i u e.requester e.has_up e.known))
    (subst (λ (l : List Op). IsMade i (record (view p i) { up = u; requester = e.requester }) (ops ++ l)) (sym (made_own i (requester_of p i).next n op []))
    (own_submission i e.tag op (view p i) e.requester ops (s i) e.opened (subst (λ (k : ℕ). IsMade k (view p k) ops) is m)))))
    (λ ne. subst (λ (v : View). IsMade j v (ops ++ submissions (said ∷ []) j)) (sym (view_submit_other p i j u e.requester ne))
    (subst (IsMade j (view p j)) (sym (ap (λ (l : List Op). ops ++ l) (made_other j i (requester_of p i).next n op [] (λ h. ne (sym h))) ∙ append-nil ops)) m)))
  where
    said : Record
    said = Sub i (requester_of p i).next op n

    u : List MarkedPacket
    u = up_of p i ++ marked_request i e.tag (requester_of p i).next op ∷ []

    now : Whole
    now = record p { up = set p.up i u; requesters = set p.requesters i e.requester }

collect_adds : (p : Whole) (i number : ℕ) (reply : Reply) (p' : Whole) (j : ℕ) (ops : List Op) → IsCollect p i number reply p' → IsMade j (view p j) ops → IsMade j (view p' j) ops
collect_adds p i number reply p' j ops e m = subst (λ (q : Whole). IsMade j (view q j) ops) (sym e.now) (dite (ℕ_discrete j i)
    (λ is. subst (λ (k : ℕ). IsMade k (view now k) ops) (sym is)
    (subst (λ (v : View). IsMade i v ops) (sym (view_collect p i e.rest e.requester e.has_down e.known)) (kept (subst (λ (k : ℕ). IsMade k (view p k) ops) is m))))
    (λ ne. subst (λ (v : View). IsMade j v ops) (sym (view_collect_other p i j e.rest e.requester ne)) m))
  where
    now : Whole
    now = record p { down = set p.down i e.rest; requesters = set p.requesters i e.requester }

    kept : IsMade i (view p i) ops → IsMade i (record (view p i) { down = e.rest; requester = e.requester }) ops
    kept k = record { spent = k.spent ∙ sym e.closed.next; each = k.each }

silent_adds : (p p' : Whole) (j : ℕ) (ops : List Op) → Silent p p' → IsMade j (view p j) ops → IsMade j (view p' j) ops
silent_adds p p' j ops c m = record {
  spent = m.spent ∙ ap (λ (q : RequesterView). q.next) (sym (c.requesters j));
  each = c.paths j (λ (e : Entry). e.requester ≡ j → slice_get ops e.number ≡ Some e.op) (λ e ne own. absurd (ne own)) m.each;
}

with_none : (j : ℕ) (v : View) (ops : List Op) (rs : List Record) → rs ≡ [] → IsMade j v ops → IsMade j v (ops ++ submissions rs j)
with_none j v ops rs none m = subst (λ (l : List Record). IsMade j v (ops ++ submissions l j)) (sym none) (subst (IsMade j v) (sym (append-nil ops)) m)

pub step_adds : (p p' : Whole) (rs : List Record) (j : ℕ) (ops : List Op) → Sound p → Step p p' rs → IsMade j (view p j) ops → IsMade j (view p' j) (ops ++ submissions rs j)
step_adds p p' rs j ops s (submits i op e said) m = subst (λ (l : List Record). IsMade j (view p' j) (ops ++ submissions l j)) (sym said) (submit_adds p i op p' (length p.history) j ops s e m)
step_adds p p' rs j ops s (forwards i e said) m = with_none j (view p' j) ops rs said (silent_adds p p' j ops (forward_silent p i p' s e) m)
step_adds p p' rs j ops s (serves e said) m = with_none j (view p' j) ops rs said (silent_adds p p' j ops (serve_silent p p' e) m)
step_adds p p' rs j ops s (returns e said) m = with_none j (view p' j) ops rs said (silent_adds p p' j ops (return_silent p p' e) m)
step_adds p p' rs j ops s (collects i number reply e said) m =
    subst (λ (l : List Record). IsMade j (view p' j) (ops ++ submissions l j)) (sym said)
    (subst (IsMade j (view p' j)) (sym (ap (λ (l : List Op). ops ++ l) (made_ans j i number reply (length p.history) []) ∙ append-nil ops)) (collect_adds p i number reply p' j ops e m))
step_adds p p' rs j ops s (links e said) m = with_none j (view p' j) ops rs said (subst (λ (q : Whole). IsMade j (view q j) ops) (sym e) m)

-- ---- the history is legal for it

pub legal_history : (p : Whole) → Sound p → (s : ℕ → List Op) × ((i : ℕ) → IsMade i (view p i) (s i)) × IsLegal s p.history
legal_history p sound = ((λ i. (read_off i (view p i) (sound i)).0), (λ i. (read_off i (view p i) (sound i)).1), legal p (λ i. (read_off i (view p i) (sound i)).0) sound (λ i. (read_off i (view p i) (sound i)).1))
