-- What is said of seeds, one after the other, and what is told of it.
use Rattle.std.proofs.Common.{◌≡◌, ◌∙◌, ◌⊎◌, ◌++◌, ◌+◌, ◌<◌, ◌≤◌, ℕ, zero, suc, Bool, true, false, List, [], ◌∷◌, fold, length, take, get_or, refl, sym, ap, subst, arith, append_assoc, length-append, inl, inr, Option, Some, None, IfSome, Result, Ok, Err, OnOk, OnErr}
use Rattle.std.specs.Prelude.{not}
use Rattle.std.proofs.lemmas.Grind.{common_steps}
use Rattle.std.proofs.lemmas.List.{append-nil}
use Rattle.std.proofs.lemmas.List.Sums.{fold-append}
use Rattle.std.specs.Io.KnownBytes.{Appends}
use Rattle.line_loop.specs.Run.{Run, IsWhole, IsBeginning}
use Rattle.sweep_engine.specs.declared.options.Sweep.{Sweep}
use Rattle.sweep_engine.specs.declared.piping.Said.{Said}
use Rattle.sweep_engine.specs.Pipe.{IsSaid, AreSaid, AreFound}
use Rattle.sweep_engine.specs.Sweep.{Swept, failure, one_more, failed, after_said, none_said, swept, last_line, whole_text, prefixed, Stands, Begins}

-- ---- bytes in memory

-- a run over bytes in memory that writes to memory
pub whole_run : {S : Type 0} (run : List ℕ → Run S) (input : List ℕ) (rest : Option (List ℕ)) (text : List ℕ) (exit : ℕ) → IsWhole run (Some input) rest (Some []) (Some text) exit
    → (text ≡ (run input).text) × (exit ≡ (run input).status)
whole_run run input None text exit w = absurd w.consumed
whole_run run input (Some left) text exit w =
    let all : input ≡ w.read = w.consumed ∙ ap (λ (t : List ℕ). w.read ++ t) w.at_end ∙ append-nil w.read in
    (w.written ∙ ap (λ (t : List ℕ). (run t).text) (sym all), w.exit_status ∙ ap (λ (t : List ℕ). (run t).status) (sym all))

pub Appends-none : (u : Option (List ℕ)) → Appends u u []
Appends-none None = tt
Appends-none (Some xs) = sym (append-nil xs)

pub Appends-then : (u v w : Option (List ℕ)) (a b : List ℕ) → Appends u v a → Appends v w b → Appends u w (a ++ b)
Appends-then None v w a b x y = tt
Appends-then (Some xs) None w a b x y = absurd x
Appends-then (Some xs) (Some ys) None a b x y = y
Appends-then (Some xs) (Some ys) (Some zs) a b x y = y ∙ ap (λ (t : List ℕ). t ++ b) x ∙ append_assoc xs a b

-- ---- results

pub on_ok : {T E P : Type 0} (r : Result T E) → P → OnOk r P
on_ok (Ok x) p = p
on_ok (Err e) p = tt

pub on_err : {T E P : Type 0} (r : Result T E) → P → OnErr r P
on_err (Ok x) p = tt
on_err (Err e) p = p

-- ---- what was found

pub said_then : (o : Sweep) (first next : ℕ) (xs ys : List Said) → next ≡ first + length xs → AreSaid o first xs → AreSaid o next ys → AreSaid o first (xs ++ ys)
said_then o first next [] ys e a b = subst (λ (k : ℕ). AreSaid o k ys) (omega arith) b
said_then o first next (x ∷ xs) ys e a b = (a.0, said_then o (first + 1) next xs ys (omega arith) a.1 b)

pub said_one : (o : Sweep) (first : ℕ) (x : Said) → IsSaid o first x → AreSaid o first (x ∷ [])
said_one o first x a = (a, tt)

found_first : (o : Sweep) (first place : ℕ) (f : Option Said) (x : Said) → place ≡ first → IfSome f (IsSaid o first) → f ≡ Some x → IsSaid o place x
found_first o first place f x same a e = subst (λ (k : ℕ). IsSaid o k x) (sym same) (subst (λ (g : Option Said). IfSome g (IsSaid o first)) e a)

pub found_at : (o : Sweep) (first place : ℕ) (found : List (Option Said)) (x : Said) (d : Option Said) → AreFound o first found → place < length found → get_or found place d ≡ Some x → IsSaid o (first + place) x
found_at o first place [] x d a below e = absurd (omega (arith, below))
found_at o first zero (f ∷ rest) x d a below e = found_first o first (first + 0) f x (omega arith) a.0 e
found_at o first (suc place) (f ∷ rest) x d a below e = subst (λ (k : ℕ). IsSaid o k x) (omega arith) (found_at o (first + 1) place rest x d a.1 (omega (arith, below)) e)

pub found_each : (o : Sweep) (first : ℕ) (found : List (Option Said)) → ((i : ℕ) (d : Option Said) → i < length found → IfSome (get_or found i d) (IsSaid o (first + i))) → AreFound o first found
found_each o first [] each = tt
found_each o first (f ∷ rest) each = (
  subst (λ (k : ℕ). IfSome f (IsSaid o k)) (omega arith) (each 0 f (omega arith)),
  found_each o (first + 1) rest (λ i d below. subst (λ (k : ℕ). IfSome (get_or rest i d) (IsSaid o k)) (omega arith) (each (suc i) d (omega (arith, below)))),
)

-- as many as there were
pub kept : {X : Type 0} (n : ℕ) (xs ys : List X) → length xs ≡ n → take n (xs ++ ys) ≡ xs
kept n xs ys e = grind (arith, common_steps)

-- ---- lines before those of a sweep

abbrev pub with_text : ℕ → ℕ → Bool → List ℕ → Swept
with_text ok status ended t = record { ok = ok; text = t; status = status; has_ended = ended }

abbrev after : Bool → Bool → Sweep → Swept → Said → Swept
after true ok o w x = w
after false true o w x = one_more w
after false false o w x = failed o w x

after_is : (ended ok : Bool) (o : Sweep) (w : Swept) (x : Said) → w.has_ended ≡ ended → x.is_ok ≡ ok → after_said o w x ≡ after ended ok o w x
after_is true ok o w x e f = rw e refl
after_is false true o w x e f = rw (e, f) refl
after_is false false o w x e f = rw (e, f) refl

after_prefixed : (ended ok : Bool) (o : Sweep) (before : List ℕ) (w : Swept) (x : Said) → after ended ok o (prefixed before w) x ≡ prefixed before (after ended ok o w x)
after_prefixed true ok o before w x = refl
after_prefixed false true o before w x = refl
after_prefixed false false o before w x =
    ap (with_text w.ok 1 (not o.keeps_going)) (append_assoc before w.text (failure o x))

said_prefixed : (o : Sweep) (before : List ℕ) (w : Swept) (x : Said) → after_said o (prefixed before w) x ≡ prefixed before (after_said o w x)
said_prefixed o before w x =
    after_is w.has_ended x.is_ok o (prefixed before w) x refl refl ∙ after_prefixed w.has_ended x.is_ok o before w x
    ∙ ap (prefixed before) (sym (after_is w.has_ended x.is_ok o w x refl refl))

all_prefixed : (o : Sweep) (before : List ℕ) (w : Swept) (xs : List Said) → fold (after_said o) (prefixed before w) xs ≡ prefixed before (fold (after_said o) w xs)
all_prefixed o before w [] = refl
all_prefixed o before w (x ∷ xs) =
    ap (λ (v : Swept). fold (after_said o) v xs) (said_prefixed o before w x) ∙ all_prefixed o before (after_said o w x) xs

-- ---- seeds more

pub differ : false ≡ true → ⊥
differ e = cc

-- the number of seeds of a sweep that goes on
number_of : (o : Sweep) (n : ℕ) (written : List ℕ) (w : Swept) (s : Stands o n written w) → w.has_ended ≡ false → length s.saids ≡ n
number_of o n written w s going = of s.all
  where
    of : (length s.saids ≡ n) ⊎ (w.has_ended ≡ true) → length s.saids ≡ n
    of (inl e) = e
    of (inr e) = absurd (differ (sym going ∙ e))

-- what a sweep is after more seeds
swept_more : (o : Sweep) (n : ℕ) (written : List ℕ) (w : Swept) (s : Stands o n written w) (xs : List Said) → swept o (s.saids ++ xs) ≡ prefixed written (fold (after_said o) w xs)
swept_more o n written w s xs =
    fold-append (after_said o) none_said s.saids xs ∙ ap (λ (v : Swept). fold (after_said o) v xs) s.told ∙ all_prefixed o written w xs

prefixed_twice : (a b : List ℕ) (w : Swept) → prefixed a (prefixed b w) ≡ prefixed (a ++ b) w
prefixed_twice a b w = ap (with_text w.ok w.status w.has_ended) (sym (append_assoc a b w.text))

pub stands_more : (o : Sweep) (n first count : ℕ) (written text : List ℕ) (w v : Swept) (xs : List Said) → Stands o n written w → w.has_ended ≡ false → first ≡ o.storm.seed + n
    → AreSaid o first xs → length xs ≡ count → fold (after_said o) w xs ≡ prefixed text v → Stands o (n + count) (written ++ text) v
stands_more o n first count written text w v xs s going place said number told =
    let before : length s.saids ≡ n = number_of o n written w s going in
    record {
      saids = s.saids ++ xs;
      said = said_then o o.storm.seed first s.saids xs (omega (arith, place, before)) s.said said;
      few = omega (arith, length-append s.saids xs, before, number);
      all = inl (omega (arith, length-append s.saids xs, before, number));
      told = swept_more o n written w s xs ∙ ap (prefixed written) told ∙ prefixed_twice written text v;
    }

-- a sweep that has ended is one of more seeds
pub stands_ended : (o : Sweep) (n m : ℕ) (written : List ℕ) (w : Swept) → Stands o n written w → w.has_ended ≡ true → n ≤ m → Stands o m written w
stands_ended o n m written w s ended le = record {
  saids = s.saids;
  said = s.said;
  few = let few = s.few in omega arith;
  all = inr ended;
  told = s.told;
}

-- the same sweep, counted otherwise
pub stands_same : (o : Sweep) (n m : ℕ) (written : List ℕ) (w : Swept) → m ≡ n → Stands o n written w → Stands o m written w
stands_same o n m written w e s = subst (λ (k : ℕ). Stands o k written w) (sym e) s

regroup : (x y z u : List ℕ) → (x ++ (y ++ z)) ++ u ≡ (x ++ y) ++ (z ++ u)
regroup x y z u = simp append_assoc

-- what was written, up to a part of what more seeds make, is a beginning
pub begins_more : (o : Sweep) (n first count : ℕ) (written done : List ℕ) (w : Swept) (xs : List Said) → Stands o n written w → w.has_ended ≡ false → first ≡ o.storm.seed + n
    → AreSaid o first xs → length xs ≤ count → IsBeginning done (fold (after_said o) w xs).text → Begins o (n + count) (written ++ done)
begins_more o n first count written done w xs s going place said few b =
    let before : length s.saids ≡ n = number_of o n written w s going in
    let last = last_line (fold (after_said o) w xs).ok in
    record {
      saids = s.saids ++ xs;
      said = said_then o o.storm.seed first s.saids xs (omega (arith, place, before)) s.said said;
      few = omega (arith, length-append s.saids xs, before, few);
      begins = (
        b.0 ++ last,
        ap (λ (v : Swept). whole_text v) (swept_more o n written w s xs)
            ∙ ap (λ (t : List ℕ). (written ++ t) ++ last) b.1 ∙ regroup written done b.0 last,
      );
    }

-- fewer seeds are some of more
pub begins_few : (o : Sweep) (n m : ℕ) (done : List ℕ) → n ≤ m → Begins o n done → Begins o m done
begins_few o n m done le b = record { saids = b.saids; said = b.said; few = let few = b.few in omega arith; begins = b.begins }

-- ---- the first seed and the last line

pub stands_first : (o : Sweep) → Stands o 0 [] none_said
stands_first o = record { saids = []; said = tt; few = omega arith; all = inl refl; told = refl }

-- the lines of a sweep, and the last
pub whole_lines : (o : Sweep) (n : ℕ) (written : List ℕ) (w : Swept) (s : Stands o n written w) → written ++ whole_text w ≡ whole_text (swept o s.saids)
whole_lines o n written w s = sym (append_assoc written w.text (last_line w.ok)) ∙ ap whole_text (sym s.told)

pub ends_all : (o : Sweep) (n : ℕ) (written : List ℕ) (w : Swept) (s : Stands o n written w) → (length s.saids ≡ n) ⊎ ((swept o s.saids).has_ended ≡ true)
ends_all o n written w s = of s.all
  where
    of : (length s.saids ≡ n) ⊎ (w.has_ended ≡ true) → (length s.saids ≡ n) ⊎ ((swept o s.saids).has_ended ≡ true)
    of (inl e) = inl e
    of (inr e) = inr (ap (λ (v : Swept). v.has_ended) s.told ∙ e)
