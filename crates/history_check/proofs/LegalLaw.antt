-- No flaw at a submission or an entry: the trace is numbered and the history legal.
use Rattle.std.proofs.Common.{◌≡◌, ℕ, zero, suc, ◌<◌, Bool, true, false, List, [], ◌∷◌, length, take, Option, Some, None, refl, sym, ap, subst, ◌∙◌, inl, inr, arith}
use Rattle.std.specs.Prelude.{slice_get, ◌&&◌, not, is_some, is_none, if◌then◌else◌, option_and_then}
use Rattle.std.proofs.lemmas.Bool.{cases_Bool, cases_eq, ne_eqb}
use Rattle.std.proofs.lemmas.List.{take_all}
use Rattle.std.proofs.lemmas.Option.{slice_get_within, same_Some}
use Rattle.tlp_core.specs.Ops.{Op}
use Rattle.tlp_core.specs.Operation.{is_posted}
use Rattle.seq_memory.specs.Entries.{Entry}
use Rattle.history_words.specs.Records.{Record}
use Rattle.history_words.specs.declared.record.RecordOf.TheVariants as records
use Rattle.history_words.specs.declared.flaws.FlawKind.{FlawKind}
use Rattle.history_words.specs.declared.flaws.FlawKind.TheVariants as flaws
use Rattle.history_words.specs.Trace.{submissions, IsNumbered, stands, is_request, IsLawful, IsLegal}
use Rattle.history_words.specs.Flaws.{some_and, at_place, first_at, any_below, numbering_at, numbering_flaw, entry_at, entry_flaw, is_stranger, misses, submits, submits_write, same_op, sub_place, place_of}
use Rattle.history_check.proofs.Firsts.{first_at-below, any_below-all, any_below-one}
use Rattle.history_check.proofs.Linked.{op_in, op_at, linked_all, number_passes}
use Rattle.history_check.proofs.Lists.{clash, first_is_any}
use Rattle.history_check.proofs.Same.{op_same, op_refl}

-- ---- no flaw at any place

pub first_at-all : (f : ℕ → Option FlawKind) (n : ℕ) → ((i : ℕ) → i < n → f i ≡ None) → first_at f n ≡ None
unfolding first_at
first_at-all f zero h = refl
first_at-all f (suc n) h = rw (first_at-all f n (λ i l. h i (omega arith)), h n (omega arith)) refl

-- no flaw at a place of a list
pub on_list : {X : Type 0} → (xs : List X) (n : ℕ) (flaw : X → Option FlawKind) → ((x : X) → slice_get xs n ≡ Some x → flaw x ≡ None) → option_and_then flaw (slice_get xs n) ≡ None
on_list [] n flaw h = refl
on_list (x ∷ xs) zero flaw h = h x refl
on_list (x ∷ xs) (suc n) flaw h = on_list xs n flaw h

-- ---- numbers

number_is : (before : List Record) (i k n : ℕ) (op : Op) → numbering_flaw before (records.Sub i k op n) ≡ None → k ≡ length (submissions before i)
number_is before i k n op e = elim (cases_eq k (length (submissions before i))) [
  | inl same ↦ same
  | inr other ↦ absurd (let f : numbering_flaw before (records.Sub i k op n) ≡ Some flaws.Numbering = rw (ne_eqb k (length (submissions before i)) other) refl in let c : Some flaws.Numbering ≡ None = sym f ∙ e in cc)
]

pub numbered_from : (rs : List Record) → first_at (numbering_at rs) (length rs) ≡ None → IsNumbered rs
unfolding numbering_at
numbered_from rs e = λ a i k n op at.
    number_is (take a rs) i k n op
    (sym (ap (λ (o : Option Record). option_and_then (numbering_flaw (take a rs)) o) at)
    ∙ first_at-below (numbering_at rs) (length rs) e a (slice_get_within rs a (records.Sub i k op n) at))

pub numbered_to : (rs : List Record) → IsNumbered rs → first_at (numbering_at rs) (length rs) ≡ None
unfolding numbering_at
numbered_to rs numbered =
    first_at-all (numbering_at rs) (length rs) (λ a l. on_list rs a (numbering_flaw (take a rs)) (λ r at. rw (number_passes rs a r numbered at) refl))

abbrev pub Linked : List Record → Type 0
Linked rs = (i k : ℕ) → slice_get (submissions rs i) k ≡ op_at rs (sub_place rs i k)

pub linked : (rs : List Record) → IsNumbered rs → Linked rs
linked rs numbered = subst (λ (xs : List Record). Linked xs) (take_all (length rs) rs (omega arith)) (linked_all rs (length rs) numbered (omega arith))

-- ---- submissions by look-up

submits_by : (op : Op) (o : Option Record) → some_and o (submits op) ≡ true → option_and_then op_in o ≡ Some op
submits_by op None e = cc
submits_by op (Some (records.Sub i k other n)) e = ap Some (sym (op_same op other e))
submits_by op (Some (records.Ans i k reply n)) e = cc

submits_to : (op : Op) (o : Option Record) → option_and_then op_in o ≡ Some op → some_and o (submits op) ≡ true
submits_to op None e = cc
submits_to op (Some (records.Sub i k other n)) e = ap (same_op op) (same_Some other op e) ∙ op_refl op
submits_to op (Some (records.Ans i k reply n)) e = cc

found_by : (rs : List Record) (op : Op) (o : Option ℕ) → some_and o (at_place (submits op) rs) ≡ true → op_at rs o ≡ Some op
found_by rs op None e = cc
found_by rs op (Some b) e = submits_by op (slice_get rs b) e

found_to : (rs : List Record) (op : Op) (o : Option ℕ) → op_at rs o ≡ Some op → some_and o (at_place (submits op) rs) ≡ true
found_to rs op None e = cc
found_to rs op (Some b) e = submits_to op (slice_get rs b) e

write_to : (op : Op) (o : Option Record) → option_and_then op_in o ≡ Some op → is_posted op ≡ true → some_and o submits_write ≡ true
write_to op None e posted = cc
write_to op (Some (records.Sub i k other n)) e posted = ap is_posted (same_Some other op e) ∙ posted
write_to op (Some (records.Ans i k reply n)) e posted = cc

write_found : (rs : List Record) (op : Op) (o : Option ℕ) → op_at rs o ≡ Some op → is_posted op ≡ true → some_and o (at_place submits_write rs) ≡ true
write_found rs op None e posted = cc
write_found rs op (Some b) e posted = write_to op (slice_get rs b) e posted

record Posted (o : Option Op) : Type 0 where
  op : Op
  is : o ≡ Some op
  posted : is_posted op ≡ true

write_by : (o : Option Record) → some_and o submits_write ≡ true → Posted (option_and_then op_in o)
write_by None e = cc
write_by (Some (records.Sub i k op n)) e = record { op = op; is = refl; posted = e }
write_by (Some (records.Ans i k reply n)) e = cc

write_there : (rs : List Record) (o : Option ℕ) → some_and o (at_place submits_write rs) ≡ true → Posted (op_at rs o)
write_there rs None e = cc
write_there rs (Some b) e = write_by (slice_get rs b) e

-- ---- an entry

three : (a b c : Bool) (x y z : FlawKind) → (if a then Some x else (if b then Some y else (if c then Some z else None))) ≡ None → (a ≡ false) × (b ≡ false) × (c ≡ false)
three true b c x y z e = cc
three false true c x y z e = cc
three false false true x y z e = cc
three false false false x y z e = (refl, refl, refl)

not_false : (b : Bool) → not b ≡ false → b ≡ true
not_false true e = refl
not_false false e = cc

some_unless : (o : Option ℕ) → is_none o ≡ false → is_some o ≡ true
some_unless None e = cc
some_unless (Some p) e = refl

none_unless : (o : Option ℕ) → is_some o ≡ true → is_none o ≡ false
none_unless None e = cc
none_unless (Some p) e = refl

and_right : (a b : Bool) → a ≡ true → (a && b) ≡ false → b ≡ false
and_right true b e h = h
and_right false b e h = cc

missed_not : (rs : List Record) (before : List Entry) (i j : ℕ) (op : Op) → Linked rs → slice_get (submissions rs i) j ≡ Some op → is_posted op ≡ true → misses rs before i j ≡ false → stands before i j ≡ true
unfolding misses
missed_not rs before i j op link at posted e =
    sym (first_is_any (is_request i j) before)
    ∙ some_unless (place_of before i j) (and_right (some_and (sub_place rs i j) (at_place submits_write rs)) (is_none (place_of before i j)) (write_found rs op (sub_place rs i j) (sym (link i j) ∙ at) posted) e)

not_missed : (rs : List Record) (before : List Entry) (i j : ℕ) → Linked rs → ((op : Op) → slice_get (submissions rs i) j ≡ Some op → is_posted op ≡ true → stands before i j ≡ true) → misses rs before i j ≡ false
unfolding misses
not_missed rs before i j link h = elim (cases_Bool (some_and (sub_place rs i j) (at_place submits_write rs))) [
  | inl hit ↦
      let w = write_there rs (sub_place rs i j) hit in
      ap (λ v. v && is_none (place_of before i j)) hit
      ∙ none_unless (place_of before i j) (first_is_any (is_request i j) before ∙ h w.op (link i j ∙ w.is) w.posted)
  | inr miss ↦ ap (λ v. v && is_none (place_of before i j)) miss
]

below_not : (f : ℕ → Bool) (n j : ℕ) → any_below f n ≡ false → j < n → f j ≡ false
below_not f n j e l = elim (cases_Bool (f j)) [
  | inl hit ↦ absurd (clash (any_below-one f n j l hit) e)
  | inr miss ↦ miss
]

lawful_from : (rs : List Record) (before : List Entry) (e : Entry) → Linked rs → entry_flaw rs before e ≡ None → IsLawful (submissions rs) before e
lawful_from rs before e link clean =
    let (known, new, rest) = three (is_stranger rs e) (is_some (place_of before e.requester e.number)) (any_below (misses rs before e.requester) e.number) flaws.Stranger flaws.Twice flaws.Order clean in
    record {
      submitted = link e.requester e.number ∙ found_by rs e.op (sub_place rs e.requester e.number) (not_false (some_and (sub_place rs e.requester e.number) (at_place (submits e.op) rs)) known);
      once = sym (first_is_any (is_request e.requester e.number) before) ∙ new;
      ordered = λ j op l at posted. missed_not rs before e.requester j op link at posted (below_not (misses rs before e.requester) e.number j rest l);
    }

lawful_to : (rs : List Record) (before : List Entry) (e : Entry) → Linked rs → IsLawful (submissions rs) before e → entry_flaw rs before e ≡ None
lawful_to rs before e link law =
    let known : is_stranger rs e ≡ false = ap not (found_to rs e.op (sub_place rs e.requester e.number) (sym (link e.requester e.number) ∙ law.submitted)) in
    let new : is_some (place_of before e.requester e.number) ≡ false = first_is_any (is_request e.requester e.number) before ∙ law.once in
    let rest : any_below (misses rs before e.requester) e.number ≡ false = any_below-all (misses rs before e.requester) e.number (λ j l. not_missed rs before e.requester j link (λ op at posted. law.ordered j op l at posted)) in
    rw (known, new, rest) refl

pub legal_from : (rs : List Record) (h : List Entry) → Linked rs → first_at (entry_at rs h) (length h) ≡ None → IsLegal (submissions rs) h
unfolding entry_at
legal_from rs h link clean = λ p e at.
    lawful_from rs (take p h) e link
    (sym (ap (λ (o : Option Entry). option_and_then (entry_flaw rs (take p h)) o) at) ∙ first_at-below (entry_at rs h) (length h) clean p (slice_get_within h p e at))

pub legal_to : (rs : List Record) (h : List Entry) → Linked rs → IsLegal (submissions rs) h → first_at (entry_at rs h) (length h) ≡ None
unfolding entry_at
legal_to rs h link legal =
    first_at-all (entry_at rs h) (length h) (λ p l. on_list h p (entry_flaw rs (take p h)) (λ e at. lawful_to rs (take p h) e link (legal p e at)))
