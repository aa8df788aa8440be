-- Of numbered records, the k-th submission is that of number k.
use Rattle.std.proofs.Common.{◌≡◌, ℕ, zero, suc, ◌≤◌, Bool, true, false, cond, List, [], ◌∷◌, ◌++◌, length, take, Option, Some, None, refl, sym, ap, subst, ◌∙◌, inl, inr, arith, add-one}
use Rattle.std.specs.Prelude.{slice_get, ◌==◌, ◌&&◌, filter_map, option_and_then}
use Rattle.std.specs.Option.{option_or}
use Rattle.std.proofs.lemmas.Bool.{cases_eq, eqb-true, eq-eqb, ne_eqb}
use Rattle.std.proofs.lemmas.Option.{slice_get_past}
use Rattle.std.proofs.lemmas.List.{append-nil}
use Rattle.std.proofs.lemmas.List.Elements.{filter_map-append}
use Rattle.tlp_core.specs.Ops.{Op}
use Rattle.seq_memory.specs.Entries.{Reply}
use Rattle.history_words.specs.Records.{Record}
use Rattle.history_words.specs.declared.record.RecordOf.TheVariants as records
use Rattle.history_words.specs.Trace.{submission, submissions, IsNumbered}
use Rattle.history_words.specs.Flaws.{sub_place, is_sub, is_numbered, some_and}
use Rattle.history_check.proofs.Firsts.{first_place-push, slice_get-push, or_none}
use Rattle.history_check.proofs.Entries.{passes, present}
use Rattle.history_check.proofs.Floors.{next_record}
use Rattle.history_check.proofs.Parts.{there}

abbrev pub op_in : Record → Option Op
op_in (records.Sub i k op n) = Some op
op_in (records.Ans i k reply n) = None

-- the operation of the record at the place
abbrev pub op_at : List Record → Option ℕ → Option Op
op_at rs o = option_and_then (λ b. option_and_then op_in (slice_get rs b)) o

has_op : (i k : ℕ) (r : Record) → is_sub i k r ≡ true → (op : Op) × (op_in r ≡ Some op)
has_op i k (records.Sub j m op n) e = (op, refl)
has_op i k (records.Ans j m reply n) e = cc

grow : (xs : List Record) (r : Record) (b : ℕ) (x : Record) → slice_get xs b ≡ Some x → slice_get (xs ++ r ∷ []) b ≡ Some x
grow xs r b x at = slice_get-push xs r b ∙ ap (λ (o : Option Record). option_or o (cond (b == length xs) (Some r) None)) at

last_op : (xs : List Record) (r : Record) → op_at (xs ++ r ∷ []) (Some (length xs)) ≡ op_in r
last_op xs r =
    ap (λ (o : Option Record). option_and_then op_in o)
    (slice_get-push xs r (length xs)
    ∙ ap (λ (o : Option Record). option_or o (cond (length xs == length xs) (Some r) None)) (slice_get_past xs (length xs) (omega arith))
    ∙ ap (λ t. cond t (Some r) None) (eq-eqb (length xs) (length xs) refl))

subs_same : (xs : List Record) (i k : ℕ) (op : Op) (n : ℕ) → submissions (xs ++ records.Sub i k op n ∷ []) i ≡ submissions xs i ++ op ∷ []
subs_same xs i k op n =
    let one : filter_map (submission i) (records.Sub i k op n ∷ []) ≡ op ∷ [] = rw (eq-eqb i i refl) refl in
    filter_map-append (submission i) xs (records.Sub i k op n ∷ []) ∙ ap (λ (ys : List Op). submissions xs i ++ ys) one

subs_other : (xs : List Record) (i j k : ℕ) (op : Op) (n : ℕ) → (i ≡ j → ⊥) → submissions (xs ++ records.Sub j k op n ∷ []) i ≡ submissions xs i
subs_other xs i j k op n d =
    let none : filter_map (submission i) (records.Sub j k op n ∷ []) ≡ [] = rw (ne_eqb i j d) refl in
    filter_map-append (submission i) xs (records.Sub j k op n ∷ []) ∙ ap (λ (ys : List Op). submissions xs i ++ ys) none ∙ append-nil (submissions xs i)

-- where it stood before, it stands still
old_op : (xs : List Record) (r : Record) (i k b : ℕ) (q : Option Op) → sub_place xs i k ≡ Some b → option_or (op_at xs (Some b)) q ≡ op_at (xs ++ r ∷ []) (Some b)
old_op xs r i k b q s =
    let (x, at) = present (slice_get xs b) (is_sub i k) (passes (is_sub i k) xs b s) in
    let it : is_sub i k x ≡ true = sym (ap (λ (o : Option Record). some_and o (is_sub i k)) at) ∙ passes (is_sub i k) xs b s in
    let (op, is) = has_op i k x it in
    ap (λ (o : Option Record). option_or (option_and_then op_in o) q) at ∙ ap (λ (o : Option Op). option_or o q) is ∙ sym is ∙ sym (ap (λ (o : Option Record). option_and_then op_in o) (grow xs r b x at))

by_place : (xs : List Record) (i j k m : ℕ) (op : Op) (n : ℕ) (t : Bool) (o : Option ℕ) → sub_place xs i k ≡ o → option_or (op_at xs o) (cond t (Some op) None) ≡ op_at (xs ++ records.Sub j m op n ∷ []) (option_or o (cond t (Some (length xs)) None))
by_place xs i j k m op n true None s = sym (last_op xs (records.Sub j m op n))
by_place xs i j k m op n false None s = refl
by_place xs i j k m op n t (Some b) s = old_op xs (records.Sub j m op n) i k b (cond t (Some op) None) s

abbrev Linked : List Record → Type 0
Linked xs = (i k : ℕ) → slice_get (submissions xs i) k ≡ op_at xs (sub_place xs i k)

pub linked_sub : (xs : List Record) (j m : ℕ) (op : Op) (n : ℕ) → m ≡ length (submissions xs j) → Linked xs → Linked (xs ++ records.Sub j m op n ∷ [])
linked_sub xs j m op n e before = λ i k.
    let step = by_place xs i j k m op n (is_sub i k (records.Sub j m op n)) (sub_place xs i k) refl in
    let place = ap (op_at (xs ++ records.Sub j m op n ∷ [])) (sym (first_place-push (is_sub i k) xs (records.Sub j m op n))) in
    elim (cases_eq i j) [
      | inl s ↦
          ap (λ (ys : List Op). slice_get ys k) (ap (submissions (xs ++ records.Sub j m op n ∷ [])) s ∙ subs_same xs j m op n)
          ∙ slice_get-push (submissions xs j) op k
          ∙ ap (λ l. option_or (slice_get (submissions xs j) k) (cond (k == l) (Some op) None)) (sym e)
          ∙ ap (λ (o : Option Op). option_or o (cond (k == m) (Some op) None)) (ap (λ i. slice_get (submissions xs i) k) (sym s) ∙ before i k)
          ∙ ap (λ (t : Bool). option_or (op_at xs (sub_place xs i k)) (cond (t && (k == m)) (Some op) None)) (sym (eq-eqb i j s))
          ∙ step ∙ place
      | inr d ↦
          ap (λ (ys : List Op). slice_get ys k) (subs_other xs i j m op n d)
          ∙ before i k ∙ sym (or_none (op_at xs (sub_place xs i k)))
          ∙ ap (λ (t : Bool). option_or (op_at xs (sub_place xs i k)) (cond (t && (k == m)) (Some op) None)) (sym (ne_eqb i j d))
          ∙ step ∙ place
    ]

ans_place : (xs : List Record) (r : Record) (i k : ℕ) (o : Option ℕ) → sub_place xs i k ≡ o → op_at xs o ≡ op_at (xs ++ r ∷ []) o
ans_place xs r i k None s = refl
ans_place xs r i k (Some b) s = sym (or_none (op_at xs (Some b))) ∙ old_op xs r i k b None s

pub linked_ans : (xs : List Record) (j m : ℕ) (reply : Reply) (n : ℕ) → Linked xs → Linked (xs ++ records.Ans j m reply n ∷ [])
linked_ans xs j m reply n before = λ i k.
    let same : sub_place (xs ++ records.Ans j m reply n ∷ []) i k ≡ sub_place xs i k = first_place-push (is_sub i k) xs (records.Ans j m reply n) ∙ or_none (sub_place xs i k) in
    ap (λ (ys : List Op). slice_get ys k) (filter_map-append (submission i) xs (records.Ans j m reply n ∷ []) ∙ append-nil (submissions xs i))
    ∙ before i k ∙ ans_place xs (records.Ans j m reply n) i k (sub_place xs i k) refl ∙ ap (op_at (xs ++ records.Ans j m reply n ∷ [])) (sym same)

linked_next : (xs : List Record) (r : Record) → is_numbered xs r ≡ true → Linked xs → Linked (xs ++ r ∷ [])
linked_next xs (records.Sub j m op n) e before = linked_sub xs j m op n (eqb-true m (length (submissions xs j)) e) before
linked_next xs (records.Ans j m reply n) e before = linked_ans xs j m reply n before

-- a record of a numbered trace passes the test of its number
pub number_passes : (rs : List Record) (n : ℕ) (r : Record) → IsNumbered rs → slice_get rs n ≡ Some r → is_numbered (take n rs) r ≡ true
number_passes rs n (records.Sub i k op m) numbered at = eq-eqb k (length (submissions (take n rs) i)) (numbered n i k m op at)
number_passes rs n (records.Ans i k reply m) numbered at = refl

pub linked_all : (rs : List Record) (n : ℕ) → IsNumbered rs → n ≤ length rs → Linked (take n rs)
linked_all rs zero numbered l = λ i k. refl
linked_all rs (suc n) numbered l =
    let (r, at) = there rs n (omega arith) in
    let grown : take (suc n) rs ≡ take n rs ++ r ∷ [] = ap (λ m. take m rs) (sym (add-one n)) ∙ next_record rs n r at in
    subst (λ (xs : List Record). Linked xs) (sym grown) (linked_next (take n rs) r (number_passes rs n r numbered at) (linked_all rs n numbered (omega arith)))
