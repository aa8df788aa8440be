-- The pieces of a request by blocks of 128 bytes are the request.
use Rattle.std.proofs.Common.{◌≡◌, ◌∙◌, ℕ, zero, suc, ◌+◌, ◌-◌, ◌*◌, ◌/◌, ◌%◌, ◌<◌, ◌≤◌, ◌++◌, ◌∷◌, [], List, Some, None, Option, Bool, true, false, cond, length, take, drop, map, refl, sym, ap, subst, inl, inr, arith, length-drop}
use Rattle.std.specs.Prelude.{nat_le, nat_lt, ◌&&◌, ◌||◌, ◌==◌, not, is_none, is_some}
use Rattle.std.specs.List.{list_all}
use Rattle.std.proofs.lemmas.Bool.{cases_Bool}
use Rattle.std.proofs.lemmas.Bool.Decides.{nat_tests}
use Rattle.std.proofs.lemmas.List.{append-nil, take-append-drop, length-take-le}
use Rattle.arrayvec.specs.ArrayVec.{ArrayVec}
use Rattle.tlp_core.specs.Ops.{Op}
use Rattle.tlp_core.specs.declared.operation.OpOf.TheVariants as ops
use Rattle.tlp_core.specs.declared.operation.Width.{Width}
use Rattle.tlp_core.specs.declared.operation.Width.TheVariants as widths
use Rattle.tlp_core.specs.declared.fault.TlpFault.{TlpFault}
use Rattle.tlp_core.specs.declared.fault.TlpFault.TheVariants as faults
use Rattle.tlp_core.specs.Enables.{enables, are_enables}
use Rattle.tlp_core.specs.Operation.{address_of, count_of, size_of, op_fault, wrong_length, wrong_enables, wrong_operand, wrong_address}
use Rattle.seq_memory.specs.Entries.{Reply}
use Rattle.seq_memory.specs.Limits.{Extent}
use Rattle.seq_memory.specs.Step.{refusal, is_in_block, is_inside, answer}
use Rattle.op_pieces.specs.Pieces.{inner, rest_first, rest_last, front, back, dw_of, dw_to, cut, is_served, AreAdjacent, enables_of, all_enables, bytes_of, all_bytes, is_in_one_block, begins_a_block, is_faultless, returned}
use Rattle.op_pieces.proofs.Effects.{enables_split}
use Rattle.op_pieces.proofs.Runs.{front_rule, back_rule}
use Rattle.op_pieces.proofs.PieceLemmas.{lies, answer_served, seen, seen_in_two, none_is, none_refused}

-- ---- an operation without a fault

not_this : (a : Bool) (fault : TlpFault) (o : Option TlpFault) → cond a (Some fault) o ≡ None → (a ≡ false) × (o ≡ None)
not_this true fault o e = absurd (cc e)
not_this false fault o e = (refl, e)

clear : (a : Bool) (fault : TlpFault) (o : Option TlpFault) → a ≡ false → o ≡ None → cond a (Some fault) o ≡ None
clear true fault o h e = absurd (cc h)
clear false fault o h e = e

none_wrong : (a b c d : Bool) → a ≡ false → b ≡ false → c ≡ false → d ≡ false → cond a (Some faults.LengthMismatch) (cond b (Some faults.ByteEnables) (cond c (Some faults.OperandSize) (cond d (Some faults.Unaligned) None))) ≡ None
none_wrong a b c d p q r s = clear a faults.LengthMismatch _ p (clear b faults.ByteEnables _ q (clear c faults.OperandSize _ r (clear d faults.Unaligned None s refl)))

all_wrong : (a b c d : Bool) → cond a (Some faults.LengthMismatch) (cond b (Some faults.ByteEnables) (cond c (Some faults.OperandSize) (cond d (Some faults.Unaligned) None))) ≡ None → (a ≡ false) × ((b ≡ false) × ((c ≡ false) × (d ≡ false)))
all_wrong false false false false h = (refl, (refl, (refl, refl)))
all_wrong true b c d h = absurd (cc h)
all_wrong false true c d h = absurd (cc h)
all_wrong false false true d h = absurd (cc h)
all_wrong false false false true h = absurd (cc h)

-- a read or a write of so many DW
record Sound (dw a f l : ℕ) : Type 0 where
  some : 1 ≤ dw
  first : nat_lt 15 f ≡ false
  last : nat_lt 15 l ≡ false
  rule : are_enables dw a f l ≡ true
  whole : a % 4 ≡ 0

three : (a b c : Bool) → (a || b || not c) ≡ false → (a ≡ false) × ((b ≡ false) × (c ≡ true))
three false false true h = (refl, (refl, refl))
three true b c h = absurd (cc h)
three false true c h = absurd (cc h)
three false false false h = absurd (cc h)

right : (a b c : Bool) → a ≡ false → b ≡ false → c ≡ true → (a || b || not c) ≡ false
right a b c p q r = rw (p, q, r) refl

is_multiple : (a : ℕ) → not (a % 4 == 0) ≡ false → a % 4 ≡ 0
is_multiple a h = grind (arith, nat_tests)

multiple_is : (a : ℕ) → a % 4 ≡ 0 → not (a % 4 == 0) ≡ false
multiple_is a h = grind (arith, nat_tests)

some_dw : (dw : ℕ) → ((dw == 0) || nat_lt 1024 dw) ≡ false → (1 ≤ dw) × (dw ≤ 1024)
some_dw dw h = grind (arith, nat_tests)

few_dw : (dw : ℕ) → 1 ≤ dw → dw ≤ 1024 → ((dw == 0) || nat_lt 1024 dw) ≡ false
few_dw dw some few = grind (arith, nat_tests)

some_bytes : (n : ℕ) → ((n == 0) || not (n % 4 == 0)) ≡ false → (1 ≤ n) × (n % 4 ≡ 0)
some_bytes n h = grind (arith, nat_tests)

whole_bytes : (n : ℕ) → 1 ≤ n → n % 4 ≡ 0 → ((n == 0) || not (n % 4 == 0)) ≡ false
whole_bytes n some h = grind (arith, nat_tests)

read_is_sound : (a dw f l : ℕ) → op_fault (ops.Read a dw f l) ≡ None → Sound dw a f l × (dw ≤ 1024)
read_is_sound a dw f l h =
    let w = all_wrong (wrong_length (ops.Read a dw f l)) (wrong_enables (ops.Read a dw f l)) false (wrong_address (ops.Read a dw f l)) h in
    let few = some_dw dw w.0 in
    let t = three (nat_lt 15 f) (nat_lt 15 l) (are_enables dw a f l) w.1.0 in
    (record { some = few.0; first = t.0; last = t.1.0; rule = t.1.1; whole = is_multiple a w.1.1.1 }, few.1)

sound_read : (a dw f l : ℕ) → Sound dw a f l → dw ≤ 1024 → op_fault (ops.Read a dw f l) ≡ None
sound_read a dw f l s few =
    none_wrong (wrong_length (ops.Read a dw f l)) (wrong_enables (ops.Read a dw f l)) false (wrong_address (ops.Read a dw f l))
    (few_dw dw s.some few) (right (nat_lt 15 f) (nat_lt 15 l) (are_enables dw a f l) s.first s.last s.rule) refl (multiple_is a s.whole)

write_is_sound : (a f l : ℕ) (bytes : ArrayVec ℕ) → op_fault (ops.Write a f l bytes) ≡ None → Sound (length bytes.items / 4) a f l × (4 * (length bytes.items / 4) ≡ length bytes.items)
write_is_sound a f l bytes h =
    let op = ops.Write a f l bytes in
    let w = all_wrong (wrong_length op) (wrong_enables op) false (wrong_address op) h in
    let some = some_bytes (length bytes.items) w.0 in
    let t = three (nat_lt 15 f) (nat_lt 15 l) (are_enables (length bytes.items / 4) a f l) w.1.0 in
    (record { some = omega (arith, some.0, some.1); first = t.0; last = t.1.0; rule = t.1.1; whole = is_multiple a w.1.1.1 }, omega (arith, some.1))

sound_write : (a f l : ℕ) (bytes : ArrayVec ℕ) → Sound (length bytes.items / 4) a f l → 4 * (length bytes.items / 4) ≡ length bytes.items → op_fault (ops.Write a f l bytes) ≡ None
sound_write a f l bytes s e =
    let op = ops.Write a f l bytes in
    none_wrong (wrong_length op) (wrong_enables op) false (wrong_address op)
    (whole_bytes (length bytes.items) (omega (arith, s.some)) (omega (arith, e))) (right (nat_lt 15 f) (nat_lt 15 l) (are_enables (length bytes.items / 4) a f l) s.first s.last s.rule) refl (multiple_is a s.whole)

to_next : (a d : ℕ) → a % 4 ≡ 0 → d ≡ dw_to 128 a → (1 ≤ d) × (4 * d ≡ 128 - a % 128)
to_next a d whole e = (omega (arith, whole, e), omega (arith, whole, e))

inner_few : (d : ℕ) → nat_lt 15 (inner d) ≡ false
inner_few d = elim (cases_Bool (d == 1)) [
  | inl e ↦ rw e refl
  | inr e ↦ rw e refl
]

rest_few : (d l : ℕ) → nat_lt 15 l ≡ false → (nat_lt 15 (rest_first d l) ≡ false) × (nat_lt 15 (rest_last d l) ≡ false)
rest_few d l h = elim (cases_Bool (d == 1)) [
  | inl e ↦ (rw e h, rw e refl)
  | inr e ↦ (rw e refl, rw e h)
]

front_sound : (dw a f l d : ℕ) → Sound dw a f l → d ≡ dw_to 128 a → d < dw → Sound d a f (inner d)
front_sound dw a f l d s e less =
    let some = (to_next a d s.whole e).0 in
    record { some = some; first = s.first; last = inner_few d; rule = front_rule dw a f l d s.whole e less some s.rule; whole = s.whole }

back_sound : (dw a f l d : ℕ) → Sound dw a f l → d ≡ dw_to 128 a → d < dw → Sound (dw - d) (a + 4 * d) (rest_first (dw - d) l) (rest_last (dw - d) l)
back_sound dw a f l d s e less =
    let some = (to_next a d s.whole e).0 in
    let few = rest_few (dw - d) l s.last in
    record { some = omega (arith, less); first = few.0; last = few.1; rule = back_rule dw a f l d s.whole e less some s.rule; whole = omega (arith, s.whole) }

-- ---- what pieces are of an operation

record AreBlocks (op : Op) (xs : List Op) : Type 0 where
  adjacent : AreAdjacent (address_of op) (address_of op + count_of op) xs
  inside : list_all is_in_one_block xs ≡ true
  faultless : list_all is_faultless xs ≡ true
  begun : list_all begins_a_block (drop 1 xs) ≡ true
  all_begun : begins_a_block op ≡ true → list_all begins_a_block xs ≡ true
  enabled : all_enables xs ≡ enables_of op
  carried : all_bytes xs ≡ bytes_of op
  within : (base size : ℕ) → is_inside base size (address_of op) (count_of op) ≡ true → list_all (λ p. is_inside base size (address_of p) (count_of p)) xs ≡ true

and_true : (a b : Bool) → a ≡ true → b ≡ true → (a && b) ≡ true
and_true true true p q = refl
and_true true false p q = absurd (cc q)
and_true false b p q = absurd (cc p)

none_yes : {X : Type 0} → (o : Option X) → o ≡ None → is_none o ≡ true
none_yes None e = refl
none_yes (Some x) e = absurd (cc e)

alone : (op : Op) → is_in_one_block op ≡ true → op_fault op ≡ None → AreBlocks op (op ∷ [])
alone op one none = record {
  adjacent = (refl, refl);
  inside = and_true (is_in_one_block op) true one refl;
  faultless = and_true (is_faultless op) true (none_yes (op_fault op) none) refl;
  begun = refl;
  all_begun = λ h. and_true (begins_a_block op) true h refl;
  enabled = append-nil (enables_of op);
  carried = append-nil (bytes_of op);
  within = λ base size h. and_true (is_inside base size (address_of op) (count_of op)) true h refl;
}

-- a first part, and the pieces of the other
record Halves (op first rest : Op) : Type 0 where
  one : is_in_one_block first ≡ true
  none : op_fault first ≡ None
  start : address_of first ≡ address_of op
  next : address_of rest ≡ address_of op + count_of first
  stop : address_of rest + count_of rest ≡ address_of op + count_of op
  begins : begins_a_block rest ≡ true
  enabled : enables_of op ≡ enables_of first ++ enables_of rest
  carried : bytes_of op ≡ bytes_of first ++ bytes_of rest

inside_parts : (base size a n b k c j : ℕ) → b ≡ a → c ≡ a + k → c + j ≡ a + n → is_inside base size a n ≡ true → (is_inside base size b k ≡ true) × (is_inside base size c j ≡ true)
inside_parts base size a n b k c j e g i h = (grind (arith, nat_tests), grind (arith, nat_tests))

joined : (op first rest : Op) (xs : List Op) → Halves op first rest → AreBlocks rest xs → AreBlocks op (first ∷ xs)
joined op first rest xs h b = record {
  adjacent = (h.start, subst (λ (n : ℕ). AreAdjacent n (address_of op + count_of op) xs) h.next (subst (λ (n : ℕ). AreAdjacent (address_of rest) n xs) h.stop b.adjacent));
  inside = and_true (is_in_one_block first) (list_all is_in_one_block xs) h.one b.inside;
  faultless = and_true (is_faultless first) (list_all is_faultless xs) (none_yes (op_fault first) h.none) b.faultless;
  begun = b.all_begun h.begins;
  all_begun = λ t. and_true (begins_a_block first) (list_all begins_a_block xs) (ap (λ n. n % 128 == 0) h.start ∙ t) (b.all_begun h.begins);
  enabled = ap (λ v. enables_of first ++ v) b.enabled ∙ sym h.enabled;
  carried = ap (λ v. bytes_of first ++ v) b.carried ∙ sym h.carried;
  within = λ base size t.
      let p = inside_parts base size (address_of op) (count_of op) (address_of first) (count_of first) (address_of rest) (count_of rest) h.start h.next h.stop t in
      and_true (is_inside base size (address_of first) (count_of first)) (list_all (λ q. is_inside base size (address_of q) (count_of q)) xs) p.0 (b.within base size p.1);
}

-- one step of a cut
cut_cases : {P : Type 0} → (n : ℕ) (op : Op) → (dw_of op ≤ dw_to 128 (address_of op) → cut 128 (suc n) op ≡ op ∷ [] → P)
    → ((d : ℕ) → d ≡ dw_to 128 (address_of op) → d < dw_of op → cut 128 (suc n) op ≡ front d op ∷ cut 128 n (back d op) → P) → P
unfolding cut
cut_cases n op one more = elim (cases_Bool (nat_le (dw_of op) (dw_to 128 (address_of op)))) [
  | inl fits ↦ one (grind (arith, nat_tests)) (rw fits refl)
  | inr past ↦ more (dw_to 128 (address_of op)) refl (grind (arith, nat_tests)) (rw past refl)
]

cut_last : (op : Op) → cut 128 0 op ≡ op ∷ []
unfolding cut
cut_last op = refl

one_block : (a dw : ℕ) → 1 ≤ dw → a % 4 ≡ 0 → dw ≤ dw_to 128 a → is_in_block 128 a (4 * dw) ≡ true
one_block a dw some whole fits = grind (arith, nat_tests)

begins : (a d : ℕ) → a % 4 ≡ 0 → d ≡ dw_to 128 a → ((a + 4 * d) % 128 == 0) ≡ true
begins a d whole e = grind (arith, nat_tests)

least : (a : ℕ) → a % 4 ≡ 0 → 1 ≤ dw_to 128 a
least a whole = omega (arith, whole)

reads : (n a dw f l : ℕ) → dw ≤ suc n → Sound dw a f l → dw ≤ 1024 → AreBlocks (ops.Read a dw f l) (cut 128 n (ops.Read a dw f l))
reads zero a dw f l long s few =
    subst (λ (xs : List Op). AreBlocks (ops.Read a dw f l) xs) (sym (cut_last (ops.Read a dw f l)))
    (alone (ops.Read a dw f l) (one_block a dw s.some s.whole (omega (arith, long, least a s.whole))) (sound_read a dw f l s few))
reads (suc n) a dw f l long s few = cut_cases {P = AreBlocks (ops.Read a dw f l) (cut 128 (suc n) (ops.Read a dw f l))} n (ops.Read a dw f l)
    (λ fits is. subst (λ (xs : List Op). AreBlocks (ops.Read a dw f l) xs) (sym is) (alone (ops.Read a dw f l) (one_block a dw s.some s.whole fits) (sound_read a dw f l s few)))
    (λ d e less is.
    let first = ops.Read a d f (inner d) in
    let rest = ops.Read (a + 4 * d) (dw - d) (rest_first (dw - d) l) (rest_last (dw - d) l) in
    let some = (to_next a d s.whole e).0 in
    let sum : d + (dw - d) ≡ dw = omega (arith, less) in
    let fs = front_sound dw a f l d s e less in
    let halves : Halves (ops.Read a dw f l) first rest = record {
      one = one_block a d some s.whole (omega (arith, e));
      none = sound_read a d f (inner d) fs (omega (arith, less, few));
      start = refl;
      next = refl;
      stop = omega (arith, less);
      begins = begins a d s.whole e;
      enabled = ap (λ v. enables v f l) (sym sum) ∙ enables_split d (dw - d) f l some (omega (arith, less));
      carried = refl;
    } in
    subst (λ (xs : List Op). AreBlocks (ops.Read a dw f l) xs) (sym is)
    (joined (ops.Read a dw f l) first rest (cut 128 n rest) halves
    (reads n (a + 4 * d) (dw - d) (rest_first (dw - d) l) (rest_last (dw - d) l) (omega (arith, long, some)) (back_sound dw a f l d s e less) (omega (arith, few)))))

writes : (n a f l : ℕ) (bytes : ArrayVec ℕ) → length bytes.items / 4 ≤ suc n → Sound (length bytes.items / 4) a f l → 4 * (length bytes.items / 4) ≡ length bytes.items
    → AreBlocks (ops.Write a f l bytes) (cut 128 n (ops.Write a f l bytes))
writes zero a f l bytes long s all =
    let op = ops.Write a f l bytes in
    subst (λ (xs : List Op). AreBlocks op xs) (sym (cut_last op))
    (alone op (ap (is_in_block 128 a) (sym all) ∙ one_block a (length bytes.items / 4) s.some s.whole (omega (arith, long, least a s.whole))) (sound_write a f l bytes s all))
writes (suc n) a f l bytes long s all = cut_cases {P = AreBlocks (ops.Write a f l bytes) (cut 128 (suc n) (ops.Write a f l bytes))} n (ops.Write a f l bytes)
    (λ fits is. subst (λ (xs : List Op). AreBlocks (ops.Write a f l bytes) xs) (sym is)
    (alone (ops.Write a f l bytes) (ap (is_in_block 128 a) (sym all) ∙ one_block a (length bytes.items / 4) s.some s.whole fits) (sound_write a f l bytes s all)))
    (λ d e less is.
    let op = ops.Write a f l bytes in
    let dw = length bytes.items / 4 in
    let xs = take (4 * d) bytes.items in
    let ws = drop (4 * d) bytes.items in
    let first = ops.Write a f (inner d) (record { items = xs }) in
    let rest = ops.Write (a + 4 * d) (rest_first (dw - d) l) (rest_last (dw - d) l) (record { items = ws }) in
    let some = (to_next a d s.whole e).0 in
    let sum : d + (dw - d) ≡ dw = omega (arith, less) in
    let long_xs : length xs ≡ 4 * d = length-take-le (4 * d) bytes.items (omega (arith, less, all)) in
    let long_ws : length ws ≡ length bytes.items - 4 * d = length-drop (4 * d) bytes.items in
    let dw_xs : length xs / 4 ≡ d = omega (arith, long_xs) in
    let dw_ws : length ws / 4 ≡ dw - d = omega (arith, long_ws, all, less) in
    let fs = subst (λ (v : ℕ). Sound v a f (inner d)) (sym dw_xs) (front_sound dw a f l d s e less) in
    let bs = subst (λ (v : ℕ). Sound v (a + 4 * d) (rest_first (dw - d) l) (rest_last (dw - d) l)) (sym dw_ws) (back_sound dw a f l d s e less) in
    let halves : Halves op first rest = record {
      one = ap (is_in_block 128 a) long_xs ∙ one_block a d some s.whole (omega (arith, e));
      none = sound_write a f (inner d) (record { items = xs }) fs (omega (arith, dw_xs, long_xs));
      start = refl;
      next = omega (arith, long_xs);
      stop = omega (arith, long_ws, less, all);
      begins = begins a d s.whole e;
      enabled = ap (λ v. enables v f l) (sym sum) ∙ enables_split d (dw - d) f l some (omega (arith, less))
          ∙ ap (λ v. enables v f (inner d) ++ enables (dw - d) (rest_first (dw - d) l) (rest_last (dw - d) l)) (sym dw_xs)
          ∙ ap (λ v. enables (length xs / 4) f (inner d) ++ enables v (rest_first (dw - d) l) (rest_last (dw - d) l)) (sym dw_ws);
      carried = sym (take-append-drop (4 * d) bytes.items);
    } in
    subst (λ (ys : List Op). AreBlocks op ys) (sym is)
    (joined op first rest (cut 128 n rest) halves
    (writes n (a + 4 * d) (rest_first (dw - d) l) (rest_last (dw - d) l) (record { items = ws }) (omega (arith, long, some, dw_ws)) bs (omega (arith, dw_ws, long_ws, all, less)))))

-- an AtomicOp is naturally aligned
atomic_block : (a : ℕ) (w : Width) → not (a % size_of w == 0) ≡ false → is_in_block 128 a (size_of w) ≡ true
atomic_block a widths.Four h = grind (arith, nat_tests)
atomic_block a widths.Eight h = grind (arith, nat_tests)
atomic_block a widths.Sixteen h = grind (arith, nat_tests)

blocks : (op : Op) → op_fault op ≡ None → AreBlocks op (cut 128 (dw_of op) op)
blocks (ops.Read a dw f l) h = let s = read_is_sound a dw f l h in reads dw a dw f l (omega arith) s.0 s.1
blocks (ops.Write a f l bytes) h = let s = write_is_sound a f l bytes h in writes (length bytes.items / 4) a f l bytes (omega arith) s.0 s.1
blocks (ops.FetchAdd a w v) h =
    let op = ops.FetchAdd a w v in
    subst (λ (xs : List Op). AreBlocks op xs) (sym (cut_last op)) (alone op (atomic_block a w (all_wrong false false (wrong_operand op) (wrong_address op) h).1.1.1) h)
blocks (ops.Swap a w v) h =
    let op = ops.Swap a w v in
    subst (λ (xs : List Op). AreBlocks op xs) (sym (cut_last op)) (alone op (atomic_block a w (all_wrong false false (wrong_operand op) (wrong_address op) h).1.1.1) h)
blocks (ops.Cas a w v y) h =
    let op = ops.Cas a w v y in
    subst (λ (xs : List Op). AreBlocks op xs) (sym (cut_last op)) (alone op (atomic_block a w (all_wrong false false (wrong_operand op) (wrong_address op) h).1.1.1) h)

-- ---- the law

pub adjacent_blocks : (op : Op) → op_fault op ≡ None → AreAdjacent (address_of op) (address_of op + count_of op) (cut 128 (dw_of op) op)
adjacent_blocks op h = (blocks op h).adjacent

pub inside_blocks : (op : Op) → op_fault op ≡ None → list_all is_in_one_block (cut 128 (dw_of op) op) ≡ true
inside_blocks op h = (blocks op h).inside

pub begun_blocks : (op : Op) → op_fault op ≡ None → list_all begins_a_block (drop 1 (cut 128 (dw_of op) op)) ≡ true
begun_blocks op h = (blocks op h).begun

pub faultless_blocks : (op : Op) → op_fault op ≡ None → list_all is_faultless (cut 128 (dw_of op) op) ≡ true
faultless_blocks op h = (blocks op h).faultless

pub enabled_blocks : (op : Op) → op_fault op ≡ None → all_enables (cut 128 (dw_of op) op) ≡ enables_of op
enabled_blocks op h = (blocks op h).enabled

pub written_blocks : (op : Op) → op_fault op ≡ None → all_bytes (cut 128 (dw_of op) op) ≡ bytes_of op
written_blocks op h = (blocks op h).carried

-- ---- served

both_true : (a b : Bool) → (a && b) ≡ true → (a ≡ true) × (b ≡ true)
both_true true b h = (refl, h)
both_true false b h = absurd (cc)

no_some : {X : Type 0} → (o : Option X) → is_some o ≡ false → o ≡ None
no_some None h = refl
no_some (Some x) h = absurd (cc)

-- the same place and size, in blocks of 128 bytes
abbrev pub by_blocks : Extent → Extent
by_blocks x = record { base = x.base; size = x.size; block = 128 }

served_one : (x : Extent) (op : Op) → is_in_one_block op ≡ true → is_faultless op ≡ true → is_inside x.base x.size (address_of op) (count_of op) ≡ true → is_served (by_blocks x) op ≡ true
served_one x op one none inside =
    let fault : op_fault op ≡ None = none_is (op_fault op) none in
    rw (fault, one, inside) refl

served_all : (x : Extent) (xs : List Op) → list_all is_in_one_block xs ≡ true → list_all is_faultless xs ≡ true
    → list_all (λ p. is_inside x.base x.size (address_of p) (count_of p)) xs ≡ true → list_all (is_served (by_blocks x)) xs ≡ true
served_all x [] one none inside = refl
served_all x (op ∷ xs) one none inside =
    let o = both_true (is_in_one_block op) (list_all is_in_one_block xs) one in
    let f = both_true (is_faultless op) (list_all is_faultless xs) none in
    let i = both_true (is_inside x.base x.size (address_of op) (count_of op)) (list_all (λ p. is_inside x.base x.size (address_of p) (count_of p)) xs) inside in
    and_true (is_served (by_blocks x) op) (list_all (is_served (by_blocks x)) xs) (served_one x op o.0 f.0 i.0) (served_all x xs o.1 f.1 i.1)

sound_if_served : (x : Extent) (op : Op) → is_served x op ≡ true → (op_fault op ≡ None) × (is_inside x.base x.size (address_of op) (count_of op) ≡ true)
sound_if_served x op h =
    let t = none_refused (is_some (op_fault op)) (is_in_block x.block (address_of op) (count_of op)) (is_inside x.base x.size (address_of op) (count_of op)) (none_is (refusal x.base x.size x.block op) h) in
    (no_some (op_fault op) t.0, t.1)

pub served_blocks : (x : Extent) (op : Op) → is_served x op ≡ true → list_all (is_served (record { base = x.base; size = x.size; block = 128 })) (cut 128 (dw_of op) op) ≡ true
served_blocks x op h =
    let s = sound_if_served x op h in
    let b = blocks op s.0 in
    served_all x (cut 128 (dw_of op) op) b.inside b.faultless (b.within x.base x.size s.1)

-- ---- the data of a read

one_seen : (y : Extent) (m : List ℕ) (a dw f l : ℕ) → length m ≡ y.size → is_served y (ops.Read a dw f l) ≡ true
    → returned (answer y.base y.block m (ops.Read a dw f l) ∷ []) ≡ seen dw f l (a - y.base) m
one_seen y m a dw f l long h =
    ap (λ (r : Reply). returned (r ∷ [])) (answer_served y m (ops.Read a dw f l) long (lies y (ops.Read a dw f l) h).none) ∙ append-nil (seen dw f l (a - y.base) m)

more_seen : (y : Extent) (m : List ℕ) (a dw f l : ℕ) (xs : List Op) → length m ≡ y.size → is_served y (ops.Read a dw f l) ≡ true
    → returned (map (answer y.base y.block m) (ops.Read a dw f l ∷ xs)) ≡ seen dw f l (a - y.base) m ++ returned (map (answer y.base y.block m) xs)
more_seen y m a dw f l xs long h =
    ap (λ (r : Reply). returned (r ∷ map (answer y.base y.block m) xs)) (answer_served y m (ops.Read a dw f l) long (lies y (ops.Read a dw f l) h).none)

seen_all : (y : Extent) (m : List ℕ) (n a dw f l : ℕ) → length m ≡ y.size → Sound dw a f l → y.base ≤ a → a + 4 * dw ≤ y.base + y.size
    → list_all (is_served y) (cut 128 n (ops.Read a dw f l)) ≡ true → returned (map (answer y.base y.block m) (cut 128 n (ops.Read a dw f l))) ≡ seen dw f l (a - y.base) m
seen_all y m zero a dw f l long s low high all =
    let is = cut_last (ops.Read a dw f l) in
    let h = both_true (is_served y (ops.Read a dw f l)) true (ap (list_all (is_served y)) (sym is) ∙ all) in
    ap (λ (xs : List Op). returned (map (answer y.base y.block m) xs)) is ∙ one_seen y m a dw f l long h.0
seen_all y m (suc n) a dw f l long s low high all = cut_cases {P = returned (map (answer y.base y.block m) (cut 128 (suc n) (ops.Read a dw f l))) ≡ seen dw f l (a - y.base) m} n (ops.Read a dw f l)
    (λ fits is.
    let h = both_true (is_served y (ops.Read a dw f l)) true (ap (list_all (is_served y)) (sym is) ∙ all) in
    ap (λ (xs : List Op). returned (map (answer y.base y.block m) xs)) is ∙ one_seen y m a dw f l long h.0)
    (λ d e less is.
    let first = ops.Read a d f (inner d) in
    let rest = ops.Read (a + 4 * d) (dw - d) (rest_first (dw - d) l) (rest_last (dw - d) l) in
    let h = both_true (is_served y first) (list_all (is_served y) (cut 128 n rest)) (ap (list_all (is_served y)) (sym is) ∙ all) in
    let some = (to_next a d s.whole e).0 in
    let sum : d + (dw - d) ≡ dw = omega (arith, less) in
    let next : a + 4 * d - y.base ≡ a - y.base + 4 * d = omega (arith, low) in
    ap (λ (xs : List Op). returned (map (answer y.base y.block m) xs)) is
    ∙ more_seen y m a d f (inner d) (cut 128 n rest) long h.0
    ∙ ap (λ v. seen d f (inner d) (a - y.base) m ++ v)
    (seen_all y m n (a + 4 * d) (dw - d) (rest_first (dw - d) l) (rest_last (dw - d) l) long (back_sound dw a f l d s e less) (omega (arith, low)) (omega (arith, high, sum)) h.1
    ∙ ap (λ v. seen (dw - d) (rest_first (dw - d) l) (rest_last (dw - d) l) v m) next)
    ∙ sym (seen_in_two d (dw - d) f l (a - y.base) m some (omega (arith, less)) (omega (arith, long, low, high, sum)))
    ∙ ap (λ v. seen v f l (a - y.base) m) sum)

pub read_blocks : (x : Extent) (m : List ℕ) (a dw f l : ℕ) → length m ≡ x.size → is_served x (ops.Read a dw f l) ≡ true
    → returned (map (answer x.base 128 m) (cut 128 dw (ops.Read a dw f l))) ≡ returned (answer x.base x.block m (ops.Read a dw f l) ∷ [])
read_blocks x m a dw f l long h =
    let lie = lies x (ops.Read a dw f l) h in
    let s = (read_is_sound a dw f l (sound_if_served x (ops.Read a dw f l) h).0).0 in
    seen_all (by_blocks x) m dw a dw f l long s lie.low lie.high (served_blocks x (ops.Read a dw f l) h)
    ∙ sym (one_seen x m a dw f l long h)
