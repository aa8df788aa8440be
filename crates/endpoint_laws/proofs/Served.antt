-- Block requests in the memory, with the addresses of the bus and of the memory.
use Rattle.std.proofs.Common.{◌≡◌, ◌∙◌, ℕ, suc, ◌+◌, ◌-◌, ◌/◌, ◌%◌, ◌≤◌, Bool, true, false, List, [], ◌∷◌, length, Option, Some, None, refl, sym, ap, arith}
use Rattle.std.specs.Prelude.{◌==◌, ◌||◌, ◌&&◌, not, nat_lt, is_none, is_some, slice_get, if◌then◌else◌}
use Rattle.std.specs.List.{list_all}
use Rattle.std.proofs.lemmas.Bool.Decides.{nat_tests}
use Rattle.tlp_core.specs.Ops.{Op}
use Rattle.tlp_core.specs.declared.operation.OpOf.TheVariants as ops
use Rattle.tlp_core.specs.declared.operation.Width.{Width}
use Rattle.tlp_core.specs.declared.operation.Width.TheVariants as widths
use Rattle.tlp_core.specs.Enables.{are_enables}
use Rattle.tlp_core.specs.Operation.{address_of, count_of, size_of, op_fault, is_posted, wrong_length, wrong_enables, wrong_operand, wrong_address}
use Rattle.seq_memory.specs.declared.Refusal.{Refusal}
use Rattle.seq_memory.specs.declared.Refusal.TheVariants as refusals
use Rattle.seq_memory.specs.Step.{refusal, after, after_by, answer, answer_by, bytes_at, patched, place_after, read_back, is_in_block, is_inside}
use Rattle.op_pieces.specs.Pieces.{AreAdjacent, is_faultless, is_in_one_block}
use Rattle.endpoint_log.specs.Steps.{moved}

pub record IsBlock (b : Op) : Type 0 where
  pub sound : op_fault b ≡ None
  pub one : is_in_block 128 (address_of b) (count_of b) ≡ true

-- its bytes lie in a memory
pub record IsPlace (base size : ℕ) (b : Op) : Type 0 where
  pub low : base ≤ address_of b
  pub high : address_of b + count_of b ≤ base + size

-- ---- the same place, from the memory's first byte on

pub address_moved : (base : ℕ) (op : Op) → address_of (moved base op) ≡ address_of op - base
address_moved base (ops.Read a dw f l) = refl
address_moved base (ops.Write a f l bytes) = refl
address_moved base (ops.FetchAdd a w x) = refl
address_moved base (ops.Swap a w x) = refl
address_moved base (ops.Cas a w x y) = refl

pub count_moved : (base : ℕ) (op : Op) → count_of (moved base op) ≡ count_of op
count_moved base (ops.Read a dw f l) = refl
count_moved base (ops.Write a f l bytes) = refl
count_moved base (ops.FetchAdd a w x) = refl
count_moved base (ops.Swap a w x) = refl
count_moved base (ops.Cas a w x y) = refl

pub posted_moved : (base : ℕ) (op : Op) → is_posted (moved base op) ≡ is_posted op
posted_moved base (ops.Read a dw f l) = refl
posted_moved base (ops.Write a f l bytes) = refl
posted_moved base (ops.FetchAdd a w x) = refl
posted_moved base (ops.Swap a w x) = refl
posted_moved base (ops.Cas a w x y) = refl

place_moved : (base : ℕ) (op : Op) (old : List ℕ) → place_after (moved base op) old ≡ place_after op old
place_moved base (ops.Read a dw f l) old = refl
place_moved base (ops.Write a f l bytes) old = refl
place_moved base (ops.FetchAdd a w x) old = refl
place_moved base (ops.Swap a w x) old = refl
place_moved base (ops.Cas a w x y) old = refl

read_moved : (base : ℕ) (op : Op) (old : List ℕ) → read_back (moved base op) old ≡ read_back op old
read_moved base (ops.Read a dw f l) old = refl
read_moved base (ops.Write a f l bytes) old = refl
read_moved base (ops.FetchAdd a w x) old = refl
read_moved base (ops.Swap a w x) old = refl
read_moved base (ops.Cas a w x y) old = refl

by_4 : (base a : ℕ) → base % 128 ≡ 0 → base ≤ a → (a - base) % 4 ≡ a % 4
by_4 base a h l = omega (arith, h, l)

by_8 : (base a : ℕ) → base % 128 ≡ 0 → base ≤ a → (a - base) % 8 ≡ a % 8
by_8 base a h l = omega (arith, h, l)

by_16 : (base a : ℕ) → base % 128 ≡ 0 → base ≤ a → (a - base) % 16 ≡ a % 16
by_16 base a h l = omega (arith, h, l)

by_width : (base a : ℕ) (w : Width) → base % 128 ≡ 0 → base ≤ a → (a - base) % size_of w ≡ a % size_of w
by_width base a widths.Four h l = by_4 base a h l
by_width base a widths.Eight h l = by_8 base a h l
by_width base a widths.Sixteen h l = by_16 base a h l

length_same : (base : ℕ) (op : Op) → wrong_length (moved base op) ≡ wrong_length op
length_same base (ops.Read a dw f l) = refl
length_same base (ops.Write a f l bytes) = refl
length_same base (ops.FetchAdd a w x) = refl
length_same base (ops.Swap a w x) = refl
length_same base (ops.Cas a w x y) = refl

enables_same : (x y dw f l : ℕ) → x % 8 ≡ y % 8 → (nat_lt 15 f || nat_lt 15 l || not (are_enables dw x f l)) ≡ (nat_lt 15 f || nat_lt 15 l || not (are_enables dw y f l))
enables_same x y dw f l e = rw e refl

enabled_same : (base : ℕ) (op : Op) → base % 128 ≡ 0 → base ≤ address_of op → wrong_enables (moved base op) ≡ wrong_enables op
enabled_same base (ops.Read a dw f l) h low = enables_same (a - base) a dw f l (by_8 base a h low)
enabled_same base (ops.Write a f l bytes) h low = enables_same (a - base) a (length bytes.items / 4) f l (by_8 base a h low)
enabled_same base (ops.FetchAdd a w x) h low = refl
enabled_same base (ops.Swap a w x) h low = refl
enabled_same base (ops.Cas a w x y) h low = refl

operand_same : (base : ℕ) (op : Op) → wrong_operand (moved base op) ≡ wrong_operand op
operand_same base (ops.Read a dw f l) = refl
operand_same base (ops.Write a f l bytes) = refl
operand_same base (ops.FetchAdd a w x) = refl
operand_same base (ops.Swap a w x) = refl
operand_same base (ops.Cas a w x y) = refl

address_same : (base : ℕ) (op : Op) → base % 128 ≡ 0 → base ≤ address_of op → wrong_address (moved base op) ≡ wrong_address op
address_same base (ops.Read a dw f l) h low = ap (λ (x : ℕ). not (x == 0)) (by_4 base a h low)
address_same base (ops.Write a f l bytes) h low = ap (λ (x : ℕ). not (x == 0)) (by_4 base a h low)
address_same base (ops.FetchAdd a w x) h low = ap (λ (x : ℕ). not (x == 0)) (by_width base a w h low)
address_same base (ops.Swap a w x) h low = ap (λ (x : ℕ). not (x == 0)) (by_width base a w h low)
address_same base (ops.Cas a w x y) h low = ap (λ (x : ℕ). not (x == 0)) (by_width base a w h low)

fault_same : (base : ℕ) (op : Op) → base % 128 ≡ 0 → base ≤ address_of op → op_fault (moved base op) ≡ op_fault op
fault_same base op h low = rw (length_same base op, enabled_same base op h low, operand_same base op, address_same base op h low) refl

-- an operation has bytes
pub some_bytes : (op : Op) → op_fault op ≡ None → 1 ≤ count_of op
some_bytes (ops.Read a dw f l) h = grind (arith, nat_tests)
some_bytes (ops.Write a f l bytes) h = grind (arith, nat_tests)
some_bytes (ops.FetchAdd a widths.Four x) h = omega arith
some_bytes (ops.FetchAdd a widths.Eight x) h = omega arith
some_bytes (ops.FetchAdd a widths.Sixteen x) h = omega arith
some_bytes (ops.Swap a widths.Four x) h = omega arith
some_bytes (ops.Swap a widths.Eight x) h = omega arith
some_bytes (ops.Swap a widths.Sixteen x) h = omega arith
some_bytes (ops.Cas a widths.Four x y) h = omega arith
some_bytes (ops.Cas a widths.Eight x y) h = omega arith
some_bytes (ops.Cas a widths.Sixteen x y) h = omega arith

same_quotient : (base a c : ℕ) → base % 128 ≡ 0 → base ≤ a → 1 ≤ c → a / 128 ≡ (a + c - 1) / 128 → (a - base) / 128 ≡ (a - base + c - 1) / 128
same_quotient base a c h low some e = omega (arith, h, low, some, e)

test_is : (x y : ℕ) → (x == y) ≡ true → x ≡ y
test_is x y h = grind (arith, nat_tests)

is_test : (x y : ℕ) → x ≡ y → (x == y) ≡ true
is_test x y h = grind (arith, nat_tests)

in_block_moved : (base a c : ℕ) → base % 128 ≡ 0 → base ≤ a → 1 ≤ c → is_in_block 128 a c ≡ true → is_in_block 128 (a - base) c ≡ true
in_block_moved base a c h low some t = is_test ((a - base) / 128) ((a - base + c - 1) / 128) (same_quotient base a c h low some (test_is (a / 128) ((a + c - 1) / 128) t))

pub block_moved : (base : ℕ) (b : Op) → base % 128 ≡ 0 → base ≤ address_of b → IsBlock b → IsBlock (moved base b)
block_moved base b h low k = record {
  sound = fault_same base b h low ∙ k.sound;
  one = ap (λ (x : ℕ). is_in_block 128 x (count_of (moved base b))) (address_moved base b) ∙ (ap (λ (x : ℕ). is_in_block 128 (address_of b - base) x) (count_moved base b) ∙ in_block_moved base (address_of b) (count_of b) h low (some_bytes b k.sound) k.one);
}

pub inside_moved : (base size : ℕ) (b : Op) → IsPlace base size b → IsPlace 0 size (moved base b)
inside_moved base size b p =
    let at : address_of (moved base b) ≡ address_of b - base = address_moved base b in
    let n : count_of (moved base b) ≡ count_of b = count_moved base b in
    let low : base ≤ address_of b = p.low in
    let high : address_of b + count_of b ≤ base + size = p.high in
    record { low = omega arith; high = omega arith }

-- ---- a block request is served

none_refused : (x y z : Bool) → x ≡ false → y ≡ true → z ≡ true → (if x || not y then Some refusals.Aborted else (if z then None else Some refusals.Unsupported)) ≡ None
none_refused x y z e1 e2 e3 = rw (e1, e2, e3) refl

inside : (base size a c : ℕ) → base ≤ a → a + c ≤ base + size → is_inside base size a c ≡ true
inside base size a c low high = grind (arith, nat_tests)

pub served : (base size : ℕ) (b : Op) → IsBlock b → IsPlace base size b → refusal base size 128 b ≡ None
served base size b k p =
    none_refused (is_some (op_fault b)) (is_in_block 128 (address_of b) (count_of b)) (is_inside base size (address_of b) (count_of b)) (ap is_some k.sound) k.one (inside base size (address_of b) (count_of b) p.low p.high)

abbrev left_at : List ℕ → ℕ → Op → List ℕ
left_at m i op = patched m i (count_of op) (place_after op (bytes_at m i (count_of op)))

after_served : (base : ℕ) (m : List ℕ) (op : Op) → refusal base (length m) 128 op ≡ None → after base 128 m op ≡ left_at m (address_of op - base) op
after_served base m op e = ap (λ (o : Option Refusal). after_by o m (left_at m (address_of op - base) op)) e

pub answer_served : (base : ℕ) (m : List ℕ) (op : Op) → refusal base (length m) 128 op ≡ None → answer base 128 m op ≡ read_back op (bytes_at m (address_of op - base) (count_of op))
answer_served base m op e = ap (λ (o : Option Refusal). answer_by o (read_back op (bytes_at m (address_of op - base) (count_of op)))) e

less_none : (x : ℕ) → x - 0 ≡ x
less_none x = omega arith

place_same : (base : ℕ) (b : Op) → address_of (moved base b) - 0 ≡ address_of b - base
place_same base b = less_none (address_of (moved base b)) ∙ address_moved base b

module _ (base : ℕ) (m : List ℕ) (b : Op) (h : base % 128 ≡ 0) (k : IsBlock b) (p : IsPlace base (length m) b) where
  here : refusal base (length m) 128 b ≡ None
  here = served base (length m) b k p

  from_0 : refusal 0 (length m) 128 (moved base b) ≡ None
  from_0 = served 0 (length m) (moved base b) (block_moved base b h p.low k) (inside_moved base (length m) b p)

  abbrev i : ℕ
  i = address_of b - base

  same_bytes : bytes_at m (address_of (moved base b) - 0) (count_of (moved base b)) ≡ bytes_at m i (count_of b)
  same_bytes = ap (λ (x : ℕ). bytes_at m x (count_of (moved base b))) (place_same base b) ∙ ap (bytes_at m i) (count_moved base b)

  pub after_moved : after 0 128 m (moved base b) ≡ after base 128 m b
  after_moved =
      after_served 0 m (moved base b) from_0
      ∙ (ap (λ (x : List ℕ). patched m (address_of (moved base b) - 0) (count_of (moved base b)) (place_after (moved base b) x)) same_bytes
      ∙ (ap (λ (x : ℕ). patched m x (count_of (moved base b)) (place_after (moved base b) (bytes_at m i (count_of b)))) (place_same base b)
      ∙ (ap (λ (x : ℕ). patched m i x (place_after (moved base b) (bytes_at m i (count_of b)))) (count_moved base b)
      ∙ (ap (patched m i (count_of b)) (place_moved base b (bytes_at m i (count_of b)))
      ∙ sym (after_served base m b here)))))

  pub answer_moved : answer 0 128 m (moved base b) ≡ answer base 128 m b
  answer_moved =
      answer_served 0 m (moved base b) from_0
      ∙ (ap (read_back (moved base b)) same_bytes
      ∙ (read_moved base b (bytes_at m i (count_of b))
      ∙ sym (answer_served base m b here)))

-- ---- the blocks of a request

abbrev pub AllGood : Bool → ℕ → ℕ → List Op → Type 0
AllGood p base size [] = Unit {0}
AllGood p base size (b ∷ bs) = IsBlock b × IsPlace base size b × (is_posted b ≡ p) × AllGood p base size bs

abbrev pub AreBlocks : List Op → Type 0
AreBlocks [] = Unit {0}
AreBlocks (b ∷ bs) = IsBlock b × (is_posted b ≡ false) × AreBlocks bs

both_true : (x y : Bool) → (x && y) ≡ true → (x ≡ true) × (y ≡ true)
both_true true y h = (refl, h)
both_true false y h = absurd (cc)

is_none_none : {X : Type 0} (o : Option X) → is_none o ≡ true → o ≡ None
is_none_none None h = refl
is_none_none (Some x) h = absurd (cc)

one_block : (b : Op) → is_faultless b ≡ true → is_in_one_block b ≡ true → IsBlock b
one_block b f i = record { sound = is_none_none (op_fault b) f; one = i }

-- places side by side rise
rises : (start stop : ℕ) (bs : List Op) → AreAdjacent start stop bs → start ≤ stop
rises start stop [] h = omega (arith, h)
rises start stop (b ∷ bs) h = let r : start + count_of b ≤ stop = rises (start + count_of b) stop bs h.1 in omega arith

placed : (start stop base size : ℕ) (b : Op) → address_of b ≡ start → start + count_of b ≤ stop → base ≤ start → stop ≤ base + size → IsPlace base size b
placed start stop base size b at r low high = record { low = omega arith; high = omega arith }

pub all_good : (p : Bool) (base size start stop : ℕ) (bs : List Op) → list_all is_faultless bs ≡ true → list_all is_in_one_block bs ≡ true
    → ((b : Op) (j : ℕ) → slice_get bs j ≡ Some b → is_posted b ≡ p) → AreAdjacent start stop bs → base ≤ start → stop ≤ base + size → AllGood p base size bs
all_good p base size start stop [] f i q a low high = tt
all_good p base size start stop (b ∷ bs) f i q a low high =
    let fs = both_true (is_faultless b) (list_all is_faultless bs) f in
    let is = both_true (is_in_one_block b) (list_all is_in_one_block bs) i in
    let r : start + count_of b ≤ stop = rises (start + count_of b) stop bs a.1 in
    (one_block b fs.0 is.0, placed start stop base size b a.0 r low high, q b 0 refl, all_good p base size (start + count_of b) stop bs fs.1 is.1 (λ c j e. q c (suc j) e) a.1 (omega arith) high)

pub all_blocks : (bs : List Op) → list_all is_faultless bs ≡ true → list_all is_in_one_block bs ≡ true → ((b : Op) (j : ℕ) → slice_get bs j ≡ Some b → is_posted b ≡ false) → AreBlocks bs
all_blocks [] f i q = tt
all_blocks (b ∷ bs) f i q =
    let fs = both_true (is_faultless b) (list_all is_faultless bs) f in
    let is = both_true (is_in_one_block b) (list_all is_in_one_block bs) i in
    (one_block b fs.0 is.0, q b 0 refl, all_blocks bs fs.1 is.1 (λ c j e. q c (suc j) e))
