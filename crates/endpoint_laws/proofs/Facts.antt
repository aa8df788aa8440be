-- What is recorded of a device are block requests and their data.
use Rattle.std.proofs.Common.{◌≡◌, ◌∙◌, ℕ, zero, suc, ◌+◌, ◌-◌, ◌*◌, ◌/◌, ◌%◌, ◌^◌, ◌<◌, ◌≤◌, eqb, Bool, true, false, cond, List, [], ◌∷◌, ◌++◌, length, take, drop, replicate, Option, Some, None, refl, sym, ap, subst, arith, length-append, length-drop}
use Rattle.std.specs.Prelude.{fold, slice_get, ◌==◌}
use Rattle.std.specs.Int.{byte_at, bytes_low_first}
use Rattle.std.proofs.lemmas.Bool.Decides.{nat_tests}
use Rattle.std.proofs.lemmas.List.{length-replicate}
use Rattle.std.proofs.lemmas.Option.{same_Some}
use Rattle.std.proofs.Math.Seq.{length-take-le}
use Rattle.tlp_core.specs.Ops.{Op}
use Rattle.tlp_core.specs.declared.operation.OpOf.TheVariants as ops
use Rattle.tlp_core.specs.Bits.{IsBytes}
use Rattle.tlp_core.specs.Enables.{dw_enables, enables}
use Rattle.tlp_core.specs.Operation.{address_of, count_of, size_of, is_posted}
use Rattle.seq_memory.specs.Entries.{Entry}
use Rattle.seq_memory.specs.declared.Refusal.{Refusal}
use Rattle.seq_memory.specs.Entries.{Reply}
use Rattle.seq_memory.specs.Limits.{Extent}
use Rattle.seq_memory.specs.Step.{refusal, after, after_by, answer, bytes_at, merged, patched, place_after, read_back, is_in_block}
use Rattle.seq_memory.specs.History.{contents, contents_at, extent_of}
use Rattle.op_pieces.specs.Pieces.{bytes_of}
use Rattle.history_words.specs.Records.{Record}
use Rattle.history_words.specs.declared.record.RecordOf.TheVariants.{Sub, Ans}
use Rattle.history_words.specs.Trace.{submissions, IsExplained}
use Rattle.endpoint_core.specs.EndpointView.{EndpointView}
use Rattle.endpoint_log.specs.LogView.{LogView}
use Rattle.endpoint_laws.specs.Requests.{IsBlockRequest, IsDataReply}
use Rattle.endpoint_laws.proofs.Lists.{get_within}
use Rattle.endpoint_laws.proofs.Growing.{made_number, reply_there}
use Rattle.endpoint_laws.proofs.State.{get_taken}
use Rattle.endpoint_laws.proofs.Coming.{dropped_bytes, taken_small}
use Rattle.endpoint_laws.proofs.Served.{IsPlace, served, answer_served, some_bytes}
use Rattle.endpoint_laws.proofs.Logging.{Laws, memory}
use Rattle.endpoint_laws.proofs.Traced.{IsTraced}
use Rattle.endpoint_laws.proofs.Told.{IsTold, IsGood}

-- ---- bytes

append_bytes : (xs ys : List ℕ) → IsBytes xs → IsBytes ys → IsBytes (xs ++ ys)
append_bytes [] ys p q i = q i
append_bytes (x ∷ xs) ys p q zero = p 0
append_bytes (x ∷ xs) ys p q (suc i) = append_bytes xs ys (λ j. p (suc j)) q i

zero_bytes : (n : ℕ) → IsBytes (replicate n 0)
zero_bytes zero i = omega arith
zero_bytes (suc n) zero = omega arith
zero_bytes (suc n) (suc i) = zero_bytes n i

chosen : (b : Bool) (x y : ℕ) → x < 256 → y < 256 → cond b x y < 256
chosen true x y p q = p
chosen false x y p q = q

merged_bytes : (es : List Bool) (xs ys : List ℕ) → IsBytes xs → IsBytes ys → IsBytes (merged es xs ys)
merged_bytes [] xs ys p q i = omega arith
merged_bytes (e ∷ es) [] ys p q i = omega arith
merged_bytes (e ∷ es) (x ∷ xs) [] p q i = omega arith
merged_bytes (e ∷ es) (x ∷ xs) (y ∷ ys) p q zero = chosen e x y (p 0) (q 0)
merged_bytes (e ∷ es) (x ∷ xs) (y ∷ ys) p q (suc i) = merged_bytes es xs ys (λ j. p (suc j)) (λ j. q (suc j)) i

small_rest : (y : ℕ) → y % 256 < 256
small_rest y = omega arith

byte_small : (j x : ℕ) → byte_at j x < 256
byte_small zero x = small_rest x
byte_small (suc j) x = small_rest (x / 256 ^ suc j)

number_bytes : (j n x : ℕ) → IsBytes (bytes_low_first j n x)
number_bytes j zero x i = omega arith
number_bytes j (suc n) x zero = byte_small j x
number_bytes j (suc n) x (suc i) = number_bytes (suc j) n x i

place_bytes : (op : Op) (old : List ℕ) → IsBytes (bytes_of op) → IsBytes old → IsBytes (place_after op old)
place_bytes (ops.Read a dw f l) old p q = q
place_bytes (ops.Write a f l bytes) old p q = merged_bytes (enables (length bytes.items / 4) f l) bytes.items old p q
place_bytes (ops.FetchAdd a w x) old p q = number_bytes 0 (size_of w) _
place_bytes (ops.Swap a w x) old p q = number_bytes 0 (size_of w) _
place_bytes (ops.Cas a w x y) old p q = number_bytes 0 (size_of w) _

at_bytes : (m : List ℕ) (i n : ℕ) → IsBytes m → IsBytes (bytes_at m i n)
at_bytes m i n h j = taken_small n j (drop i m) (dropped_bytes i m h)

patched_bytes : (m : List ℕ) (i n : ℕ) (new : List ℕ) → IsBytes m → IsBytes new → IsBytes (patched m i n new)
patched_bytes m i n new p q = append_bytes (take i m ++ new) (drop (i + n) m) (append_bytes (take i m) new (λ j. taken_small i j m p) q) (dropped_bytes (i + n) m p)

by_refusal : (o : Option Refusal) (old new : List ℕ) → IsBytes old → IsBytes new → IsBytes (after_by o old new)
by_refusal None old new p q = q
by_refusal (Some r) old new p q = p

after_bytes : (base block : ℕ) (m : List ℕ) (op : Op) → IsBytes m → IsBytes (bytes_of op) → IsBytes (after base block m op)
after_bytes base block m op p q =
    by_refusal (refusal base (length m) block op) m (patched m (address_of op - base) (count_of op) (place_after op (bytes_at m (address_of op - base) (count_of op)))) p (patched_bytes m (address_of op - base) (count_of op) (place_after op (bytes_at m (address_of op - base) (count_of op))) p (place_bytes op (bytes_at m (address_of op - base) (count_of op)) q (at_bytes m (address_of op - base) (count_of op) p)))

-- ---- replies

merged_length : (n : ℕ) (es : List Bool) (xs ys : List ℕ) → length es ≡ n → length xs ≡ n → length ys ≡ n → length (merged es xs ys) ≡ n
merged_length zero [] xs ys p q r = refl
merged_length zero (e ∷ es) xs ys p q r = absurd (omega arith)
merged_length (suc n) [] xs ys p q r = absurd (omega arith)
merged_length (suc n) (e ∷ es) [] ys p q r = absurd (omega arith)
merged_length (suc n) (e ∷ es) (x ∷ xs) [] p q r = absurd (omega arith)
merged_length (suc n) (e ∷ es) (x ∷ xs) (y ∷ ys) p q r = ap suc (merged_length n es xs ys (omega arith) (omega arith) (omega arith))

enables_length : (dw f l : ℕ) → 1 ≤ dw → length (enables dw f l) ≡ 4 * dw
unfolding enables
enables_length zero f l h = absurd (omega arith)
enables_length (suc zero) f l h = refl
enables_length (suc (suc n)) f l h =
    let several : eqb (suc (suc n)) 1 ≡ false = grind (arith, nat_tests) in
    rw several (omega (arith, length-append (dw_enables f ++ replicate (4 * (suc (suc n) - 2)) true) (dw_enables l), length-append (dw_enables f) (replicate (4 * (suc (suc n) - 2)) true), length-replicate (4 * (suc (suc n) - 2)) true))

at_length : (m : List ℕ) (i n : ℕ) → i + n ≤ length m → length (bytes_at m i n) ≡ n
at_length m i n h = length-take-le n (drop i m) (omega (arith, length-drop i m))

same_number : (i j : ℕ) → (i == j) ≡ true → i ≡ j
same_number i j h = grind (arith, nat_tests)

few_in_block : (a c : ℕ) → is_in_block 128 a c ≡ true → c ≤ 128
few_in_block a c h =
    let e : a / 128 ≡ (a + c - 1) / 128 = same_number (a / 128) ((a + c - 1) / 128) h in
    omega (arith, e)

some_dw : (dw : ℕ) → 1 ≤ 4 * dw → 1 ≤ dw
some_dw dw h = omega arith

data_by : (op : Op) (old : List ℕ) → is_posted op ≡ false → 1 ≤ count_of op → count_of op ≤ 128 → length old ≡ count_of op → IsBytes old → IsDataReply (read_back op old)
data_by (ops.Read a dw f l) old not some few is bytes =
    let long : length (merged (enables dw f l) old (replicate (4 * dw) 0)) ≡ 4 * dw = merged_length (4 * dw) (enables dw f l) old (replicate (4 * dw) 0) (enables_length dw f l (some_dw dw some)) is (length-replicate (4 * dw) 0) in
    (omega (arith, some, long), omega (arith, few, long), merged_bytes (enables dw f l) old (replicate (4 * dw) 0) bytes (zero_bytes (4 * dw)))
data_by (ops.Write a f l b) old not some few is bytes = absurd (cc)
data_by (ops.FetchAdd a w x) old not some few is bytes = (omega (arith, some, is), omega (arith, few, is), bytes)
data_by (ops.Swap a w x) old not some few is bytes = (omega (arith, some, is), omega (arith, few, is), bytes)
data_by (ops.Cas a w x y) old not some few is bytes = (omega (arith, some, is), omega (arith, few, is), bytes)

less_none : (a c size : ℕ) → a + c ≤ 0 + size → a - 0 + c ≤ size
less_none a c size h = omega (arith, h)

data_reply : (size : ℕ) (m : List ℕ) (op : Op) → length m ≡ size → IsBytes m → IsGood size op → is_posted op ≡ false → IsDataReply (answer 0 128 m op)
data_reply size m op len bytes g not =
    let at : IsPlace 0 (length m) op = subst (λ (n : ℕ). IsPlace 0 n op) (sym len) g.place in
    subst IsDataReply (sym (answer_served 0 m op (served 0 (length m) op g.block at)))
    (data_by op (bytes_at m (address_of op - 0) (count_of op)) not (some_bytes op g.block.sound) (few_in_block (address_of op) (count_of op) g.block.one)
    (at_length m (address_of op - 0) (count_of op) (less_none (address_of op) (count_of op) (length m) at.high)) (at_bytes m (address_of op - 0) (count_of op) bytes))

-- ---- what is recorded

good_request : (size : ℕ) (op : Op) → IsGood size op → IsBlockRequest size op
good_request size op g = let high : address_of op + count_of op ≤ 0 + size = g.place.high in record { sound = g.block.sound; one = g.block.one; inside = omega (arith, high); bytes = g.bytes }

-- where an operation was submitted
source : (i : ℕ) (rs : List Record) (k : ℕ) (op : Op) → slice_get (submissions rs i) k ≡ Some op → (a : ℕ) × (number : ℕ) × (since : ℕ) × (slice_get rs a ≡ Some (Sub i number op since))
source i [] k op e = absurd (cc)
source i (Ans j m x n ∷ rs) k op e = let r = source i rs k op e in (suc r.0, r.1, r.2, r.3)
source i (Sub j m z n ∷ rs) k op e = source_by i j m n k z op rs (i == j) refl e (λ q f. source i rs q op f)
  where
    source_by : (i j m n k : ℕ) (z op : Op) (rs : List Record) (b : Bool) → (i == j) ≡ b → slice_get (submissions (Sub j m z n ∷ rs) i) k ≡ Some op
        → ((q : ℕ) → slice_get (submissions rs i) q ≡ Some op → (a : ℕ) × (number : ℕ) × (since : ℕ) × (slice_get rs a ≡ Some (Sub i number op since)))
        → (a : ℕ) × (number : ℕ) × (since : ℕ) × (slice_get (Sub j m z n ∷ rs) a ≡ Some (Sub i number op since))
    source_by i j m n zero z op rs true is e f =
        let same : i ≡ j = same_number i j is in
        let first : Some z ≡ Some op = rw is at e in
        (0, m, n, ap (λ (x : ℕ). Some (Sub x m z n)) (sym same) ∙ ap (λ (x : Op). Some (Sub i m x n)) (same_Some z op first))
    source_by i j m n (suc k) z op rs true is e f = let r = f k (rw is at e) in (suc r.0, r.1, r.2, r.3)
    source_by i j m n k z op rs false is e f = let r = f k (rw is at e) in (suc r.0, r.1, r.2, r.3)

module _ (w : Laws) (size : ℕ) (e : EndpointView) (l : LogView) (i : IsTraced e l) (t : IsTold size e l) where
  below : (j k : ℕ) (op : Op) → j ≡ 1 → slice_get (submissions l.claim.records j) k ≡ Some op → k < l.submitted
  below j k op own e =
      let here : k < length (submissions l.claim.records 1) = get_within (submissions l.claim.records 1) k op (subst (λ (x : ℕ). slice_get (submissions l.claim.records x) k ≡ Some op) own e) in
      let count : length (submissions l.claim.records 1) ≡ l.submitted = i.has.state.count in
      omega arith

  pub submitted_fact : (a j k n : ℕ) (op : Op) → slice_get l.claim.records a ≡ Some (Sub j k op n) → (j ≡ 1) × (k < l.submitted) × IsBlockRequest size op
  submitted_fact a j k n op e =
      let m = t.made a j k n op e in
      (m.0, below j k op m.0 (made_number l.claim.records a j k n op i.has.state.kept.explains.numbered e), good_request size op m.1)

  good_entry : (p : ℕ) (x : Entry) → slice_get l.claim.memory.entries p ≡ Some x → (x.requester ≡ 1) × (x.number < l.submitted) × IsGood size x.op
  good_entry p x at =
      let law = i.has.state.kept.explains.legal p x at in
      let s = source x.requester l.claim.records x.number x.op law.submitted in
      let m = t.made s.0 x.requester s.1 s.2 x.op s.3 in
      (m.0, below x.requester x.number x.op m.0 law.submitted, m.1)

  pub entered_fact : (p : ℕ) (x : Entry) → slice_get l.claim.memory.entries p ≡ Some x → (x.requester ≡ 1) × (x.number < l.submitted) × IsBlockRequest size x.op
  entered_fact p x at = let g = good_entry p x at in (g.0, g.1, good_request size x.op g.2)

  fold_bytes : (es : List Entry) (m : List ℕ) → IsBytes m → ((p : ℕ) (x : Entry) → slice_get es p ≡ Some x → IsBytes (bytes_of x.op)) → IsBytes (fold (λ m x. after 0 128 m x.op) m es)
  fold_bytes [] m h f = h
  fold_bytes (x ∷ es) m h f = fold_bytes es (after 0 128 m x.op) (after_bytes 0 128 m x.op h (f 0 x refl)) (λ p y at. f (suc p) y at)

  contents_bytes : (p : ℕ) → IsBytes (contents_at (memory size) l.claim.memory.entries p)
  unfolding contents
  contents_bytes p = fold_bytes (take p l.claim.memory.entries) (replicate size 0) (zero_bytes size) (λ q x at. (good_entry q x (get_taken p l.claim.memory.entries q x at)).2.bytes)

  same_extent : extent_of l.claim.memory ≡ memory size
  same_extent = i.has.extent ∙ ap memory t.setup

  pub answered_fact : (a j k n : ℕ) (reply : Reply) → slice_get l.claim.records a ≡ Some (Ans j k reply n) → (j ≡ 1) × (k < l.submitted) × IsDataReply reply
  answered_fact a j k n reply at =
      let x : IsExplained l.claim.memory (take a l.claim.records) j k reply n = i.has.state.kept.explains.linear a j k n reply at in
      let sub : slice_get l.claim.records x.place ≡ Some (Sub j k x.op x.since) = get_taken a l.claim.records x.place (Sub j k x.op x.since) x.asked in
      let m = t.made x.place j k x.since x.op sub in
      let own : Entry = record { requester = j; number = k; op = x.op } in
      let is : Some (answer l.claim.memory.base l.claim.memory.block (contents_at (extent_of l.claim.memory) l.claim.memory.entries x.point) x.op) ≡ Some reply = sym (reply_there l.claim.memory x.point own x.acted) ∙ x.replied in
      let here : answer 0 128 (contents_at (memory size) l.claim.memory.entries x.point) x.op ≡ reply =
      ap (λ (y : Extent). answer y.base y.block (contents_at y l.claim.memory.entries x.point) x.op) (sym same_extent) ∙ same_Some _ reply is in (
        m.0,
        below j k x.op m.0 (made_number l.claim.records x.place j k x.since x.op i.has.state.kept.explains.numbered sub),
        subst IsDataReply here (data_reply size (contents_at (memory size) l.claim.memory.entries x.point) x.op (w.size (memory size) (take x.point l.claim.memory.entries)) (contents_bytes x.point) m.1 x.not_posted),
      )
