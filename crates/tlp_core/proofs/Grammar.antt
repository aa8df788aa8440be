-- Bytes with no fault spell one packet, and what spells a packet has no fault.
use Rattle.std.proofs.Common.{◌≡◌, ℕ, ◌+◌, ◌-◌, ◌*◌, ◌/◌, ◌%◌, ◌<◌, ◌≤◌, Bool, true, false, cond, List, [], ◌∷◌, ◌++◌, length, take, drop, Option, Some, None, Result, Ok, Err, refl, sym, ap, subst, ◌∙◌, arith, slice_index, length-drop}
use Rattle.std.specs.Prelude.{not, ◌&&◌, ◌||◌, ◌==◌, if◌then◌else◌, nat_lt, find, is_none, IsTrue}
use Rattle.std.proofs.lemmas.Bool.Decides.{nat_tests}
use Rattle.std.proofs.lemmas.List.{take_all}
use Rattle.byteorder.specs.Endian.{big_number}
use Rattle.tlp_core.specs.declared.packet.Kind.{Kind}
use Rattle.tlp_core.specs.declared.packet.Kind.TheVariants as kinds
use Rattle.tlp_core.specs.declared.packet.Body.{Body}
use Rattle.tlp_core.specs.declared.fault.TlpFault.{TlpFault}
use Rattle.tlp_core.specs.declared.fault.TlpFault.TheVariants as faults
use Rattle.tlp_core.specs.Bits.{bits, has_bit, IsBytes}
use Rattle.tlp_core.specs.Enables.{are_enables}
use Rattle.tlp_core.specs.TlpView.{TlpView, FitsKind, IsMemoryAccess, IsOneOperand, IsTwoOperands, has_data}
use Rattle.tlp_core.specs.Layout.{kind_of, or_all, header_length, dw_count, address_of, body_at, length_at, requester_place, Spells, AreReservedZero, packet_at}
use Rattle.tlp_core.specs.Faults.{breaks_enables, breaks_size, breaks_alignment, promised, of_kind, holds, header_faults, kind_faults, first_of, first_fault, read_as, reading}

packet_from_fields : (t : TlpView) (k : Kind) (tc attr len req tag : ℕ) (body : Body) (pay : List ℕ) → t.kind ≡ k → t.tc ≡ tc → t.attr ≡ attr → t.length ≡ len → t.requester ≡ req → t.tag ≡ tag → t.body ≡ body → t.payload ≡ pay → t ≡ record { kind = k; tc = tc; attr = attr; length = len; requester = req; tag = tag; body = body; payload = pay }
packet_from_fields t k tc attr len req tag body pay e1 e2 e3 e4 e5 e6 e7 e8 = rw (← e1, ← e2, ← e3, ← e4, ← e5, ← e6, ← e7, ← e8) refl

-- the bytes have no other value than the table's
pub spelled_is : (b : List ℕ) (t : TlpView) → Spells b t → t ≡ packet_at b t.kind
spelled_is b t s = packet_from_fields t t.kind _ _ _ _ _ _ _ refl s.tc s.attr s.dws s.requester s.tag s.body s.payload

some_is : {A : Type 0} (x y : A) → ◌≡◌ {A = Option A} (Some x) (Some y) → x ≡ y
some_is x y e = cc

pub one_value : (b : List ℕ) (t u : TlpView) → Spells b t → Spells b u → t ≡ u
one_value b t u s v = spelled_is b t s ∙ ap (packet_at b) (some_is _ _ (sym s.kind ∙ v.kind)) ∙ sym (spelled_is b u v)

-- ---- faults

find_none : (p : TlpFault → Bool) (x : TlpFault) (xs : List TlpFault) → find p (x ∷ xs) ≡ None → (p x ≡ false) × (find p xs ≡ None)
find_none p x xs e = grind arith

find_skip : (p : TlpFault → Bool) (x : TlpFault) (xs : List TlpFault) → p x ≡ false → find p xs ≡ None → find p (x ∷ xs) ≡ None
find_skip p x xs n e = rw n e

pub find_after : (p : TlpFault → Bool) (xs ys : List TlpFault) → find p xs ≡ None → find p (xs ++ ys) ≡ find p ys
find_after p [] ys e = refl
find_after p (x ∷ xs) ys e = let s = find_none p x xs e in rw (s.0) (find_after p xs ys s.1)

pub find_within : (p : TlpFault → Bool) (xs ys : List TlpFault) (f : TlpFault) → find p xs ≡ Some f → find p (xs ++ ys) ≡ Some f
find_within p [] ys f e = absurd cc
find_within p (x ∷ xs) ys f e = elim (p x) as (λ v. cond v (Some x) (find p xs) ≡ Some f → cond v (Some x) (find p (xs ++ ys)) ≡ Some f) [ true ↦ λ e. e | false ↦ λ e. find_within p xs ys f e ] e

of_kind_at : (o : Option Kind) (k : Kind) (test : Kind → Bool) → o ≡ Some k → of_kind o test ≡ test k
of_kind_at o k test e = ap (λ o. of_kind o test) e

-- the faults of a kind, apart
record NoKindFault (k : Kind) (dw a f l given : ℕ) : Type 0 where
  pub matches : not (given == promised dw k) ≡ false
  pub short : (has_data k && nat_lt 32 dw) ≡ false
  pub enabled : breaks_enables k dw a f l ≡ false
  pub sized : breaks_size dw k ≡ false
  pub aligned : breaks_alignment a dw k ≡ false

no_kind_fault : (b : List ℕ) (k : Kind) → kind_of (slice_index b 0) ≡ Some k → first_of kind_faults b ≡ None → NoKindFault k (dw_count b) (address_of b) (bits b 7 0 4) (bits b 7 4 4) (length b - header_length b)
no_kind_fault b k e none =
    let p : TlpFault → Bool = λ f. holds f b in
    let s1 = find_none p faults.LengthMismatch (faults.PayloadTooLong ∷ faults.ByteEnables ∷ faults.OperandSize ∷ faults.Unaligned ∷ []) none in
    let s2 = find_none p faults.PayloadTooLong (faults.ByteEnables ∷ faults.OperandSize ∷ faults.Unaligned ∷ []) s1.1 in
    let s3 = find_none p faults.ByteEnables (faults.OperandSize ∷ faults.Unaligned ∷ []) s2.1 in
    let s4 = find_none p faults.OperandSize (faults.Unaligned ∷ []) s3.1 in
    let s5 = find_none p faults.Unaligned [] s4.1 in
    record {
      matches = sym (of_kind_at (kind_of (slice_index b 0)) k (λ k. not (length b - header_length b == promised (dw_count b) k)) e) ∙ s1.0;
      short = sym (of_kind_at (kind_of (slice_index b 0)) k (λ k. has_data k && nat_lt 32 (dw_count b)) e) ∙ s2.0;
      enabled = sym (of_kind_at (kind_of (slice_index b 0)) k (λ k. breaks_enables k (dw_count b) (address_of b) (bits b 7 0 4) (bits b 7 4 4)) e) ∙ s3.0;
      sized = sym (of_kind_at (kind_of (slice_index b 0)) k (breaks_size (dw_count b)) e) ∙ s4.0;
      aligned = sym (of_kind_at (kind_of (slice_index b 0)) k (breaks_alignment (address_of b) (dw_count b)) e) ∙ s5.0;
    }

kind_fault_none : (b : List ℕ) (k : Kind) → kind_of (slice_index b 0) ≡ Some k → NoKindFault k (dw_count b) (address_of b) (bits b 7 0 4) (bits b 7 4 4) (length b - header_length b) → first_of kind_faults b ≡ None
kind_fault_none b k e s =
    let p : TlpFault → Bool = λ f. holds f b in
    find_skip p faults.LengthMismatch (faults.PayloadTooLong ∷ faults.ByteEnables ∷ faults.OperandSize ∷ faults.Unaligned ∷ [])
    (of_kind_at (kind_of (slice_index b 0)) k (λ k. not (length b - header_length b == promised (dw_count b) k)) e ∙ s.matches)
    (find_skip p faults.PayloadTooLong (faults.ByteEnables ∷ faults.OperandSize ∷ faults.Unaligned ∷ [])
    (of_kind_at (kind_of (slice_index b 0)) k (λ k. has_data k && nat_lt 32 (dw_count b)) e ∙ s.short)
    (find_skip p faults.ByteEnables (faults.OperandSize ∷ faults.Unaligned ∷ [])
    (of_kind_at (kind_of (slice_index b 0)) k (λ k. breaks_enables k (dw_count b) (address_of b) (bits b 7 0 4) (bits b 7 4 4)) e ∙ s.enabled)
    (find_skip p faults.OperandSize (faults.Unaligned ∷ [])
    (of_kind_at (kind_of (slice_index b 0)) k (breaks_size (dw_count b)) e ∙ s.sized)
    (find_skip p faults.Unaligned []
    (of_kind_at (kind_of (slice_index b 0)) k (breaks_alignment (address_of b) (dw_count b)) e ∙ s.aligned) refl))))

not_false : (x : Bool) → not x ≡ false → x ≡ true
not_false true e = refl
not_false false e = absurd cc

-- no fault of the kind, and the fields are the kind's
fits_memory : (k : Kind) (dw a f l given : ℕ) → 1 ≤ dw → a % 4 ≡ 0 → f < 16 → l < 16 → not (are_enables dw a f l) ≡ false → IsMemoryAccess dw a f l
fits_memory k dw a f l given h1 h2 h3 h4 e = (h1, h2, h3, h4, not_false _ e)

fits_one : (dw a : ℕ) → not ((dw == 1) || (dw == 2)) ≡ false → not (a % (4 * dw) == 0) ≡ false → IsOneOperand dw a 0 0
fits_one dw a e1 e2 = grind (arith, nat_tests)

fits_two : (dw a : ℕ) → not ((dw == 2) || (dw == 4) || (dw == 8)) ≡ false → not (a % (2 * dw) == 0) ≡ false → IsTwoOperands dw a 0 0
fits_two dw a e1 e2 = grind (arith, nat_tests)

same_number : (a b : ℕ) → not (a == b) ≡ false → a ≡ b
same_number a b e = grind (arith, nat_tests)

at_most : (a b : ℕ) → nat_lt a b ≡ false → b ≤ a
at_most a b e = grind (arith, nat_tests)

or_all_range : (greatest n : ℕ) → 0 < greatest → n < greatest → (1 ≤ or_all greatest n) × (or_all greatest n ≤ greatest)
or_all_range greatest n h lt = grind (arith, nat_tests)

pub dw_range : (b : List ℕ) → IsBytes b → (1 ≤ dw_count b) × (dw_count b ≤ 1024)
dw_range b fits = or_all_range 1024 (bits b 2 0 2 * 256 + slice_index b 3) (omega arith) (omega (arith, fits 3))

count_range : (b : List ℕ) → IsBytes b → (1 ≤ or_all 4096 (bits b 6 0 4 * 256 + slice_index b 7)) × (or_all 4096 (bits b 6 0 4 * 256 + slice_index b 7) ≤ 4096)
count_range b fits = or_all_range 4096 (bits b 6 0 4 * 256 + slice_index b 7) (omega arith) (omega (arith, fits 7))

quarters : (n : ℕ) → n / 4 * 4 % 4 ≡ 0
quarters n = omega arith

address_aligned : (b : List ℕ) → address_of b % 4 ≡ 0
address_aligned b = elim (has_bit b 0 5) as (λ v. (cond v (big_number 8 (drop 8 b) / 4 * 4) (big_number 4 (drop 8 b) / 4 * 4)) % 4 ≡ 0) [ true ↦ quarters (big_number 8 (drop 8 b)) | false ↦ quarters (big_number 4 (drop 8 b)) ]

fits_kind : (b : List ℕ) (k : Kind) → IsBytes b → NoKindFault k (dw_count b) (address_of b) (bits b 7 0 4) (bits b 7 4 4) (length b - header_length b) → FitsKind k (body_at k b) (length_at k b) (length b - header_length b)
fits_kind b kinds.MemoryRead fits n =
    let r = dw_range b fits in
    (fits_memory kinds.MemoryRead (dw_count b) (address_of b) (bits b 7 0 4) (bits b 7 4 4) 0 r.0 (address_aligned b) (omega arith) (omega arith) n.enabled, r.1, same_number (length b - header_length b) 0 n.matches)
fits_kind b kinds.MemoryWrite fits n =
    let r = dw_range b fits in
    (fits_memory kinds.MemoryWrite (dw_count b) (address_of b) (bits b 7 0 4) (bits b 7 4 4) 0 r.0 (address_aligned b) (omega arith) (omega arith) n.enabled, at_most 32 (dw_count b) n.short, same_number (length b - header_length b) (4 * dw_count b) n.matches)
fits_kind b kinds.FetchAdd fits n = (fits_one (dw_count b) (address_of b) n.sized n.aligned, same_number (length b - header_length b) (4 * dw_count b) n.matches)
fits_kind b kinds.Swap fits n = (fits_one (dw_count b) (address_of b) n.sized n.aligned, same_number (length b - header_length b) (4 * dw_count b) n.matches)
fits_kind b kinds.Cas fits n = (fits_two (dw_count b) (address_of b) n.sized n.aligned, same_number (length b - header_length b) (4 * dw_count b) n.matches)
fits_kind b kinds.Completion fits n =
    let r = count_range b fits in
    (r.0, r.1, omega arith, refl, same_number (length b - header_length b) 0 n.matches)
fits_kind b kinds.CompletionData fits n =
    let r = count_range b fits in
    let d = dw_range b fits in
    (r.0, r.1, omega arith, d.0, at_most 32 (dw_count b) n.short, same_number (length b - header_length b) (4 * dw_count b) n.matches)

or_false : (x y : Bool) → (x || y) ≡ false → (x ≡ false) × (y ≡ false)
or_false false y e = (refl, e)
or_false true y e = absurd cc

reserved_zero : (b : List ℕ) → first_of header_faults b ≡ None → AreReservedZero b
reserved_zero b none =
    let p : TlpFault → Bool = λ f. holds f b in
    let s1 = find_none p faults.Short (faults.Prefix ∷ faults.Kind ∷ faults.TenBitTag ∷ faults.Hints ∷ faults.Digest ∷ faults.Poisoned ∷ faults.Translated ∷ []) none in
    let s2 = find_none p faults.Prefix (faults.Kind ∷ faults.TenBitTag ∷ faults.Hints ∷ faults.Digest ∷ faults.Poisoned ∷ faults.Translated ∷ []) s1.1 in
    let s3 = find_none p faults.Kind (faults.TenBitTag ∷ faults.Hints ∷ faults.Digest ∷ faults.Poisoned ∷ faults.Translated ∷ []) s2.1 in
    let s4 = find_none p faults.TenBitTag (faults.Hints ∷ faults.Digest ∷ faults.Poisoned ∷ faults.Translated ∷ []) s3.1 in
    let s5 = find_none p faults.Hints (faults.Digest ∷ faults.Poisoned ∷ faults.Translated ∷ []) s4.1 in
    let s6 = find_none p faults.Digest (faults.Poisoned ∷ faults.Translated ∷ []) s5.1 in
    let s7 = find_none p faults.Poisoned (faults.Translated ∷ []) s6.1 in
    let s8 = find_none p faults.Translated [] s7.1 in
    let ten = or_false (has_bit b 1 7) (has_bit b 1 3) s4.0 in
    let hints = or_false (has_bit b 1 1) (has_bit b 1 0) s5.0 in
    record { t9 = ten.0; t8 = ten.1; ln = hints.0; th = hints.1; td = s6.0; ep = s7.0; at = same_number (bits b 2 2 2) 0 s8.0 }

-- bytes with no fault spell what the table makes of them
pub made : (b : List ℕ) (k : Kind) → IsBytes b → header_length b ≤ length b → kind_of (slice_index b 0) ≡ Some k → first_of header_faults b ≡ None → first_of kind_faults b ≡ None → Spells b (packet_at b k)
made b k fits whole e none1 none2 = record {
  whole = whole;
  kind = e;
  reserved = reserved_zero b none1;
  tc = refl;
  attr = refl;
  dws = refl;
  requester = refl;
  tag = refl;
  body = refl;
  payload = refl;
  grammar = record {
    tc = omega arith;
    attr = omega arith;
    fits = rw (length-drop (header_length b) b) (fits_kind b k fits (no_kind_fault b k e none2));
  };
}

-- ---- what spells a packet has no fault

not_true : (x : Bool) → IsTrue x → not x ≡ false
not_true true h = refl
not_true false h = absurd cc

same_test : (a b : ℕ) → a ≡ b → not (a == b) ≡ false
same_test a b e = grind (arith, nat_tests)

below_test : (a b : ℕ) → b ≤ a → nat_lt a b ≡ false
below_test a b h = grind (arith, nat_tests)

one_size : (dw a : ℕ) → IsOneOperand dw a 0 0 → (not ((dw == 1) || (dw == 2)) ≡ false) × (not (a % (4 * dw) == 0) ≡ false) × (nat_lt 32 dw ≡ false)
one_size dw a h = grind (arith, nat_tests)

two_size : (dw a : ℕ) → IsTwoOperands dw a 0 0 → (not ((dw == 2) || (dw == 4) || (dw == 8)) ≡ false) × (not (a % (2 * dw) == 0) ≡ false) × (nat_lt 32 dw ≡ false)
two_size dw a h = grind (arith, nat_tests)

kept_kind : (b : List ℕ) (k : Kind) (given : ℕ) → FitsKind k (body_at k b) (length_at k b) given → NoKindFault k (dw_count b) (address_of b) (bits b 7 0 4) (bits b 7 4 4) given
kept_kind b kinds.MemoryRead given h = record { matches = same_test given 0 h.2; short = refl; enabled = not_true _ h.0.4; sized = refl; aligned = refl }
kept_kind b kinds.MemoryWrite given h = record { matches = same_test given (4 * dw_count b) h.2; short = below_test 32 (dw_count b) h.1; enabled = not_true _ h.0.4; sized = refl; aligned = refl }
kept_kind b kinds.FetchAdd given h = let s = one_size (dw_count b) (address_of b) h.0 in record { matches = same_test given (4 * dw_count b) h.1; short = s.2; enabled = refl; sized = s.0; aligned = s.1 }
kept_kind b kinds.Swap given h = let s = one_size (dw_count b) (address_of b) h.0 in record { matches = same_test given (4 * dw_count b) h.1; short = s.2; enabled = refl; sized = s.0; aligned = s.1 }
kept_kind b kinds.Cas given h = let s = two_size (dw_count b) (address_of b) h.0 in record { matches = same_test given (4 * dw_count b) h.1; short = s.2; enabled = refl; sized = s.0; aligned = s.1 }
kept_kind b kinds.Completion given h = record { matches = same_test given 0 h.4; short = refl; enabled = refl; sized = refl; aligned = refl }
kept_kind b kinds.CompletionData given h = record { matches = same_test given (4 * dw_count b) h.5; short = below_test 32 (dw_count b) h.4; enabled = refl; sized = refl; aligned = refl }

no_prefix : (code : ℕ) (k : Kind) → kind_of code ≡ Some k → (code / 32 % 8 == 4) ≡ false
no_prefix code k e = grind (arith, nat_tests)

pub no_fault : (b : List ℕ) (t : TlpView) → Spells b t → first_fault b ≡ None
no_fault b t s =
    let p : TlpFault → Bool = λ f. holds f b in
    let is = spelled_is b t s in
    let grammar = s.grammar in
    let fits : FitsKind t.kind (body_at t.kind b) (length_at t.kind b) (length b - header_length b) =
    rw (← length-drop (header_length b) b) (subst (λ (u : TlpView). FitsKind u.kind u.body u.length (length u.payload)) is grammar.fits) in
    let rest : first_of kind_faults b ≡ None = kind_fault_none b t.kind s.kind (kept_kind b t.kind (length b - header_length b) fits) in
    let front : first_of header_faults b ≡ None =
    find_skip p faults.Short (faults.Prefix ∷ faults.Kind ∷ faults.TenBitTag ∷ faults.Hints ∷ faults.Digest ∷ faults.Poisoned ∷ faults.Translated ∷ []) (below_test (length b) (header_length b) s.whole)
    (find_skip p faults.Prefix (faults.Kind ∷ faults.TenBitTag ∷ faults.Hints ∷ faults.Digest ∷ faults.Poisoned ∷ faults.Translated ∷ []) (no_prefix (slice_index b 0) t.kind s.kind)
    (find_skip p faults.Kind (faults.TenBitTag ∷ faults.Hints ∷ faults.Digest ∷ faults.Poisoned ∷ faults.Translated ∷ []) (ap is_none s.kind)
    (find_skip p faults.TenBitTag (faults.Hints ∷ faults.Digest ∷ faults.Poisoned ∷ faults.Translated ∷ []) (rw (s.reserved.t9, s.reserved.t8) refl)
    (find_skip p faults.Hints (faults.Digest ∷ faults.Poisoned ∷ faults.Translated ∷ []) (rw (s.reserved.ln, s.reserved.th) refl)
    (find_skip p faults.Digest (faults.Poisoned ∷ faults.Translated ∷ []) s.reserved.td
    (find_skip p faults.Poisoned (faults.Translated ∷ []) s.reserved.ep
    (find_skip p faults.Translated [] (same_test (bits b 2 2 2) 0 s.reserved.at) refl))))))) in
    find_after p header_faults kind_faults front ∙ rest

-- for the exits of `decode`
pub none_spelled : (b : List ℕ) (f : TlpFault) → first_fault b ≡ Some f → (t : TlpView) → Spells b t → ⊥
none_spelled b f e t s = let n = no_fault b t s in absurd cc

few_bytes : (dw given : ℕ) (some : Bool) → not (given == (if some then 4 * dw else 0)) ≡ false → (some && nat_lt 32 dw) ≡ false → given ≤ 128
few_bytes dw given some m s = grind (arith, nat_tests)

pub payload_fits : (b : List ℕ) (k : Kind) → kind_of (slice_index b 0) ≡ Some k → first_of kind_faults b ≡ None → length b - header_length b ≤ 128
payload_fits b k e none =
    let n = no_kind_fault b k e none in few_bytes (dw_count b) (length b - header_length b) (has_data k) n.matches n.short

-- the payload as the code slices it
pub payload_length : (b : List ℕ) (h : ℕ) → length b - h ≤ 128 → length (take (length b - h) (drop h b)) ≤ 128
payload_length b h le = rw (take_all (length b - h) (drop h b) (omega (arith, length-drop h b)), length-drop h b) le

pub payload_whole : (b : List ℕ) (h : ℕ) → take (length b - h) (drop h b) ≡ drop h b
payload_whole b h = take_all (length b - h) (drop h b) (omega (arith, length-drop h b))

-- the value as the code makes it of its fields
pub made_of : (b : List ℕ) (k : Kind) (tc ido low len req r h : ℕ) (body : Body) (pay : List ℕ) → tc ≡ bits b 1 4 3 → ido ≡ bits b 1 2 1 → low ≡ bits b 2 4 2 → len ≡ length_at k b → r ≡ requester_place k → req ≡ big_number 2 (take (length b - r) (drop r b)) → body ≡ body_at k b → h ≡ header_length b → pay ≡ take (length b - h) (drop h b) → Spells b (packet_at b k) → Spells b (record { kind = k; tc = tc; attr = ido * 4 + low; length = len; requester = req; tag = slice_index b (r + 2); body = body; payload = pay })
made_of b k tc ido low len req r h body pay e1 e2 e3 e4 e5 e6 e7 e8 e9 s =
    let e6' : req ≡ big_number 2 (drop (requester_place k) b) = e6 ∙ ap (big_number 2) (payload_whole b r) ∙ ap (λ r. big_number 2 (drop r b)) e5 in
    let e9' : pay ≡ drop (header_length b) b = e9 ∙ payload_whole b h ∙ ap (λ h. drop h b) e8 in
    rw (e1, e2, e3, e4, e6', e5, e7, e9') s

-- ---- reading

pub reading_fault : (b : List ℕ) (f : TlpFault) → first_fault b ≡ Some f → reading b ≡ Err f
reading_fault b f e = rw e refl

pub reading_spelled : (b : List ℕ) (t : TlpView) → Spells b t → reading b ≡ Ok t
reading_spelled b t s = rw (no_fault b t s, s.kind) (ap Ok (sym (spelled_is b t s)))

ok_is : (t u : TlpView) → ◌≡◌ {A = Result TlpView TlpFault} (Ok t) (Ok u) → t ≡ u
ok_is t u e = cc

-- bytes with no fault have a kind
kind_there : (b : List ℕ) (o : Option Kind) → kind_of (slice_index b 0) ≡ o → first_fault b ≡ None → (k : Kind) × (kind_of (slice_index b 0) ≡ Some k)
kind_there b (Some k) e n = (k, e)
kind_there b None e n =
    let p : TlpFault → Bool = λ f. holds f b in
    let s1 = find_none p faults.Short (faults.Prefix ∷ faults.Kind ∷ faults.TenBitTag ∷ faults.Hints ∷ faults.Digest ∷ faults.Poisoned ∷ faults.Translated ∷ kind_faults) n in
    let s2 = find_none p faults.Prefix (faults.Kind ∷ faults.TenBitTag ∷ faults.Hints ∷ faults.Digest ∷ faults.Poisoned ∷ faults.Translated ∷ kind_faults) s1.1 in
    let s3 = find_none p faults.Kind (faults.TenBitTag ∷ faults.Hints ∷ faults.Digest ∷ faults.Poisoned ∷ faults.Translated ∷ kind_faults) s2.1 in
    let h : is_none (kind_of (slice_index b 0)) ≡ true = ap is_none e in absurd cc

front_none : (p : TlpFault → Bool) (xs ys : List TlpFault) → find p (xs ++ ys) ≡ None → (find p xs ≡ None) × (find p ys ≡ None)
front_none p [] ys e = (refl, e)
front_none p (x ∷ xs) ys e = let s = find_none p x (xs ++ ys) e in let r = front_none p xs ys s.1 in (find_skip p x xs s.0 r.0, r.1)

-- bytes that meet no fault are spelled by the value that the tables make of them
pub faultless : (b : List ℕ) → IsBytes b → first_fault b ≡ None → (t : TlpView) × Spells b t
faultless b fits n =
    let k = kind_there b (kind_of (slice_index b 0)) refl n in
    let s = front_none (λ f. holds f b) header_faults kind_faults n in
    let q = find_none (λ f. holds f b) faults.Short (faults.Prefix ∷ faults.Kind ∷ faults.TenBitTag ∷ faults.Hints ∷ faults.Digest ∷ faults.Poisoned ∷ faults.Translated ∷ []) s.0 in
    (packet_at b k.0, made b k.0 fits (at_most (length b) (header_length b) q.0) k.1 s.0 s.1)

read_none : (o : Option TlpFault) (b : List ℕ) (k : Option Kind) (t : TlpView) → read_as o k b ≡ Ok t → o ≡ None
read_none None b k t e = refl
read_none (Some f) b k t e = absurd cc

pub spelled_reading : (b : List ℕ) (t : TlpView) → IsBytes b → reading b ≡ Ok t → Spells b t
spelled_reading b t fits e =
    let s = faultless b fits (read_none (first_fault b) b (kind_of (slice_index b 0)) t e) in
    subst (Spells b) (ok_is s.0 t (sym (reading_spelled b s.0 s.1) ∙ e)) s.1
