-- The canonical bytes of a request.
use Rattle.std.proofs.Common.{◌≡◌, ◌≢◌, ◌∙◌, ℕ, suc, ◌+◌, ◌*◌, ◌/◌, ◌%◌, ◌^◌, ◌<◌, ◌≤◌, Bool, true, false, cond, List, [], ◌∷◌, length, drop, Option, Some, None, Ok, IfOk, refl, sym, ap, subst, arith}
use Rattle.std.specs.Prelude.{slice_index, ◌==◌, ◌||◌, not, nat_lt, if◌then◌else◌}
use Rattle.std.specs.Int.{byte_at}
use Rattle.std.proofs.Math.Seq.{drop-cons}
use Rattle.std.proofs.lemmas.Bool.{eqb-true}
use Rattle.std.proofs.lemmas.Bool.Decides.{nat_tests}
use Rattle.std.proofs.lemmas.List.{append-nil, get_or-drop, nil_from_length, length-drop}
use Rattle.byteorder.specs.Endian.{little_bytes, little_number}
use Rattle.byteorder.specs.Numbers.{little_number-reads_back, little_from-lt, big_from-lt}
use Rattle.config_core.specs.declared.request.CfgRequest.{CfgRequest}
use Rattle.config_core.specs.declared.fault.CfgFault.{CfgFault}
use Rattle.config_core.specs.declared.fault.CfgFault.TheVariants as faults
use Rattle.config_core.specs.Layout.{Spells, first_fault, is_kind, is_write, is_type_1, size_of, has_fields, read_as, reading, request_at}
use Rattle.config_core.specs.Canonical.{FitsFields, IsBytes, canonical, code_of, data_of, is_written}
use Rattle.config_core.proofs.Reading.{only}

-- ---- canonical bytes spell their request

few_enables : (n : ℕ) → n < 16 → (n / 16 == 0) ≡ true
few_enables n h = grind (arith, nat_tests)

not_short : (n m : ℕ) → n ≡ 12 + m → nat_lt n 12 ≡ false
not_short n m e = grind (arith, nat_tests)

matched : (n m : ℕ) → n ≡ m → (not (n == m) || (not (0 % 4 == 0) || not (1 == 1))) ≡ false
matched n m e = grind (arith, nat_tests)

-- a fault that doesn't hold, and none behind it
clear : (a : Bool) (fault : CfgFault) (o : Option CfgFault) → a ≡ false → o ≡ None → cond a (Some fault) o ≡ None
clear true fault o h e = absurd (cc h)
clear false fault o h e = e

-- the fields of bytes with this code, and this DW behind the header
spells_with : (r : CfgRequest) (code : ℕ) (words : List ℕ) → code_of r.writes r.is_type_1 ≡ code → data_of r.writes r.value ≡ words
    → is_kind code ≡ true → r.writes ≡ is_write code → r.is_type_1 ≡ is_type_1 code → 12 + length words ≡ size_of code
    → r.value ≡ (if is_write code then little_number 4 words else 0) → FitsFields r → Spells (canonical r) r
spells_with r code words e d kind writes type_1 long value f =
    let enables : (r.enables / 16 == 0) ≡ true = few_enables r.enables f.enables in
    let count : length (canonical r) ≡ 12 + length (data_of r.writes r.value) = omega arith in
    let size : 12 + length (data_of r.writes r.value) ≡ size_of (code_of r.writes r.is_type_1) = rw (e, d) long in
    let known : not (is_kind (code_of r.writes r.is_type_1)) ≡ false = rw (e, kind) refl in
    let zeros : has_fields (canonical r) ≡ false = rw enables refl in
    let fault : first_fault (canonical r) ≡ None =
    clear _ faults.Short _ (not_short (length (canonical r)) (length (data_of r.writes r.value)) count)
    (clear _ faults.Kind _ known
    (clear _ faults.LengthMismatch _ (matched (length (canonical r)) (size_of (code_of r.writes r.is_type_1)) (count ∙ size))
    (clear _ faults.Fields _ zeros refl))) in
    record {
      faultless = fault;
      writes = rw e writes;
      type_1 = rw e type_1;
      requester = omega (arith, f.requester);
      tag = refl;
      bus = refl;
      device = omega (arith, f.function);
      function = omega (arith, f.function);
      register = omega (arith, f.register, f.whole);
      enables = omega (arith, f.enables);
      value = rw (e, d) value;
    }

value_back : (v : ℕ) → v < 2 ^ 32 → v ≡ little_number 4 (little_bytes 4 v)
value_back v h = sym (ap (little_number 4) (sym (append-nil (little_bytes 4 v))) ∙ little_number-reads_back 4 v [] h)

spells_by : (w t : Bool) (r : CfgRequest) → r.writes ≡ w → r.is_type_1 ≡ t → FitsFields r → Spells (canonical r) r
spells_by true true r w t f =
    let value : is_written true r.value = subst (λ (b : Bool). is_written b r.value) w f.value in
    spells_with r 0x45 (little_bytes 4 r.value) (rw (w, t) refl) (rw w refl) refl w t refl (value_back r.value value) f
spells_by true false r w t f =
    let value : is_written true r.value = subst (λ (b : Bool). is_written b r.value) w f.value in
    spells_with r 0x44 (little_bytes 4 r.value) (rw (w, t) refl) (rw w refl) refl w t refl (value_back r.value value) f
spells_by false true r w t f =
    let value : is_written false r.value = subst (λ (b : Bool). is_written b r.value) w f.value in
    spells_with r 0x05 [] (rw (w, t) refl) (rw w refl) refl w t refl value f
spells_by false false r w t f =
    let value : is_written false r.value = subst (λ (b : Bool). is_written b r.value) w f.value in
    spells_with r 0x04 [] (rw (w, t) refl) (rw w refl) refl w t refl value f

pub spells_canonical : (r : CfgRequest) → FitsFields r → Spells (canonical r) r
spells_canonical r f = spells_by r.writes r.is_type_1 r refl refl f

pub reads_canonical : (r : CfgRequest) → FitsFields r → reading (canonical r) ≡ Ok r
reads_canonical r f = only (canonical r) r (spells_canonical r f)

-- ---- what is read fits its fields

behind : (n : ℕ) (bytes : List ℕ) → IsBytes bytes → IsBytes (drop n bytes)
behind n bytes h k = subst (λ (x : ℕ). x < 256) (sym (get_or-drop n bytes k 0)) (h (n + k))

value_by : (w : Bool) (b : List ℕ) → IsBytes b → is_written w (if w then little_number 4 (drop 12 b) else 0)
value_by true b h = little_from-lt 0 4 (drop 12 b) (behind 12 b h)
value_by false b h = refl

fields_fit : (b : List ℕ) → IsBytes b → FitsFields (request_at b)
fields_fit b h = record {
  requester = big_from-lt 0 2 (drop 4 b) (behind 4 b h);
  tag = h 6;
  bus = h 8;
  device = omega (arith, h 9);
  function = omega arith;
  register = omega (arith, h 10, h 11);
  whole = omega arith;
  enables = omega arith;
  value = value_by (is_write (slice_index b 0)) b h;
}

fits_by : (o : Option CfgFault) (b : List ℕ) → IsBytes b → IfOk (read_as o b) FitsFields
fits_by None b h = fields_fit b h
fits_by (Some fault) b h = tt

pub what_is_read_fits : (b : List ℕ) → IsBytes b → IfOk (reading b) FitsFields
what_is_read_fits b h = fits_by (first_fault b) b h

read_by : (o : Option CfgFault) (b : List ℕ) (r : CfgRequest) → read_as o b ≡ Ok r → (o ≡ None) × (request_at b ≡ r)
read_by None b r e = (refl, cc e)
read_by (Some fault) b r e = absurd (cc e)

pub read_fits : (b : List ℕ) (r : CfgRequest) → IsBytes b → reading b ≡ Ok r → FitsFields r
read_fits b r h e = subst FitsFields (read_by (first_fault b) b r e).1 (fields_fit b h)

-- ---- bytes that were read are the canonical bytes of what they are read as

not_this : (a : Bool) (fault : CfgFault) (o : Option CfgFault) → cond a (Some fault) o ≡ None → (a ≡ false) × (o ≡ None)
not_this true fault o e = absurd (cc e)
not_this false fault o e = (refl, e)

three : (a b c : Bool) → (not a || (not b || not c)) ≡ false → (a ≡ true) × ((b ≡ true) × (c ≡ true))
three true true true h = (refl, (refl, refl))
three false b c h = absurd (cc)
three true false c h = absurd (cc)
three true true false h = absurd (cc)

not_false : (a : Bool) → not a ≡ false → a ≡ true
not_false true h = refl
not_false false h = absurd (cc h)

differs : (x y : ℕ) → (x == y) ≡ false → x ≢ y
differs x y h = grind (arith, nat_tests)

-- the header's bytes that are given
record Given (b : List ℕ) : Type 0 where
  long : length b ≡ size_of (slice_index b 0)
  kind : is_kind (slice_index b 0) ≡ true
  one : slice_index b 1 ≡ 0
  two : slice_index b 2 ≡ 0
  three : slice_index b 3 ≡ 1
  seven : slice_index b 7 < 16

given : (b : List ℕ) → IsBytes b → first_fault b ≡ None → Given b
given b h e =
    let short = not_this _ _ _ e in
    let kind = not_this _ _ _ short.1 in
    let digest = not_this _ _ _ kind.1 in
    let poisoned = not_this _ _ _ digest.1 in
    let mismatched = not_this _ _ _ poisoned.1 in
    let fields = not_this _ _ _ mismatched.1 in
    let b2 = h 2 in
    let no_digest : slice_index b 2 / 128 ≢ 1 = differs (slice_index b 2 / 128) 1 digest.0 in
    let no_poison : slice_index b 2 / 64 % 2 ≢ 1 = differs (slice_index b 2 / 64 % 2) 1 poisoned.0 in
    let lengths = three (length b == size_of (slice_index b 0)) (slice_index b 2 % 4 == 0) (slice_index b 3 == 1) mismatched.0 in
    let others = three (slice_index b 1 == 0) (slice_index b 2 / 4 % 16 == 0) (slice_index b 7 / 16 == 0) fields.0 in
    let low = eqb-true (slice_index b 2 % 4) 0 lengths.1.0 in
    let middle = eqb-true (slice_index b 2 / 4 % 16) 0 others.1.0 in
    let high = eqb-true (slice_index b 7 / 16) 0 others.1.1 in
    record {
      long = eqb-true (length b) (size_of (slice_index b 0)) lengths.0;
      kind = not_false (is_kind (slice_index b 0)) kind.0;
      one = eqb-true (slice_index b 1) 0 others.0;
      two = omega (arith, b2, no_digest, no_poison, low, middle);
      three = eqb-true (slice_index b 3) 1 lengths.1.1;
      seven = omega (arith, high);
    }

-- one byte of a list, and those behind it
next : (b : List ℕ) (k x : ℕ) (xs : List ℕ) → k < length b → x ≡ slice_index b k → xs ≡ drop (suc k) b → x ∷ xs ≡ drop k b
next b k x xs l e t = ap (λ v. v ∷ xs) e ∙ ap (λ v. slice_index b k ∷ v) t ∙ sym (drop-cons b k 0 l)

code_back : (c : ℕ) → is_kind c ≡ true → code_of (is_write c) (is_type_1 c) ≡ c
code_back c h = grind (arith, nat_tests)

cell : {x y : ℕ} {xs ys : List ℕ} → x ≡ y → xs ≡ ys → x ∷ xs ≡ y ∷ ys
cell {x = x} {ys = ys} e t = ap (λ v. x ∷ v) t ∙ ap (λ v. v ∷ ys) e

number_bytes : (x0 x1 x2 x3 : ℕ) → x0 < 256 → x1 < 256 → x2 < 256 → x3 < 256 → little_bytes 4 (little_number 4 (x0 ∷ x1 ∷ x2 ∷ x3 ∷ [])) ≡ x0 ∷ x1 ∷ x2 ∷ x3 ∷ []
number_bytes x0 x1 x2 x3 h0 h1 h2 h3 =
    let v = x0 + 256 * (x1 + 256 * (x2 + 256 * (x3 + 256 * 0))) in
    let e0 : byte_at 0 v ≡ x0 = omega (arith, h0) in
    let e1 : byte_at 1 v ≡ x1 = omega (arith, h0, h1) in
    let e2 : byte_at 2 v ≡ x2 = omega (arith, h0, h1, h2) in
    let e3 : byte_at 3 v ≡ x3 = omega (arith, h0, h1, h2, h3) in
    cell e0 (cell e1 (cell e2 (cell e3 refl)))

four : (ys : List ℕ) → length ys ≡ 4 → IsBytes ys → little_bytes 4 (little_number 4 ys) ≡ ys
four [] l h = absurd (cc l)
four (x0 ∷ []) l h = absurd (omega (arith, l))
four (x0 ∷ x1 ∷ []) l h = absurd (omega (arith, l))
four (x0 ∷ x1 ∷ x2 ∷ []) l h = absurd (omega (arith, l))
four (x0 ∷ x1 ∷ x2 ∷ x3 ∷ []) l h = number_bytes x0 x1 x2 x3 (h 0) (h 1) (h 2) (h 3)
four (x0 ∷ x1 ∷ x2 ∷ x3 ∷ x4 ∷ xs) l h = absurd (omega (arith, l))

data_back : (w : Bool) (b : List ℕ) → IsBytes b → length b ≡ (if w then 16 else 12) → data_of w (if w then little_number 4 (drop 12 b) else 0) ≡ drop 12 b
data_back true b h l = four (drop 12 b) (omega (arith, l, length-drop 12 b)) (behind 12 b h)
data_back false b h l = sym (nil_from_length (drop 12 b) (omega (arith, l, length-drop 12 b)))

at_least : (w : Bool) (n : ℕ) → n ≡ (if w then 16 else 12) → 12 ≤ n
at_least true n e = omega (arith, e)
at_least false n e = omega (arith, e)

again : (b : List ℕ) → IsBytes b → Given b → slice_index b 10 / 16 ≡ 0 → slice_index b 11 % 4 ≡ 0 → canonical (request_at b) ≡ b
again b h g ten eleven =
    let l = at_least (is_write (slice_index b 0)) (length b) g.long in
    let h4 = get_or-drop 4 b 0 0 in
    let h5 = get_or-drop 4 b 1 0 in
    next b 0 _ _ (omega (arith, l)) (code_back (slice_index b 0) g.kind)
    (next b 1 _ _ (omega (arith, l)) (sym g.one)
    (next b 2 _ _ (omega (arith, l)) (sym g.two)
    (next b 3 _ _ (omega (arith, l)) (sym g.three)
    (next b 4 _ _ (omega (arith, l)) (omega (arith, h4, h5, h 4, h 5))
    (next b 5 _ _ (omega (arith, l)) (omega (arith, h4, h5, h 4, h 5))
    (next b 6 _ _ (omega (arith, l)) refl
    (next b 7 _ _ (omega (arith, l)) (omega (arith, g.seven))
    (next b 8 _ _ (omega (arith, l)) refl
    (next b 9 _ _ (omega (arith, l)) (omega arith)
    (next b 10 _ _ (omega (arith, l)) (omega (arith, ten, eleven, h 10, h 11))
    (next b 11 _ _ (omega (arith, l)) (omega (arith, ten, eleven, h 10, h 11))
    (data_back (is_write (slice_index b 0)) b h g.long))))))))))))

pub canonical_again : (b : List ℕ) (r : CfgRequest) → IsBytes b → reading b ≡ Ok r → slice_index b 10 / 16 ≡ 0 → slice_index b 11 % 4 ≡ 0 → canonical r ≡ b
canonical_again b r h e ten eleven =
    let is = read_by (first_fault b) b r e in
    ap canonical (sym is.1) ∙ again b h (given b h is.0) ten eleven
