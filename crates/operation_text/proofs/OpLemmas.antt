-- What some text spells, and that its own text spells it.
use Rattle.std.proofs.Common.{◌≡◌, ℕ, zero, suc, ◌+◌, ◌*◌, ◌^◌, ◌<◌, ◌≤◌, Bool, true, false, List, [], ◌∷◌, ◌++◌, length, refl, sym, ap, subst, ◌∙◌, length-append, arith, Option, Some, None, inl, inr}
use Rattle.std.specs.Prelude.{◌==◌, ◌&&◌, ◌||◌, ◌⊎◌, not, nat_lt, nat_le, cond, Ok, Err, Result, codes, bytes_eq}
use Rattle.std.specs.Char.{digit_value}
use Rattle.std.specs.List.{join_with_byte}
use Rattle.std.specs.Fmt.{decimal}
use Rattle.std.specs.Str.Parse.{AllDigits, digits_value, digits_value_after}
use Rattle.std.proofs.lemmas.Fmt.{length-decimal-le, decimal-digits_value}
use Rattle.std.proofs.lemmas.Str.Parse.{numerals_by_value, tells_digits}
use Rattle.std.proofs.lemmas.List.Elements.{All-nil, All-cons, All-append}
use Rattle.std.proofs.lemmas.Bool.{and_parts, cases_Bool, cases_eq, eqb-true, eq-eqb, ne_eqb}
use Rattle.std.proofs.lemmas.Bool.Decides.{nat_tests}
use Rattle.hex.specs.Hex.{encode_upper, upper_digits, decode_of, IsBytes}
use Rattle.hex.specs.declared.error.FromHexError.{FromHexError}
use Rattle.hex.proofs.HexLemmas.{length-encode_with, decode_of-ok}
use Rattle.byteorder.specs.Endian.{little_number, little_bytes}
use Rattle.byteorder.specs.Numbers.{little_number-reads_back, little_from-lt, length-bytes_low_first}
use Rattle.std.specs.Int.{byte_at, bytes_low_first}
use Rattle.tlp_core.specs.Ops.{Op}
use Rattle.tlp_core.specs.declared.operation.OpOf.TheVariants as ops
use Rattle.tlp_core.specs.declared.operation.Width.{Width}
use Rattle.tlp_core.specs.declared.operation.Width.TheVariants as widths
use Rattle.tlp_core.specs.Operation.{size_of}
use Rattle.seq_memory.specs.Entries.{Reply}
use Rattle.seq_memory.specs.declared.reply.ReplyOf.TheVariants as replies
use Rattle.operation_text.specs.Words.{words, field, then_with, ended}
use Rattle.operation_text.specs.Numbers.{numeral, numeral_after, byte_string, operand_of, decoded}
use Rattle.operation_text.specs.Operations as spelled
use Rattle.operation_text.specs.Operations.{op_spelled, reply_spelled}
use Rattle.operation_text.specs.Texts.{IsPrintedChar, IsPrinted, hexadecimal, operand_word, op_words, op_text, reply_words, reply_text}
use Rattle.operation_text.proofs.DigitLemmas.{hexadecimal-short}
use Rattle.operation_text.proofs.ReadBackLemmas.{IsWord, AreWords, hexadecimal-word, decimal-word, encode-word, words-joined, hexadecimal-reads, decimal-reads, bytes-read}

-- ---- values that texts spell

abbrev IsAddress : ℕ → Type 0
IsAddress a = a < 2 ^ 64

pub record IsData (bytes : List ℕ) : Type 0 where
  pub some : 0 < length bytes
  pub few : length bytes ≤ 128
  pub are_bytes : IsBytes bytes

abbrev IsOperand : Width → ℕ → Type 0
IsOperand w x = x < 256 ^ size_of w

abbrev IsSpelled : Op → Type 0
IsSpelled (ops.Read a dw f l) = IsAddress a × (dw ≤ 65535) × (f ≤ 15) × (l ≤ 15)
IsSpelled (ops.Write a f l bytes) = IsAddress a × (f ≤ 15) × (l ≤ 15) × IsData bytes.items
IsSpelled (ops.FetchAdd a w x) = IsAddress a × IsOperand w x
IsSpelled (ops.Swap a w x) = IsAddress a × IsOperand w x
IsSpelled (ops.Cas a w x y) = IsAddress a × IsOperand w x × IsOperand w y

abbrev IsSpelledReply : Reply → Type 0
IsSpelledReply replies.Done = ⊥
IsSpelledReply (replies.Data bytes) = IsData bytes.items
IsSpelledReply replies.Unsupported = Unit {0}
IsSpelledReply replies.Aborted = Unit {0}

-- ---- what the fields of a line are

-- the field that a line begins with, and what follows
record Field {X Y : Type 0} (spells : List ℕ → Option X) (f : X → List (List ℕ) → Option Y) (y : Y) : Type 0 where
  value : X
  word : List ℕ
  rest : List (List ℕ)
  is : spells word ≡ Some value
  follows : f value rest ≡ Some y

field-first : {X Y : Type 0} (spells : List ℕ → Option X) (f : X → List (List ℕ) → Option Y) (ws : List (List ℕ)) (y : Y)
    → field spells f ws ≡ Some y → Field spells f y
field-first spells f [] y h = absurd (cc h)
field-first {X} {Y} spells f (w ∷ rest) y h = by (spells w) refl h
  where
    by : (o : Option X) → spells w ≡ o → then_with {X = X × List (List ℕ)} (then_with o (λ x. Some (x, rest))) (λ s. f s.0 s.1) ≡ Some y → Field spells f y
    by None e k = absurd (cc k)
    by (Some x) e k = record { value = x; word = w; rest = rest; is = e; follows = k }

ended-is : {X : Type 0} (x y : X) (ws : List (List ℕ)) → ended x ws ≡ Some y → x ≡ y
ended-is x y [] h = cc h
ended-is x y (w ∷ ws) h = absurd (cc h)

-- one of two ways
either : {Y : Type 0} (P : Type 0) (t : Bool) (a b : Option Y) (y : Y) → (a ≡ Some y → P) → (b ≡ Some y → P) → cond t a b ≡ Some y → P
either P true a b y f g h = f h
either P false a b y f g h = g h

-- a number is no greater than it may be
numeral_after-range : (radix most n m : ℕ) (cs : List ℕ) → n ≤ most → numeral_after radix most n cs ≡ Some m → m ≤ most
numeral_after-range radix most n m [] le h = let e : n ≡ m = cc h in omega (arith, e)
numeral_after-range radix most n m (c ∷ cs) le h = elim (cases_Bool (nat_lt (digit_value c) radix && nat_le (n * radix + digit_value c) most)) [
  | inl hit ↦
      let small : n * radix + digit_value c ≤ most = grind (arith, nat_tests) in
      numeral_after-range radix most (n * radix + digit_value c) m cs small (rw hit at h)
  | inr miss ↦ absurd (let k = rw miss at h in cc k)
]

pub numeral-range : (radix most m : ℕ) (w : List ℕ) → numeral radix most w ≡ Some m → m ≤ most
numeral-range radix most m [] h = absurd (cc h)
numeral-range radix most m (c ∷ cs) h = elim (cases_Bool ((c == 48) && not (length cs == 0))) [
  | inl hit ↦ absurd (let k = rw hit at h in cc k)
  | inr miss ↦ numeral_after-range radix most 0 m (c ∷ cs) (omega arith) (rw miss at h)
]

-- digits that spell a number
record Continues (radix n m : ℕ) (ds : List ℕ) : Type 0 where
  digits : AllDigits radix ds
  value : digits_value_after radix n ds ≡ m

after-spells : (radix most n m : ℕ) (ds : List ℕ) → numeral_after radix most n ds ≡ Some m → Continues radix n m ds
after-spells radix most n m [] h = record { digits = tt; value = cc h }
after-spells radix most n m (c ∷ cs) h = elim (cases_Bool (nat_lt (digit_value c) radix && nat_le (n * radix + digit_value c) most)) [
  | inl hit ↦
      let more = after-spells radix most (n * radix + digit_value c) m cs (rw hit at h) in
      let small : digit_value c < radix = grind (arith, nat_tests) in
      record { digits = (small, more.digits); value = more.value }
  | inr miss ↦ absurd (let k = rw miss at h in cc k)
]

-- only a number's own digits spell it in decimal
pub own-digits : (most n : ℕ) (word : List ℕ) → most < 2 ^ 64 → numeral 10 most word ≡ Some n → word ≡ decimal n
own-digits most n [] small h = absurd (cc h)
own-digits most n (c ∷ cs) small h = elim (cases_Bool ((c == 48) && not (length cs == 0))) [
  | inl leads ↦ absurd (let k = rw leads at h in cc k)
  | inr fine ↦
      let spells = after-spells 10 most 0 n (c ∷ cs) (rw fine at h) in
      let below : n ≤ most = numeral-range 10 most n (c ∷ cs) h in
      let lead : c ≡ 48 → length (c ∷ cs) ≡ 1 = λ e. by (cases_eq (length cs) 0) e fine in
      let is : digits_value 10 (c ∷ cs) ≡ n = spells.value in
      sym (decimal-digits_value (numerals_by_value (AllDigits 10) tells_digits) (c ∷ cs) spells.digits (omega arith) lead (omega (arith, is, below, small))) ∙ ap decimal is
]
  where
    by : (length cs ≡ 0) ⊎ (length cs ≡ 0 → ⊥) → c ≡ 48 → ((c == 48) && not (length cs == 0)) ≡ false → length (c ∷ cs) ≡ 1
    by (inl none) e f = omega (arith, none)
    by (inr some) e f = absurd (let k = rw (eq-eqb c 48 e, ne_eqb (length cs) 0 some) at f in cc k)

byte_string-is : (w bytes : List ℕ) → byte_string w ≡ Some bytes → IsData bytes
byte_string-is w bytes h = elim (cases_Bool ((length w == 0) || nat_lt 256 (length w))) [
  | inl hit ↦ absurd (let k = rw hit at h in cc k)
  | inr miss ↦ by (decode_of w) refl (rw miss at h) miss
]
  where
    by : (r : Result (List ℕ) FromHexError) → decode_of w ≡ r → decoded r ≡ Some bytes → ((length w == 0) || nat_lt 256 (length w)) ≡ false → IsData bytes
    by (Err e) is k short = absurd (cc k)
    by (Ok b) is k short =
        let same : b ≡ bytes = cc k in
        let ok = decode_of-ok w b is in
        let len : length w ≡ 2 * length b = ok.2 in
        let some : 0 < length w = grind (arith, nat_tests) in
        let few : length w ≤ 256 = grind (arith, nat_tests) in
        subst IsData same (record { some = omega arith; few = omega arith; are_bytes = ok.3 })

-- an operand is below the powers of its width
little-range : (n : ℕ) (bytes : List ℕ) → IsBytes bytes → little_number n bytes < 256 ^ n
little-range n bytes h = little_from-lt 0 n bytes h

some-is : {A : Type 0} (x y : A) → Some x ≡ Some y → x ≡ y
some-is x y e = cc e

pair-is : (p q : Width × ℕ) → Some p ≡ Some q → IsOperand p.0 p.1 → IsOperand q.0 q.1
pair-is p q e h = subst (λ (r : Width × ℕ). IsOperand r.0 r.1) (some-is p q e) h

operand_of-is : (bytes : List ℕ) (w : Width) (x : ℕ) → IsBytes bytes → operand_of bytes ≡ Some (w, x) → IsOperand w x
operand_of-is bytes w x h e = elim (cases_Bool (length bytes == 4)) [
  | inl four ↦ let k = rw four at e in pair-is (widths.Four, little_number 4 bytes) (w, x) k (little-range 4 bytes h)
  | inr no4 ↦ elim (cases_Bool (length bytes == 8)) [
    | inl eight ↦ let k = rw (no4, eight) at e in pair-is (widths.Eight, little_number 8 bytes) (w, x) k (little-range 8 bytes h)
    | inr no8 ↦ elim (cases_Bool (length bytes == 16)) [
      | inl sixteen ↦ let k = rw (no4, no8, sixteen) at e in pair-is (widths.Sixteen, little_number 16 bytes) (w, x) k (little-range 16 bytes h)
      | inr no16 ↦ absurd (let k = rw (no4, no8, no16) at e in cc k)
    ]
  ]
]

operand-is : (word : List ℕ) (w : Width) (x : ℕ) → spelled.operand word ≡ Some (w, x) → IsOperand w x
operand-is word w x h = by (byte_string word) refl h
  where
    by : (o : Option (List ℕ)) → byte_string word ≡ o → then_with o operand_of ≡ Some (w, x) → IsOperand w x
    by None e k = absurd (cc k)
    by (Some bytes) e k = operand_of-is bytes w x (byte_string-is word bytes e).are_bytes k

address-is : (word : List ℕ) (a : ℕ) → spelled.address word ≡ Some a → IsAddress a
address-is word a h = let r = numeral-range 16 18446744073709551615 a word h in omega arith

-- ---- what some text spells

read-is : (ws : List (List ℕ)) (op : Op) → spelled.read_of ws ≡ Some op → IsSpelled op
read-is ws op h =
    let a = field-first spelled.address _ ws op h in
    let dw = field-first spelled.count _ a.rest op a.follows in
    let f = field-first spelled.enables _ dw.rest op dw.follows in
    let l = field-first spelled.enables _ f.rest op f.follows in
    subst IsSpelled (ended-is _ op l.rest l.follows) (address-is a.word a.value a.is, numeral-range 10 65535 dw.value dw.word dw.is, numeral-range 16 15 f.value f.word f.is, numeral-range 16 15 l.value l.word l.is)

write-is : (ws : List (List ℕ)) (op : Op) → spelled.write_of ws ≡ Some op → IsSpelled op
write-is ws op h =
    let a = field-first spelled.address _ ws op h in
    let f = field-first spelled.enables _ a.rest op a.follows in
    let l = field-first spelled.enables _ f.rest op f.follows in
    let b = field-first byte_string _ l.rest op l.follows in
    subst IsSpelled (ended-is _ op b.rest b.follows) (address-is a.word a.value a.is, numeral-range 16 15 f.value f.word f.is, numeral-range 16 15 l.value l.word l.is, byte_string-is b.word b.value b.is)

add-is : (ws : List (List ℕ)) (op : Op) → spelled.add_of ws ≡ Some op → IsSpelled op
add-is ws op h =
    let a = field-first spelled.address _ ws op h in
    let x = field-first spelled.operand _ a.rest op a.follows in
    subst IsSpelled (ended-is _ op x.rest x.follows) (address-is a.word a.value a.is, operand-is x.word x.value.0 x.value.1 x.is)

swap-is : (ws : List (List ℕ)) (op : Op) → spelled.swap_of ws ≡ Some op → IsSpelled op
swap-is ws op h =
    let a = field-first spelled.address _ ws op h in
    let x = field-first spelled.operand _ a.rest op a.follows in
    subst IsSpelled (ended-is _ op x.rest x.follows) (address-is a.word a.value a.is, operand-is x.word x.value.0 x.value.1 x.is)

cas_by-is : (a : ℕ) (x y : Width × ℕ) (ws : List (List ℕ)) (op : Op) → IsAddress a → IsOperand x.0 x.1 → IsOperand y.0 y.1 → spelled.cas_by a x y ws ≡ Some op → IsSpelled op
cas_by-is a x y ws op ha hx hy h = elim (cases_Bool (size_of x.0 == size_of y.0)) [
  | inl hit ↦
      let same : size_of x.0 ≡ size_of y.0 = eqb-true (size_of x.0) (size_of y.0) hit in
      let second : IsOperand x.0 y.1 = subst (λ (n : ℕ). y.1 < 256 ^ n) (sym same) hy in
      subst IsSpelled (ended-is (ops.Cas a x.0 x.1 y.1) op ws (rw hit at h)) (ha, hx, second)
  | inr miss ↦ absurd (let k = rw miss at h in cc k)
]

cas-is : (ws : List (List ℕ)) (op : Op) → spelled.cas_of ws ≡ Some op → IsSpelled op
cas-is ws op h =
    let a = field-first spelled.address _ ws op h in
    let x = field-first spelled.operand _ a.rest op a.follows in
    let y = field-first spelled.operand _ x.rest op x.follows in
    cas_by-is a.value x.value y.value y.rest op (address-is a.word a.value a.is) (operand-is x.word x.value.0 x.value.1 x.is) (operand-is y.word y.value.0 y.value.1 y.is) y.follows

pub op-is : (ws : List (List ℕ)) (op : Op) → op_spelled ws ≡ Some op → IsSpelled op
op-is [] op h = absurd (cc h)
op-is (kind ∷ ws) op h =
    either (IsSpelled op) (bytes_eq kind (codes "read")) _ _ op (read-is ws op)
    (either (IsSpelled op) (bytes_eq kind (codes "write")) _ _ op (write-is ws op)
    (either (IsSpelled op) (bytes_eq kind (codes "add")) _ _ op (add-is ws op)
    (either (IsSpelled op) (bytes_eq kind (codes "swap")) _ _ op (swap-is ws op)
    (either (IsSpelled op) (bytes_eq kind (codes "cas")) _ _ op (cas-is ws op) (λ n. absurd (cc n)))))) h

data-is : (ws : List (List ℕ)) (reply : Reply) → spelled.data_of ws ≡ Some reply → IsSpelledReply reply
data-is ws reply h =
    let b = field-first byte_string _ ws reply h in
    subst IsSpelledReply (ended-is _ reply b.rest b.follows) (byte_string-is b.word b.value b.is)

pub reply-is : (ws : List (List ℕ)) (reply : Reply) → reply_spelled ws ≡ Some reply → IsSpelledReply reply
reply-is [] reply h = absurd (cc h)
reply-is (kind ∷ ws) reply h =
    either (IsSpelledReply reply) (bytes_eq kind (codes "data")) _ _ reply (data-is ws reply)
    (either (IsSpelledReply reply) (bytes_eq kind (codes "ur")) _ _ reply (λ u. subst IsSpelledReply (ended-is replies.Unsupported reply ws u) tt)
    (either (IsSpelledReply reply) (bytes_eq kind (codes "ca")) _ _ reply (λ u. subst IsSpelledReply (ended-is replies.Aborted reply ws u) tt) (λ n. absurd (cc n)))) h

-- ---- what the own text spells

byte_at-fits : (i x : ℕ) → byte_at i x < 256
byte_at-fits zero x = omega arith
byte_at-fits (suc i) x = omega arith

bytes-low : (i n x : ℕ) → IsBytes (bytes_low_first i n x)
bytes-low i zero x k = omega arith
bytes-low i (suc n) x zero = byte_at-fits i x
bytes-low i (suc n) x (suc k) = bytes-low (suc i) n x k

operand-data : (w : Width) (x : ℕ) → IsData (little_bytes (size_of w) x)
operand-data w x = record { some = some w; few = few w; are_bytes = bytes-low 0 (size_of w) x }
  where
    some : (w : Width) → 0 < length (little_bytes (size_of w) x)
    some widths.Four = omega arith
    some widths.Eight = omega arith
    some widths.Sixteen = omega arith

    few : (w : Width) → length (little_bytes (size_of w) x) ≤ 128
    few widths.Four = omega arith
    few widths.Eight = omega arith
    few widths.Sixteen = omega arith

operand-reads : (w : Width) (x : ℕ) → IsOperand w x → spelled.operand (operand_word w x) ≡ Some (w, x)
operand-reads w x h =
    let d = operand-data w x in
    rw (bytes-read (little_bytes (size_of w) x) d.some d.few d.are_bytes) (by w h)
  where
    by : (w : Width) → IsOperand w x → operand_of (little_bytes (size_of w) x) ≡ Some (w, x)
    by widths.Four h = ap (λ (n : ℕ). Some (widths.Four, n)) (little_number-reads_back 4 x [] h)
    by widths.Eight h = ap (λ (n : ℕ). Some (widths.Eight, n)) (little_number-reads_back 8 x [] h)
    by widths.Sixteen h = ap (λ (n : ℕ). Some (widths.Sixteen, n)) (little_number-reads_back 16 x [] h)

op-reads : (op : Op) → IsSpelled op → op_spelled (op_words op) ≡ Some op
op-reads (ops.Read a dw f l) h =
    rw (
      hexadecimal-reads 18446744073709551615 a (omega arith) h.0,
      decimal-reads 65535 dw h.1 (omega arith),
      hexadecimal-reads 15 f h.2 (omega arith),
      hexadecimal-reads 15 l h.3 (omega arith),
    ) refl
op-reads (ops.Write a f l bytes) h =
    rw (
      hexadecimal-reads 18446744073709551615 a (omega arith) h.0,
      hexadecimal-reads 15 f h.1 (omega arith),
      hexadecimal-reads 15 l h.2 (omega arith),
      bytes-read bytes.items h.3.some h.3.few h.3.are_bytes,
    ) refl
op-reads (ops.FetchAdd a w x) h = rw (hexadecimal-reads 18446744073709551615 a (omega arith) h.0, operand-reads w x h.1) refl
op-reads (ops.Swap a w x) h = rw (hexadecimal-reads 18446744073709551615 a (omega arith) h.0, operand-reads w x h.1) refl
op-reads (ops.Cas a w x y) h =
    let same : (size_of w == size_of w) ≡ true = eq-eqb (size_of w) (size_of w) refl in
    rw (hexadecimal-reads 18446744073709551615 a (omega arith) h.0, operand-reads w x h.1, operand-reads w y h.2, same) refl

reply-reads : (reply : Reply) → IsSpelledReply reply → reply_spelled (reply_words reply) ≡ Some reply
reply-reads replies.Done h = absurd h
reply-reads (replies.Data bytes) h = rw (bytes-read bytes.items h.some h.few h.are_bytes) refl
reply-reads replies.Unsupported h = refl
reply-reads replies.Aborted h = refl

-- ---- the own words

is_word : List ℕ → Bool
is_word [] = true
is_word (c ∷ cs) = (nat_le 33 c && nat_le c 126) && is_word cs

word-is : (cs : List ℕ) → is_word cs ≡ true → IsWord cs
unfolding is_word
word-is [] h = tt
word-is (c ∷ cs) h =
    let parts = and_parts (nat_le 33 c && nat_le c 126) (is_word cs) h in
    let char = and_parts (nat_le 33 c) (nat_le c 126) parts.0 in
    ((le-of 33 c char.0, le-of c 126 char.1), word-is cs parts.1)
  where
    le-of : (a b : ℕ) → nat_le a b ≡ true → a ≤ b
    le-of a b t = grind (arith, nat_tests)

-- a printed text of these words
record Written (text : List ℕ) (ws : List (List ℕ)) : Type 0 where
  split : words text ≡ ws
  printed : IsPrinted text

pub printed-word : (w : List ℕ) → IsWord w → IsPrinted w
printed-word [] h = All-nil IsPrintedChar
printed-word (c ∷ w) h = All-cons IsPrintedChar c w (let k = h.0.0 in omega arith, h.0.1) (printed-word w h.1)

printed-joined : (w : List ℕ) (ws : List (List ℕ)) → IsWord w → AreWords ws → IsPrinted (join_with_byte 32 (w ∷ ws))
printed-joined w [] h hs = printed-word w h
printed-joined w (v ∷ ws) h hs =
    All-append IsPrintedChar w (32 ∷ join_with_byte 32 (v ∷ ws)) (printed-word w h)
    (All-cons IsPrintedChar 32 (join_with_byte 32 (v ∷ ws)) (omega arith, omega arith) (printed-joined v ws hs.0 hs.1))

joined : (w : List ℕ) (ws : List (List ℕ)) → IsWord w → AreWords ws → Written (join_with_byte 32 (w ∷ ws)) (w ∷ ws)
joined w ws h hs = record { split = words-joined w ws h hs; printed = printed-joined w ws h hs }

operand-word : (w : Width) (x : ℕ) → IsWord (operand_word w x)
operand-word w x = encode-word (little_bytes (size_of w) x) (operand-data w x).are_bytes

op-written : (op : Op) → IsSpelled op → Written (op_text op) (op_words op)
unfolding is_word
op-written (ops.Read a dw f l) h = joined (codes "read") (hexadecimal a ∷ decimal dw ∷ hexadecimal f ∷ hexadecimal l ∷ []) (word-is (codes "read") refl) (hexadecimal-word a, (decimal-word dw, (hexadecimal-word f, (hexadecimal-word l, tt))))
op-written (ops.Write a f l bytes) h = joined (codes "write") (hexadecimal a ∷ hexadecimal f ∷ hexadecimal l ∷ encode_upper bytes.items ∷ []) (word-is (codes "write") refl) (hexadecimal-word a, (hexadecimal-word f, (hexadecimal-word l, (encode-word bytes.items h.3.are_bytes, tt))))
op-written (ops.FetchAdd a w x) h = joined (codes "add") (hexadecimal a ∷ operand_word w x ∷ []) (word-is (codes "add") refl) (hexadecimal-word a, (operand-word w x, tt))
op-written (ops.Swap a w x) h = joined (codes "swap") (hexadecimal a ∷ operand_word w x ∷ []) (word-is (codes "swap") refl) (hexadecimal-word a, (operand-word w x, tt))
op-written (ops.Cas a w x y) h = joined (codes "cas") (hexadecimal a ∷ operand_word w x ∷ operand_word w y ∷ []) (word-is (codes "cas") refl) (hexadecimal-word a, (operand-word w x, (operand-word w y, tt)))

reply-written : (reply : Reply) → IsSpelledReply reply → Written (reply_text reply) (reply_words reply)
unfolding is_word
reply-written replies.Done h = absurd h
reply-written (replies.Data bytes) h = joined (codes "data") (encode_upper bytes.items ∷ []) (word-is (codes "data") refl) (encode-word bytes.items h.are_bytes, tt)
reply-written replies.Unsupported h = joined (codes "ur") [] (word-is (codes "ur") refl) tt
reply-written replies.Aborted h = joined (codes "ca") [] (word-is (codes "ca") refl) tt

-- ---- how long they are

length-operand : (w : Width) (x : ℕ) → length (operand_word w x) ≤ 32
length-operand w x =
    let len = length-encode_with upper_digits (little_bytes (size_of w) x) in
    let bytes = length-bytes_low_first 0 (size_of w) x in
    let small = width-small w in
    omega arith
  where
    width-small : (w : Width) → size_of w ≤ 16
    width-small widths.Four = omega arith
    width-small widths.Eight = omega arith
    width-small widths.Sixteen = omega arith

-- one word more
longer : (w : List ℕ) (text : List ℕ) → length (w ++ 32 ∷ text) ≡ length w + 1 + length text
longer w text = omega (arith, length-append w (32 ∷ text))

op-length : (op : Op) → IsSpelled op → length (op_text op) ≤ 320
op-length (ops.Read a dw f l) h =
    let la = hexadecimal-short a h.0 in
    let ld = length-decimal-le 5 dw (omega arith) (omega (arith, h.1)) (omega (arith, h.1)) in
    let lf = hexadecimal-short f (omega (arith, h.2)) in
    let ll = hexadecimal-short l (omega (arith, h.3)) in
    omega (
      arith,
      la,
      ld,
      lf,
      ll,
      longer (hexadecimal a) (join_with_byte 32 (decimal dw ∷ hexadecimal f ∷ hexadecimal l ∷ [])),
      longer (decimal dw) (join_with_byte 32 (hexadecimal f ∷ hexadecimal l ∷ [])),
      longer (hexadecimal f) (hexadecimal l),
    )
op-length (ops.Write a f l bytes) h =
    let la = hexadecimal-short a h.0 in
    let lf = hexadecimal-short f (omega (arith, h.1)) in
    let ll = hexadecimal-short l (omega (arith, h.2)) in
    let lb = length-encode_with upper_digits bytes.items in
    let few = h.3.few in
    omega (
      arith,
      la,
      lf,
      ll,
      lb,
      few,
      longer (hexadecimal a) (join_with_byte 32 (hexadecimal f ∷ hexadecimal l ∷ encode_upper bytes.items ∷ [])),
      longer (hexadecimal f) (join_with_byte 32 (hexadecimal l ∷ encode_upper bytes.items ∷ [])),
      longer (hexadecimal l) (encode_upper bytes.items),
    )
op-length (ops.FetchAdd a w x) h = omega (arith, hexadecimal-short a h.0, length-operand w x, longer (hexadecimal a) (operand_word w x))
op-length (ops.Swap a w x) h = omega (arith, hexadecimal-short a h.0, length-operand w x, longer (hexadecimal a) (operand_word w x))
op-length (ops.Cas a w x y) h =
    omega (
      arith,
      hexadecimal-short a h.0,
      length-operand w x,
      length-operand w y,
      longer (hexadecimal a) (join_with_byte 32 (operand_word w x ∷ operand_word w y ∷ [])),
      longer (operand_word w x) (operand_word w y),
    )

reply-length : (reply : Reply) → IsSpelledReply reply → length (reply_text reply) ≤ 261
reply-length replies.Done h = absurd h
reply-length (replies.Data bytes) h = let few = h.few in omega (arith, length-encode_with upper_digits bytes.items)
reply-length replies.Unsupported h = omega arith
reply-length replies.Aborted h = omega arith

-- ---- the laws

pub op-read_back : (ws : List (List ℕ)) (op : Op) → op_spelled ws ≡ Some op → op_spelled (words (op_text op)) ≡ Some op
op-read_back ws op h = ap op_spelled (op-written op (op-is ws op h)).split ∙ op-reads op (op-is ws op h)

pub op-printed : (ws : List (List ℕ)) (op : Op) → op_spelled ws ≡ Some op → IsPrinted (op_text op)
op-printed ws op h = (op-written op (op-is ws op h)).printed

pub op-short : (ws : List (List ℕ)) (op : Op) → op_spelled ws ≡ Some op → length (op_text op) ≤ 320
op-short ws op h = op-length op (op-is ws op h)

pub reply-read_back : (ws : List (List ℕ)) (reply : Reply) → reply_spelled ws ≡ Some reply → reply_spelled (words (reply_text reply)) ≡ Some reply
reply-read_back ws reply h = ap reply_spelled (reply-written reply (reply-is ws reply h)).split ∙ reply-reads reply (reply-is ws reply h)

pub reply-printed : (ws : List (List ℕ)) (reply : Reply) → reply_spelled ws ≡ Some reply → IsPrinted (reply_text reply)
reply-printed ws reply h = (reply-written reply (reply-is ws reply h)).printed

pub reply-short : (ws : List (List ℕ)) (reply : Reply) → reply_spelled ws ≡ Some reply → length (reply_text reply) ≤ 261
reply-short ws reply h = reply-length reply (reply-is ws reply h)
