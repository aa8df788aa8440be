-- The text of a packet is a printed line that begins with a letter.
use Rattle.std.proofs.Common.{◌≡◌, ℕ, ◌+◌, ◌*◌, ◌/◌, ◌%◌, ◌^◌, ◌<◌, ◌≤◌, Bool, true, false, List, [], ◌∷◌, ◌++◌, length, refl, sym, ap, subst, length-append, arith, suc, slice_index, Option, Some}
use Rattle.std.specs.Prelude.{◌==◌, ◌&&◌, nat_le, codes}
use Rattle.std.specs.Fmt.{decimal, digit_glyph}
use Rattle.std.proofs.lemmas.Fmt.{length-decimal-le}
use Rattle.std.proofs.lemmas.Bool.{and_parts}
use Rattle.std.proofs.lemmas.Bool.Decides.{nat_tests}
use Rattle.std.proofs.lemmas.List.Elements.{All-nil, All-cons, All-append}
use Rattle.hex.specs.Hex.{encode_upper, encode_with, upper_digits}
use Rattle.hex.proofs.HexLemmas.{length-encode_with}
use Rattle.tlp_core.specs.declared.packet.Kind.{Kind}
use Rattle.tlp_core.specs.declared.packet.Kind.TheVariants as kinds
use Rattle.tlp_core.specs.declared.packet.Body.{Body}
use Rattle.tlp_core.specs.declared.packet.Body.TheVariants as bodies
use Rattle.tlp_core.specs.declared.packet.Status.{Status}
use Rattle.tlp_core.specs.declared.packet.Status.TheVariants as statuses
use Rattle.tlp_core.specs.Ops.{Op}
use Rattle.tlp_core.specs.declared.operation.OpOf.TheVariants as ops
use Rattle.tlp_core.specs.Bits.{IsBytes}
use Rattle.tlp_core.specs.TlpView as tlp
use Rattle.dllp_core.specs.declared.packet.Class.{Class}
use Rattle.dllp_core.specs.declared.packet.Class.TheVariants as classes
use Rattle.dllp_core.specs.declared.packet.Dllp.{Dllp}
use Rattle.dllp_core.specs.declared.packet.Dllp.TheVariants as dllps
use Rattle.dllp_core.specs.Layout.{FitsFields}
use Rattle.byteorder.specs.Endian.{little_bytes}
use Rattle.config_core.specs.declared.request.CfgRequest.{CfgRequest}
use Rattle.config_core.specs.Canonical as configuration
use Rattle.operation_text.specs.Operations.{op_spelled}
use Rattle.operation_text.specs.Texts.{op_text, op_words, IsPrinted, IsPrintedChar}
use Rattle.packet_text.specs.declared.packet.Packet.{Packet}
use Rattle.packet_text.specs.declared.packet.Packet.TheVariants as packets
use Rattle.packet_text.specs.Packets.{IsPacket, IsTlp}
use Rattle.packet_text.specs.Texts.{id_text, named, class_text, origin_text, request_text, status_text, data_text, completer_text, completion_text, tlp_text_by, tlp_text, credits_text, dllp_text, id_and_tag_text, access_text, function_text, register_text, written_text, configuration_text, packet_text}
use Rattle.operation_text.specs.Texts.{octet_text, sequence_text, hexadecimal}
use Rattle.packet_text.specs.Lines.{BeginsWithLetter}
use Rattle.packet_text.proofs.DigitLemmas.{glyph-range, glyph-is}
use Rattle.packet_text.proofs.OpLemmas.{Laws, Asked, asked}
use Rattle.packet_text.proofs.ConfigurationLemmas.{dw-bytes}

-- what is known of printed texts
pub record Printing : Type 0 where
  pub of_decimal : (n : ℕ) → IsPrinted (decimal n)
  pub of_hexadecimal : (n : ℕ) → IsPrinted (hexadecimal n)
  pub hexadecimal_short : (n : ℕ) → n < 2 ^ 64 → length (hexadecimal n) ≤ 16
  pub of_op : (ws : List (List ℕ)) (op : Op) → op_spelled ws ≡ Some op → IsPrinted (op_text op)
  pub op_short : (ws : List (List ℕ)) (op : Op) → op_spelled ws ≡ Some op → length (op_text op) ≤ 320

-- printed, and at most so long
record Sized (n : ℕ) (text : List ℕ) : Type 0 where
  printed : IsPrinted text
  short : length text ≤ n

joined : (m n : ℕ) (xs ys : List ℕ) → Sized m xs → Sized n ys → Sized (m + n) (xs ++ ys)
joined m n xs ys h k = record {
  printed = All-append IsPrintedChar xs ys h.printed k.printed;
  short = omega (arith, length-append xs ys, h.short, k.short);
}

-- the test of a printed text
is_printed : List ℕ → Bool
is_printed [] = true
is_printed (c ∷ cs) = (nat_le 32 c && nat_le c 126) && is_printed cs

printed-is : (cs : List ℕ) → is_printed cs ≡ true → IsPrinted cs
unfolding is_printed
printed-is [] h = All-nil IsPrintedChar
printed-is (c ∷ cs) h =
    let parts = and_parts (nat_le 32 c && nat_le c 126) (is_printed cs) h in
    let char = and_parts (nat_le 32 c) (nat_le c 126) parts.0 in
    All-cons IsPrintedChar c cs (le-of 32 c char.0, le-of c 126 char.1) (printed-is cs parts.1)
  where
    le-of : (a b : ℕ) → nat_le a b ≡ true → a ≤ b
    le-of a b t = grind (arith, nat_tests)

literal : (cs : List ℕ) → is_printed cs ≡ true → Sized (length cs) cs
literal cs h = record { printed = printed-is cs h; short = omega arith }

-- one digit before others
digit : (k n : ℕ) (text : List ℕ) → k < 16 → Sized n text → Sized (n + 1) (digit_glyph true k ∷ text)
digit k n text lt h = record {
  printed = All-cons IsPrintedChar (digit_glyph true k) text (let r = glyph-range k lt in (omega (arith, r.0), omega (arith, r.1))) h.printed;
  short = omega (arith, h.short);
}

none : Sized 0 []
none = record { printed = All-nil IsPrintedChar; short = omega arith }

octet : (n : ℕ) → n < 256 → Sized 2 (octet_text n)
octet n lt = digit (n / 16) 1 (digit_glyph true (n % 16) ∷ []) (omega arith) (digit (n % 16) 0 [] (omega arith) none)

sequence : (n : ℕ) → n < 4096 → Sized 3 (sequence_text n)
sequence n lt = digit (n / 256) 2 (octet_text (n % 256)) (omega arith) (octet (n % 256) (omega arith))

id : (n : ℕ) → n < 65536 → Sized 4 (id_text n)
id n lt = joined 2 2 (octet_text (n / 256)) (octet_text (n % 256)) (octet (n / 256) (omega arith)) (octet (n % 256) (omega arith))

number : (R : Printing) (k n : ℕ) → 0 < k → n < 10 ^ k → n < 2 ^ 64 → Sized k (decimal n)
number R k n some small fits = record { printed = R.of_decimal n; short = length-decimal-le k n some small fits }

bytes : (bs : List ℕ) → IsBytes bs → Sized (2 * length bs) (encode_upper bs)
unfolding encode_with
bytes bs are = record { printed = all bs are; short = omega (arith, length-encode_with upper_digits bs) }
  where
    char : (k : ℕ) → k < 16 → IsPrintedChar (digit_glyph true k)
    char k lt = let r = glyph-range k lt in (omega (arith, r.0), omega (arith, r.1))

    all : (bs : List ℕ) → IsBytes bs → IsPrinted (encode_upper bs)
    all [] h = All-nil IsPrintedChar
    all (b ∷ bs) h =
        let fits : b < 256 = h 0 in
        let high = subst IsPrintedChar (sym (glyph-is (b / 16) (omega arith))) (char (b / 16) (omega arith)) in
        let low = subst IsPrintedChar (sym (glyph-is (b % 16) (omega arith))) (char (b % 16) (omega arith)) in
        All-cons IsPrintedChar (slice_index upper_digits (b / 16)) (slice_index upper_digits (b % 16) ∷ encode_upper bs) high
        (All-cons IsPrintedChar (slice_index upper_digits (b % 16)) (encode_upper bs) low (all bs (λ k. h (suc k))))

-- ---- TLPs

name-number : (R : Printing) (m n : ℕ) (name : List ℕ) → n < 8 → Sized m name → Sized (m + 1) (named name n)
name-number R m n name lt h = by (n == 0) refl
  where
    by : (a : Bool) → (n == 0) ≡ a → Sized (m + 1) (named name n)
    by true e = rw e (record { printed = All-nil IsPrintedChar; short = omega arith })
    by false e = rw e (joined m 1 name (decimal n) h (number R 1 n (omega arith) (omega arith) (omega arith)))

class : (R : Printing) (tc attr : ℕ) → tc < 8 → attr < 8 → Sized 12 (class_text tc attr)
unfolding is_printed
class R tc attr ht ha =
    joined 5 7 (named (codes " tc ") tc) (named (codes " attr ") attr)
    (name-number R 4 tc (codes " tc ") ht (literal (codes " tc ") refl)) (name-number R 6 attr (codes " attr ") ha (literal (codes " attr ") refl))

origin : (t : tlp.TlpView) → t.requester < 65536 → t.tag < 256 → Sized 11 (origin_text t)
unfolding is_printed
origin t hr ht = joined 4 7 (id_text t.requester) (codes " tag " ++ octet_text t.tag) (id t.requester hr) (joined 5 2 (codes " tag ") (octet_text t.tag) (literal (codes " tag ") refl) (octet t.tag ht))

request : (R : Printing) (t : tlp.TlpView) (op : Op) → op_spelled (op_words op) ≡ Some op → t.requester < 65536 → t.tag < 256 → t.tc < 8 → t.attr < 8 → Sized 349 (request_text t op)
unfolding is_printed
request R t op reads hr ht h k =
    joined 320 29 (op_text op) (codes " from " ++ (origin_text t ++ class_text t.tc t.attr)) (record { printed = R.of_op (op_words op) op reads; short = R.op_short (op_words op) op reads })
    (joined 6 23 (codes " from ") (origin_text t ++ class_text t.tc t.attr) (literal (codes " from ") refl)
    (joined 11 12 (origin_text t) (class_text t.tc t.attr) (origin t hr ht) (class R t.tc t.attr h k)))

status : (s : Status) → Sized 2 (status_text s)
unfolding is_printed
status statuses.Success = literal (codes "sc") refl
status statuses.Unsupported = literal (codes "ur") refl
status statuses.Aborted = literal (codes "ca") refl

given : (bs : List ℕ) → length bs ≤ 128 → IsBytes bs → Sized 257 (32 ∷ encode_upper bs)
given bs few are =
    let h = bytes bs are in
    record { printed = All-cons IsPrintedChar 32 (encode_upper bs) (omega arith, omega arith) h.printed; short = omega (arith, h.short, few) }

completer : (R : Printing) (c n l : ℕ) → c < 65536 → n ≤ 4096 → l < 128 → Sized 30 (completer_text c n l)
unfolding is_printed
completer R c n l hc hn hl =
    joined 4 26 (codes " by ") (id_text c ++ (codes " count " ++ (decimal n ++ (codes " lower " ++ octet_text l)))) (literal (codes " by ") refl)
    (joined 4 22 (id_text c) (codes " count " ++ (decimal n ++ (codes " lower " ++ octet_text l))) (id c hc)
    (joined 7 15 (codes " count ") (decimal n ++ (codes " lower " ++ octet_text l)) (literal (codes " count ") refl)
    (joined 4 11 (decimal n) (codes " lower " ++ octet_text l) (number R 4 n (omega arith) (omega arith) (omega arith))
    (wider 9 11 (codes " lower " ++ octet_text l) (omega arith) (joined 7 2 (codes " lower ") (octet_text l) (literal (codes " lower ") refl) (octet l (omega arith)))))))
  where
    wider : (m n : ℕ) (xs : List ℕ) → m ≤ n → Sized m xs → Sized n xs
    wider m n xs le h = record { printed = h.printed; short = omega (arith, h.short) }

completion : (R : Printing) (t : tlp.TlpView) (c n l : ℕ) (s : Status) → Sized 257 (data_text t.kind t.payload) → c < 65536 → n ≤ 4096 → l < 128
    → t.requester < 65536 → t.tag < 256 → t.tc < 8 → t.attr < 8 → Sized 327 (completion_text t (bodies.Completion c s n l))
unfolding is_printed
completion R t c n l s d hc hn hl hr ht h k =
    joined 11 316 (codes "completion ") _ (literal (codes "completion ") refl)
    (joined 2 314 (status_text s) _ (status s)
    (joined 257 57 (data_text t.kind t.payload) _ d
    (joined 4 53 (codes " to ") _ (literal (codes " to ") refl)
    (joined 11 42 (origin_text t) _ (origin t hr ht)
    (joined 30 12 (completer_text c n l) (class_text t.tc t.attr) (completer R c n l hc hn hl) (class R t.tc t.attr h k))))))

-- a line of at most 400 bytes
record Line (text : List ℕ) : Type 0 where
  sized : Sized 400 text
  letter : BeginsWithLetter text

at_most : (n : ℕ) (text : List ℕ) → n ≤ 400 → Sized n text → Sized 400 text
at_most n text le h = record { printed = h.printed; short = omega (arith, h.short) }

op-letter : (op : Op) (rest : List ℕ) → BeginsWithLetter (op_text op ++ rest)
op-letter (ops.Read a dw f l) rest = (omega arith, omega arith)
op-letter (ops.Write a f l bytes) rest = (omega arith, omega arith)
op-letter (ops.FetchAdd a w x) rest = (omega arith, omega arith)
op-letter (ops.Swap a w x) rest = (omega arith, omega arith)
op-letter (ops.Cas a w x y) rest = (omega arith, omega arith)

request-line : (R : Printing) (t : tlp.TlpView) → Asked t.kind t.body t.length t.payload → IsTlp t → Line (tlp_text t)
request-line R t A h =
    let text : tlp_text t ≡ request_text t A.op = ap (λ (op : Option Op). tlp_text_by op t) A.is in
    subst Line (sym text) (record {
      sized = at_most 349 (request_text t A.op) (omega arith) (request R t A.op A.reads h.requester h.tag h.grammar.tc h.grammar.attr);
      letter = op-letter A.op (codes " from " ++ (origin_text t ++ class_text t.tc t.attr));
    })

-- a TLP by its parts
abbrev tlp_with : Kind → ℕ → ℕ → ℕ → ℕ → ℕ → Body → List ℕ → tlp.TlpView
tlp_with k tc attr dw requester tag body bytes = record { kind = k; tc = tc; attr = attr; length = dw; requester = requester; tag = tag; body = body; payload = bytes }

tlp-line : (L : Laws) (R : Printing) (k : Kind) (tc attr dw requester tag : ℕ) (body : Body) (bytes : List ℕ) → IsTlp (tlp_with k tc attr dw requester tag body bytes) → Line (tlp_text (tlp_with k tc attr dw requester tag body bytes))
tlp-line L R kinds.Completion tc attr dw requester tag (bodies.Request a f l) bs h = absurd h.grammar.fits
tlp-line L R kinds.Completion tc attr dw requester tag (bodies.Completion c s n l) bs h =
    let fits = h.grammar.fits in
    let t = tlp_with kinds.Completion tc attr dw requester tag (bodies.Completion c s n l) bs in
    record {
      sized = at_most 327 (tlp_text t) (omega arith) (completion R t c n l s (record { printed = All-nil IsPrintedChar; short = omega arith }) h.body fits.1 fits.2 h.requester h.tag h.grammar.tc h.grammar.attr);
      letter = (omega arith, omega arith);
    }
tlp-line L R kinds.CompletionData tc attr dw requester tag (bodies.Request a f l) bs h = absurd h.grammar.fits
tlp-line L R kinds.CompletionData tc attr dw requester tag (bodies.Completion c s n l) bs h =
    let fits = h.grammar.fits in
    let t = tlp_with kinds.CompletionData tc attr dw requester tag (bodies.Completion c s n l) bs in
    record {
      sized = at_most 327 (tlp_text t) (omega arith) (completion R t c n l s (given bs (omega (arith, fits.4, fits.5)) h.payload) h.body fits.1 fits.2 h.requester h.tag h.grammar.tc h.grammar.attr);
      letter = (omega arith, omega arith);
    }
tlp-line L R kinds.MemoryRead tc attr dw requester tag body bs h = request-line R _ (asked L kinds.MemoryRead body dw bs h.grammar.fits h.body h.payload refl) h
tlp-line L R kinds.MemoryWrite tc attr dw requester tag body bs h = request-line R _ (asked L kinds.MemoryWrite body dw bs h.grammar.fits h.body h.payload refl) h
tlp-line L R kinds.FetchAdd tc attr dw requester tag body bs h = request-line R _ (asked L kinds.FetchAdd body dw bs h.grammar.fits h.body h.payload refl) h
tlp-line L R kinds.Swap tc attr dw requester tag body bs h = request-line R _ (asked L kinds.Swap body dw bs h.grammar.fits h.body h.payload refl) h
tlp-line L R kinds.Cas tc attr dw requester tag body bs h = request-line R _ (asked L kinds.Cas body dw bs h.grammar.fits h.body h.payload refl) h

-- ---- DLLPs

credits : (c : Class) → Sized 3 (credits_text c)
unfolding is_printed
credits classes.Posted = record { printed = printed-is (codes "p") refl; short = omega arith }
credits classes.NonPosted = record { printed = printed-is (codes "np") refl; short = omega arith }
credits classes.Completion = literal (codes "cpl") refl

dllp-line : (R : Printing) (d : Dllp) → FitsFields d → Line (dllp_text d)
unfolding is_printed
dllp-line R (dllps.Ack n) h = record { sized = at_most 7 _ (omega arith) (joined 4 3 (codes "ack ") (sequence_text n) (literal (codes "ack ") refl) (sequence n h)); letter = (omega arith, omega arith) }
dllp-line R (dllps.Nak n) h = record { sized = at_most 7 _ (omega arith) (joined 4 3 (codes "nak ") (sequence_text n) (literal (codes "nak ") refl) (sequence n h)); letter = (omega arith, omega arith) }
dllp-line R (dllps.Update c header units) h =
    let last = joined 1 4 (codes " ") (decimal units) (literal (codes " ") refl) (number R 4 units (omega arith) (omega (arith, h.1)) (omega (arith, h.1))) in
    let both = joined 1 8 (codes " ") (decimal header ++ (codes " " ++ decimal units)) (literal (codes " ") refl) (joined 3 5 (decimal header) (codes " " ++ decimal units) (number R 3 header (omega arith) (omega (arith, h.0)) (omega (arith, h.0))) last) in
    record {
      sized = at_most 19 _ (omega arith) (joined 7 12 (codes "update ") _ (literal (codes "update ") refl) (joined 3 9 (credits_text c) _ (credits c) both));
      letter = (omega arith, omega arith);
    }

-- ---- configuration requests

hexa : (R : Printing) (n : ℕ) → n < 2 ^ 64 → Sized 16 (hexadecimal n)
hexa R n fits = record { printed = R.of_hexadecimal n; short = R.hexadecimal_short n fits }

access : (w t : Bool) → Sized 9 (access_text w t)
unfolding is_printed
access false false = record { printed = printed-is (codes "cfgread") refl; short = omega arith }
access false true = record { printed = printed-is (codes "cfgread1") refl; short = omega arith }
access true false = record { printed = printed-is (codes "cfgwrite") refl; short = omega arith }
access true true = literal (codes "cfgwrite1") refl

access-letter : (w t : Bool) (text : List ℕ) → BeginsWithLetter (access_text w t ++ text)
access-letter false false text = (omega arith, omega arith)
access-letter false true text = (omega arith, omega arith)
access-letter true false text = (omega arith, omega arith)
access-letter true true text = (omega arith, omega arith)

function : (R : Printing) (b d f : ℕ) → b < 256 → d < 32 → f < 8 → Sized 50 (function_text b d f)
unfolding is_printed
function R b d f hb hd hf =
    joined 16 34 (hexadecimal b) _ (hexa R b (omega arith))
    (joined 1 33 (codes ":") _ (literal (codes ":") refl)
    (joined 16 17 (hexadecimal d) _ (hexa R d (omega arith))
    (joined 1 16 (codes ".") (hexadecimal f) (literal (codes ".") refl) (hexa R f (omega arith)))))

register : (R : Printing) (n e : ℕ) → e < 16 → Sized 20 (register_text n e)
unfolding is_printed
register R n e he =
    joined 3 17 (sequence_text (n % 4096)) _ (sequence (n % 4096) (omega arith))
    (joined 1 16 (codes " ") (hexadecimal e) (literal (codes " ") refl) (hexa R e (omega arith)))

written : (w : Bool) (v : ℕ) → Sized 9 (written_text w v)
unfolding is_printed
written true v = joined 1 8 (codes " ") (encode_upper (little_bytes 4 v)) (literal (codes " ") refl) (bytes (little_bytes 4 v) (dw-bytes v))
written false v = record { printed = All-nil IsPrintedChar; short = omega arith }

id-and-tag : (r t : ℕ) → r < 65536 → t < 256 → Sized 11 (id_and_tag_text r t)
unfolding is_printed
id-and-tag r t hr ht = joined 4 7 (id_text r) (codes " tag " ++ octet_text t) (id r hr) (joined 5 2 (codes " tag ") (octet_text t) (literal (codes " tag ") refl) (octet t ht))

configuration-line : (R : Printing) (r : CfgRequest) → configuration.FitsFields r → Line (configuration_text r)
unfolding is_printed
configuration-line R r h = record {
  sized = at_most 107 (configuration_text r) (omega arith)
      (joined 9 98 (access_text r.writes r.is_type_1) _ (access r.writes r.is_type_1)
      (joined 1 97 (codes " ") _ (literal (codes " ") refl)
      (joined 50 47 (function_text r.bus r.device r.function) _ (function R r.bus r.device r.function h.bus h.device h.function)
      (joined 1 46 (codes " ") _ (literal (codes " ") refl)
      (joined 20 26 (register_text r.register r.enables) _ (register R r.register r.enables h.enables)
      (joined 9 17 (written_text r.writes r.value) _ (written r.writes r.value)
      (joined 6 11 (codes " from ") (id_and_tag_text r.requester r.tag) (literal (codes " from ") refl) (id-and-tag r.requester r.tag h.requester h.tag))))))));
  letter = access-letter r.writes r.is_type_1 _;
}

packet-line : (L : Laws) (R : Printing) (p : Packet) → IsPacket p → Line (packet_text p)
packet-line L R (packets.Tlp t) h = tlp-line L R t.kind t.tc t.attr t.length t.requester t.tag t.body t.payload h
packet-line L R (packets.Configuration r) h = configuration-line R r h
packet-line L R (packets.Dllp d) h = dllp-line R d h

pub printed : (L : Laws) (R : Printing) (p : Packet) → IsPacket p → IsPrinted (packet_text p)
printed L R p h = (packet-line L R p h).sized.printed

pub short : (L : Laws) (R : Printing) (p : Packet) → IsPacket p → length (packet_text p) ≤ 400
short L R p h = (packet-line L R p h).sized.short

pub letter : (L : Laws) (R : Printing) (p : Packet) → IsPacket p → BeginsWithLetter (packet_text p)
letter L R p h = (packet-line L R p h).letter
