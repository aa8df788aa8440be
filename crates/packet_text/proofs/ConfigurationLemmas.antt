-- The text of a configuration request is read back as that request.
use Rattle.std.proofs.Common.{◌≡◌, ◌∙◌, ℕ, zero, suc, ◌%◌, ◌^◌, ◌<◌, Bool, true, false, List, [], ◌∷◌, ◌++◌, length, refl, sym, ap, inl, inr, arith, Some}
use Rattle.std.specs.Prelude.{codes, Ok, ◌⊎◌}
use Rattle.std.proofs.lemmas.Bool.{cases_lt}
use Rattle.std.proofs.lemmas.List.{append-nil}
use Rattle.byteorder.specs.Endian.{little_bytes, little_number}
use Rattle.byteorder.specs.Numbers.{little_number-reads_back}
use Rattle.hex.specs.Hex.{encode_upper}
use Rattle.tlp_core.specs.Bits.{IsBytes}
use Rattle.config_core.specs.declared.request.CfgRequest.{CfgRequest}
use Rattle.config_core.specs.Canonical.{FitsFields, is_written}
use Rattle.operation_text.specs.Numbers.{byte_string}
use Rattle.operation_text.specs.Texts.{hexadecimal, octet_text, sequence_text}
use Rattle.packet_text.specs.declared.packet.Packet.TheVariants as packets
use Rattle.packet_text.specs.declared.configuration.Access.{Access}
use Rattle.packet_text.specs.Texts.{id_text, id_and_tag_text, function_text, register_text, written_text, configuration_text}
use Rattle.packet_text.specs.Forms as forms
use Rattle.packet_text.specs.Forms.{text_reading}
use Rattle.packet_text.proofs.WordLemmas.{Lacks, lacks, lacks-append, IsPart, part, IsTail, tail-none, tail-word}
use Rattle.packet_text.proofs.DigitLemmas.{one-digit, two-digits, glyph-colon, glyph-point, short-reads, cut-reads, sequence-reads}
use Rattle.packet_text.proofs.OpLemmas.{Laws, bytes-read}
use Rattle.packet_text.proofs.ReadBack.{glyph-not, octet-lacks, sequence-lacks, space, literal, origin_words, origin-tail, id_and_tag-reads, encode-part}

-- ---- bus, device and function

hexadecimal-lacks : (n x : ℕ) → n < 256 → (x < 48) ⊎ (70 < x) → Lacks x (hexadecimal n)
hexadecimal-lacks n x lt out = elim (cases_lt n 16) [
  | inl one ↦ rw (one-digit n one) (glyph-not n x one out, tt)
  | inr two ↦ rw (two-digits n two lt) (octet-lacks n x lt out)
]

function-part : (bus device function : ℕ) → bus < 256 → device < 32 → function < 8 → IsPart (function_text bus device function)
function-part bus device function hb hd hf =
    part (function_text bus device function)
    (lacks-append 32 (hexadecimal bus) (58 ∷ (hexadecimal device ++ 46 ∷ hexadecimal function)) (hexadecimal-lacks bus 32 hb space) (
      (λ e. omega (arith, e)),
      lacks-append 32 (hexadecimal device) (46 ∷ hexadecimal function) (hexadecimal-lacks device 32 (omega arith) space)
          ((λ e. omega (arith, e)), hexadecimal-lacks function 32 (omega arith) space),
    ))

function-of : (w b behind d last : List ℕ) (bus device function : ℕ) → forms.cut_at 58 w ≡ Some (b, behind) → forms.cut_at 46 behind ≡ Some (d, last)
    → forms.short 255 b ≡ Some bus → forms.short 31 d ≡ Some device → forms.short 7 last ≡ Some function → forms.function w ≡ Some (bus, device, function)
function-of w b behind d last bus device function e f g h i = rw (e, f, g, h, i) refl

function-reads : (bus device function : ℕ) → bus < 256 → device < 32 → function < 8 → forms.function (function_text bus device function) ≡ Some (bus, device, function)
function-reads bus device function hb hd hf =
    function-of (function_text bus device function) (hexadecimal bus) (hexadecimal device ++ 46 ∷ hexadecimal function) (hexadecimal device) (hexadecimal function) bus device function
    (cut-reads 58 bus (hexadecimal device ++ 46 ∷ hexadecimal function) hb glyph-colon)
    (cut-reads 46 device (hexadecimal function) (omega arith) glyph-point)
    (short-reads 255 bus (omega arith) hb) (short-reads 31 device (omega arith) (omega arith)) (short-reads 7 function (omega arith) (omega arith))

-- ---- the register and its bytes

register-of : (w : List ℕ) (n : ℕ) → forms.sequence w ≡ Some n → n % 4 ≡ 0 → forms.register w ≡ Some n
register-of w n e f = rw (e, f) refl

register-reads : (n : ℕ) → n < 4096 → n % 4 ≡ 0 → forms.register (sequence_text (n % 4096)) ≡ Some n
register-reads n lt whole =
    let same : n % 4096 ≡ n = omega arith in
    ap (λ (k : ℕ). forms.register (sequence_text k)) same ∙ register-of (sequence_text n) n (sequence-reads n lt) whole

pub dw-bytes : (v : ℕ) → IsBytes (little_bytes 4 v)
dw-bytes v zero = omega arith
dw-bytes v (suc zero) = omega arith
dw-bytes v (suc (suc zero)) = omega arith
dw-bytes v (suc (suc (suc zero))) = omega arith
dw-bytes v (suc (suc (suc (suc k)))) = omega arith

dw-of : (w bytes : List ℕ) (v : ℕ) → byte_string w ≡ Some bytes → length bytes ≡ 4 → little_number 4 bytes ≡ v → forms.dw w ≡ Some v
dw-of w bytes v e f g = rw (e, f, g) refl

dw-reads : (v : ℕ) → v < 2 ^ 32 → forms.dw (encode_upper (little_bytes 4 v)) ≡ Some v
dw-reads v lt =
    dw-of (encode_upper (little_bytes 4 v)) (little_bytes 4 v) v (bytes-read (little_bytes 4 v) (omega arith) (omega arith) (dw-bytes v)) refl
    (ap (little_number 4) (sym (append-nil (little_bytes 4 v))) ∙ little_number-reads_back 4 v [] lt)

written_words : Bool → ℕ → List (List ℕ) → List (List ℕ)
written_words true value ws = encode_upper (little_bytes 4 value) ∷ ws
written_words false value ws = ws

written-reads : (w : Bool) (value : ℕ) (ws : List (List ℕ)) → is_written w value → forms.written w (written_words w value ws) ≡ Some (value, ws)
unfolding written_words
written-reads true value ws h = by (encode_upper (little_bytes 4 value)) (dw-reads value h)
  where
    by : (v : List ℕ) → forms.dw v ≡ Some value → forms.written true (v ∷ ws) ≡ Some (value, ws)
    by v e = rw e refl
written-reads false value ws h = ap (λ (n : ℕ). Some (n, ws)) (sym h)

written-tail : (w : Bool) (value : ℕ) (text : List ℕ) (ws : List (List ℕ)) → IsTail text ws → IsTail (written_text w value ++ text) (written_words w value ws)
unfolding written_words
written-tail true value text ws h = tail-word (encode_upper (little_bytes 4 value)) text ws (encode-part (little_bytes 4 value) (dw-bytes value)) h
written-tail false value text ws h = h

-- ---- the line behind the request's name

-- a request by its parts
abbrev request_with : Access → ℕ → ℕ → ℕ → ℕ → ℕ → ℕ → ℕ → ℕ → CfgRequest
request_with a requester tag bus device function register enables value = record {
  writes = a.writes;
  is_type_1 = a.is_type_1;
  requester = requester;
  tag = tag;
  bus = bus;
  device = device;
  function = function;
  register = register;
  enables = enables;
  value = value;
}

from_words : ℕ → ℕ → List (List ℕ)
from_words requester tag = codes "from" ∷ origin_words requester tag []

from-tail : (requester tag : ℕ) → requester < 65536 → tag < 256 → IsTail (codes " from " ++ id_and_tag_text requester tag) (from_words requester tag)
unfolding from_words origin_words lacks
from-tail requester tag hr ht =
    tail-word (codes "from") (32 ∷ (id_text requester ++ (codes " tag " ++ octet_text tag))) (origin_words requester tag []) (literal (codes "from") refl)
    (origin-tail requester tag [] [] hr ht tail-none)

register-part : (n : ℕ) → IsPart (sequence_text (n % 4096))
register-part n = part (sequence_text (n % 4096)) (sequence-lacks (n % 4096) 32 (omega arith) space)

abbrev behind_text : CfgRequest → List ℕ
behind_text r =
    codes " " ++ (function_text r.bus r.device r.function ++ (codes " " ++ (register_text r.register r.enables ++ (written_text r.writes r.value ++ (codes " from " ++ id_and_tag_text r.requester r.tag)))))

abbrev behind_words : CfgRequest → List (List ℕ)
behind_words r =
    function_text r.bus r.device r.function ∷ sequence_text (r.register % 4096) ∷ hexadecimal r.enables ∷ written_words r.writes r.value (from_words r.requester r.tag)

behind-tail : (r : CfgRequest) → FitsFields r → IsTail (behind_text r) (behind_words r)
behind-tail r h =
    let last = written-tail r.writes r.value (codes " from " ++ id_and_tag_text r.requester r.tag) (from_words r.requester r.tag) (from-tail r.requester r.tag h.requester h.tag) in
    let enables = tail-word (hexadecimal r.enables) (written_text r.writes r.value ++ (codes " from " ++ id_and_tag_text r.requester r.tag)) (written_words r.writes r.value (from_words r.requester r.tag))
    (part (hexadecimal r.enables) (hexadecimal-lacks r.enables 32 (let e = h.enables in omega arith) space)) last in
    let register = tail-word (sequence_text (r.register % 4096)) (32 ∷ (hexadecimal r.enables ++ (written_text r.writes r.value ++ (codes " from " ++ id_and_tag_text r.requester r.tag))))
    (hexadecimal r.enables ∷ written_words r.writes r.value (from_words r.requester r.tag)) (register-part r.register) enables in
    tail-word (function_text r.bus r.device r.function) (32 ∷ (register_text r.register r.enables ++ (written_text r.writes r.value ++ (codes " from " ++ id_and_tag_text r.requester r.tag))))
    (sequence_text (r.register % 4096) ∷ hexadecimal r.enables ∷ written_words r.writes r.value (from_words r.requester r.tag)) (function-part r.bus r.device r.function h.bus h.device h.function) register

configuration-of : (a : Access) (f r e : List ℕ) (behind last : List (List ℕ)) (bus device function register enables value requester tag : ℕ)
    → forms.function f ≡ Some (bus, device, function) → forms.register r ≡ Some register → forms.enables e ≡ Some enables
    → forms.written a.writes behind ≡ Some (value, codes "from" ∷ last) → forms.id_and_tag last ≡ Some ((requester, tag), [])
    → forms.configuration_of a (f ∷ r ∷ e ∷ behind) ≡ Some (request_with a requester tag bus device function register enables value)
configuration-of a f r e behind last bus device function register enables value requester tag hf hr he hw ho = rw (hf, hr, he, hw, ho) refl

behind-reads : (L : Laws) (r : CfgRequest) → FitsFields r → forms.configuration_of (record { writes = r.writes; is_type_1 = r.is_type_1 }) (behind_words r) ≡ Some r
unfolding from_words
behind-reads L r h =
    let a : Access = record { writes = r.writes; is_type_1 = r.is_type_1 } in
    let last = origin_words r.requester r.tag [] in
    configuration-of a (function_text r.bus r.device r.function) (sequence_text (r.register % 4096)) (hexadecimal r.enables) (written_words r.writes r.value (codes "from" ∷ last)) last
    r.bus r.device r.function r.register r.enables r.value r.requester r.tag
    (function-reads r.bus r.device r.function h.bus h.device h.function)
    (register-reads r.register h.register h.whole)
    (L.hexadecimal_back 15 r.enables (let e = h.enables in omega arith) (let e = h.enables in omega arith))
    (written-reads r.writes r.value (codes "from" ∷ last) h.value)
    (id_and_tag-reads r.requester r.tag [] h.requester h.tag)

-- ---- lines

-- a line whose words are this name and these
named-back : (a : Access) (name text : List ℕ) (ws : List (List ℕ)) (r : CfgRequest) → IsPart name → IsTail text ws
    → ((line : List ℕ) → forms.read_by line name ws ≡ forms.configuration_read (forms.configuration_of a ws)) → forms.configuration_of a ws ≡ Some r
    → text_reading (name ++ text) ≡ Ok (packets.Configuration r)
named-back a name text ws r hn ht reads e =
    ap (forms.read_first (name ++ text)) (ht name hn) ∙ reads (name ++ text) ∙ ap forms.configuration_read e

abbrev with_access : Bool → Bool → CfgRequest → CfgRequest
with_access writes is_type_1 r = record {
  writes = writes;
  is_type_1 = is_type_1;
  requester = r.requester;
  tag = r.tag;
  bus = r.bus;
  device = r.device;
  function = r.function;
  register = r.register;
  enables = r.enables;
  value = r.value;
}

by-access : (L : Laws) (writes is_type_1 : Bool) (r : CfgRequest) → FitsFields (with_access writes is_type_1 r)
    → text_reading (configuration_text (with_access writes is_type_1 r)) ≡ Ok (packets.Configuration (with_access writes is_type_1 r))
unfolding lacks
by-access L false false r h =
    let s = with_access false false r in
    named-back (record { writes = false; is_type_1 = false }) (codes "cfgread") (behind_text s) (behind_words s) s (literal (codes "cfgread") refl) (behind-tail s h) (λ line. refl) (behind-reads L s h)
by-access L false true r h =
    let s = with_access false true r in
    named-back (record { writes = false; is_type_1 = true }) (codes "cfgread1") (behind_text s) (behind_words s) s (literal (codes "cfgread1") refl) (behind-tail s h) (λ line. refl) (behind-reads L s h)
by-access L true false r h =
    let s = with_access true false r in
    named-back (record { writes = true; is_type_1 = false }) (codes "cfgwrite") (behind_text s) (behind_words s) s (literal (codes "cfgwrite") refl) (behind-tail s h) (λ line. refl) (behind-reads L s h)
by-access L true true r h =
    let s = with_access true true r in
    named-back (record { writes = true; is_type_1 = true }) (codes "cfgwrite1") (behind_text s) (behind_words s) s (literal (codes "cfgwrite1") refl) (behind-tail s h) (λ line. refl) (behind-reads L s h)

pub configuration-back : (L : Laws) (r : CfgRequest) → FitsFields r → text_reading (configuration_text r) ≡ Ok (packets.Configuration r)
configuration-back L r h = by-access L r.writes r.is_type_1 r h
