-- The text of a TLP or a DLLP is read back as that packet.
use Rattle.std.proofs.Common.{◌≡◌, ◌≢◌, ℕ, suc, ◌+◌, ◌*◌, ◌/◌, ◌%◌, ◌<◌, ◌≤◌, Bool, true, false, List, [], ◌∷◌, ◌++◌, length, refl, sym, ap, ap₂, subst, ◌∙◌, append_assoc, inl, inr, arith, Option, Some, None}
use Rattle.std.specs.Prelude.{◌==◌, ◌||◌, not, nat_lt, codes, bytes_eq, Ok, ◌⊎◌, if◌then◌else◌}
use Rattle.std.specs.Fmt.{decimal, digit_glyph}
use Rattle.std.proofs.lemmas.Fmt.{decimal_digit}
use Rattle.std.proofs.lemmas.Bool.{eqb-true, ne_eqb}
use Rattle.std.proofs.lemmas.Bool.Decides.{nat_tests}
use Rattle.std.proofs.lemmas.Slice.Eq.{bytes_eq-Decides}
use Rattle.hex.specs.Hex.{encode_upper, encode_with, decode_pairs}
use Rattle.tlp_core.specs.declared.packet.Kind.{Kind}
use Rattle.tlp_core.specs.declared.packet.Kind.TheVariants as kinds
use Rattle.tlp_core.specs.declared.packet.Body.{Body}
use Rattle.tlp_core.specs.declared.packet.Body.TheVariants as bodies
use Rattle.tlp_core.specs.declared.packet.Status.{Status}
use Rattle.tlp_core.specs.declared.packet.Status.TheVariants as statuses
use Rattle.tlp_core.specs.declared.fault.TlpFault.{TlpFault}
use Rattle.tlp_core.specs.Bits.{IsBytes}
use Rattle.tlp_core.specs.TlpView as tlp
use Rattle.dllp_core.specs.declared.packet.Class.{Class}
use Rattle.dllp_core.specs.declared.packet.Class.TheVariants as classes
use Rattle.dllp_core.specs.declared.packet.Dllp.{Dllp}
use Rattle.dllp_core.specs.declared.packet.Dllp.TheVariants as dllps
use Rattle.dllp_core.specs.Layout.{FitsFields}
use Rattle.operation_text.specs.Words.{words, then_with}
use Rattle.operation_text.specs.Numbers.{byte_string, numeral}
use Rattle.operation_text.specs.Operations.{op_spelled}
use Rattle.operation_text.specs.Texts.{op_text, op_words}
use Rattle.packet_text.specs.declared.packet.Packet.TheVariants as packets
use Rattle.requester_core.specs.declared.request.Origin.{Origin}
use Rattle.packet_text.specs.Packets.{IsTlp}
use Rattle.packet_text.specs.Texts.{id_text, named, class_text, status_text, completer_text, tlp_text_by, tlp_text, credits_text, dllp_text}
use Rattle.operation_text.specs.Texts.{octet_text, sequence_text}
use Rattle.packet_text.specs.Forms as forms
use Rattle.requester_core.specs.Request as requests
use Rattle.packet_text.specs.Forms.{text_reading, tlp_read, request_of, request_by}
use Rattle.packet_text.proofs.WordLemmas.{Lacks, lacks, lacks-is, lacks-append, IsPart, part, IsTail, tail-none, tail-last, tail-word}
use Rattle.packet_text.proofs.CutLemmas.{cut-at}
use Rattle.packet_text.proofs.DigitLemmas.{glyph-range, octet-reads, sequence-reads, id-reads, glyph-is}
use Rattle.packet_text.proofs.OpLemmas.{Laws, Asked, asked, bytes-read}

-- ---- characters

-- a digit is neither a space nor an `f`
pub glyph-not : (k x : ℕ) → k < 16 → (x < 48) ⊎ (70 < x) → digit_glyph true k ≢ x
glyph-not k x lt (inl h) e = let r = glyph-range k lt in omega (arith, r.0, e, h)
glyph-not k x lt (inr h) e = let r = glyph-range k lt in omega (arith, r.1, e, h)

pub octet-lacks : (n x : ℕ) → n < 256 → (x < 48) ⊎ (70 < x) → Lacks x (octet_text n)
octet-lacks n x lt out = (glyph-not (n / 16) x (omega arith) out, (glyph-not (n % 16) x (omega arith) out, tt))

pub sequence-lacks : (n x : ℕ) → n < 4096 → (x < 48) ⊎ (70 < x) → Lacks x (sequence_text n)
sequence-lacks n x lt out = (glyph-not (n / 256) x (omega arith) out, octet-lacks (n % 256) x (omega arith) out)

id-lacks : (n x : ℕ) → n < 65536 → (x < 48) ⊎ (70 < x) → Lacks x (id_text n)
id-lacks n x lt out = lacks-append x (octet_text (n / 256)) (octet_text (n % 256)) (octet-lacks (n / 256) x (omega arith) out) (octet-lacks (n % 256) x (omega arith) out)

pub space : (32 < 48) ⊎ (70 < 32)
space = inl (omega arith)

letter : (102 < 48) ⊎ (70 < 102)
letter = inr (omega arith)

octet-part : (n : ℕ) → n < 256 → IsPart (octet_text n)
octet-part n lt = part (octet_text n) (octet-lacks n 32 lt space)

id-part : (n : ℕ) → n < 65536 → IsPart (id_text n)
id-part n lt = part (id_text n) (id-lacks n 32 lt space)

decimal-part : (L : Laws) (n : ℕ) → IsPart (decimal n)
decimal-part L n = record { first = L.decimal_word n; last = L.decimal_last n }

-- a word that has to stand there
pub literal : (w : List ℕ) → lacks 32 w ≡ true → IsPart w
literal w h = part w (lacks-is 32 w h)

-- ---- Traffic Class and attributes

named_words : List ℕ → ℕ → List (List ℕ)
named_words name n = if n == 0 then [] else name ∷ decimal n ∷ []

class_words : ℕ → ℕ → List (List ℕ)
class_words tc attr = named_words (codes "tc") tc ++ named_words (codes "attr") attr

class-tail : (L : Laws) (tc attr : ℕ) → IsTail (class_text tc attr) (class_words tc attr)
unfolding class_words named_words lacks
class-tail L tc attr = by (tc == 0) (attr == 0) refl refl
  where
    last : IsTail (codes " attr " ++ decimal attr) (codes "attr" ∷ decimal attr ∷ [])
    last = tail-word (codes "attr") (32 ∷ decimal attr) (decimal attr ∷ []) (literal (codes "attr") refl) (tail-last (decimal attr) (decimal-part L attr))

    by : (a b : Bool) → (tc == 0) ≡ a → (attr == 0) ≡ b → IsTail (class_text tc attr) (class_words tc attr)
    by true true e f = rw (e, f) tail-none
    by true false e f = rw (e, f) last
    by false true e f = rw (e, f) (tail-word (codes "tc") (32 ∷ (decimal tc ++ [])) (decimal tc ∷ []) (literal (codes "tc") refl) (tail-word (decimal tc) [] [] (decimal-part L tc) tail-none))
    by false false e f = rw (e, f) (tail-word (codes "tc") (32 ∷ (decimal tc ++ (codes " attr " ++ decimal attr))) (decimal tc ∷ codes "attr" ∷ decimal attr ∷ []) (literal (codes "tc") refl) (tail-word (decimal tc) (codes " attr " ++ decimal attr) (codes "attr" ∷ decimal attr ∷ []) (decimal-part L tc) last))

class-reads : (L : Laws) (tc attr : ℕ) → tc < 8 → attr < 8 → forms.class (class_words tc attr) ≡ Some (tc, attr)
unfolding class_words named_words
class-reads L tc attr ht ha = by (tc == 0) (attr == 0) refl refl
  where
    tc-back : numeral 10 7 (decimal tc) ≡ Some tc
    tc-back = L.decimal_back 7 tc (omega arith) (omega arith)

    attr-back : numeral 10 7 (decimal attr) ≡ Some attr
    attr-back = L.decimal_back 7 attr (omega arith) (omega arith)

    by : (a b : Bool) → (tc == 0) ≡ a → (attr == 0) ≡ b → forms.class (class_words tc attr) ≡ Some (tc, attr)
    by true true e f = rw (e, f) (ap₂ (λ (x y : ℕ). Some (x, y)) (sym (eqb-true tc 0 e)) (sym (eqb-true attr 0 f)))
    by true false e f = rw (e, f, attr-back) (ap (λ (x : ℕ). Some (x, attr)) (sym (eqb-true tc 0 e)))
    by false true e f = rw (e, f, tc-back) (ap (λ (y : ℕ). Some (tc, y)) (sym (eqb-true attr 0 f)))
    by false false e f = rw (e, f, tc-back, attr-back) refl

named-lacks : (name : List ℕ) (n : ℕ) → n < 8 → Lacks 102 name → Lacks 102 (named name n)
named-lacks name n lt h = by (n == 0) refl
  where
    by : (a : Bool) → (n == 0) ≡ a → Lacks 102 (named name n)
    by true e = rw e tt
    by false e = rw (e, decimal_digit n (omega arith)) (lacks-append 102 name ((48 + n) ∷ []) h (λ f. omega (arith, f, lt), tt))

-- ---- requests

unfoldable pub origin_words : ℕ → ℕ → List (List ℕ) → List (List ℕ)
origin_words requester tag ws = id_text requester ∷ codes "tag" ∷ octet_text tag ∷ ws

pub origin-tail : (requester tag : ℕ) (text : List ℕ) (ws : List (List ℕ)) → requester < 65536 → tag < 256 → IsTail text ws
    → IsTail (32 ∷ (id_text requester ++ (codes " tag " ++ (octet_text tag ++ text)))) (origin_words requester tag ws)
unfolding origin_words lacks
origin-tail requester tag text ws hr ht h =
    tail-word (id_text requester) (codes " tag " ++ (octet_text tag ++ text)) (codes "tag" ∷ octet_text tag ∷ ws) (id-part requester hr)
    (tail-word (codes "tag") (32 ∷ (octet_text tag ++ text)) (octet_text tag ∷ ws) (literal (codes "tag") refl)
    (tail-word (octet_text tag) text ws (octet-part tag ht) h))

id_and_tag-of : (w v : List ℕ) (ws : List (List ℕ)) (requester tag : ℕ) → forms.id w ≡ Some requester → forms.octet v ≡ Some tag → forms.id_and_tag (w ∷ codes "tag" ∷ v ∷ ws) ≡ Some ((requester, tag), ws)
id_and_tag-of w v ws requester tag e f = rw (e, f) refl

pub id_and_tag-reads : (requester tag : ℕ) (ws : List (List ℕ)) → requester < 65536 → tag < 256 → forms.id_and_tag (origin_words requester tag ws) ≡ Some ((requester, tag), ws)
unfolding origin_words
id_and_tag-reads requester tag ws hr ht = id_and_tag-of (id_text requester) (octet_text tag) ws requester tag (id-reads requester hr) (octet-reads tag ht)

origin_with-reads : (L : Laws) (requester tag tc attr : ℕ) → tc < 8 → attr < 8 → forms.origin_with requester tag (class_words tc attr) ≡ Some (record { requester = requester; tag = tag; tc = tc; attr = attr })
origin_with-reads L requester tag tc attr ht ha = by (class_words tc attr) (class-reads L tc attr ht ha)
  where
    by : (ws : List (List ℕ)) → forms.class ws ≡ Some (tc, attr) → forms.origin_with requester tag ws ≡ Some (record { requester = requester; tag = tag; tc = tc; attr = attr })
    by ws e = rw e refl

origin_with_tail-lacks : (requester tag tc attr : ℕ) → requester < 65536 → tag < 256 → tc < 8 → attr < 8
    → Lacks 102 ((id_text requester ++ (codes " tag " ++ octet_text tag)) ++ class_text tc attr)
unfolding lacks
origin_with_tail-lacks requester tag tc attr hr ht h k =
    lacks-append 102 (id_text requester ++ (codes " tag " ++ octet_text tag)) (class_text tc attr)
    (lacks-append 102 (id_text requester) (codes " tag " ++ octet_text tag) (id-lacks requester 102 hr letter)
    (lacks-append 102 (codes " tag ") (octet_text tag) (lacks-is 102 (codes " tag ") refl) (octet-lacks tag 102 ht letter)))
    (lacks-append 102 (named (codes " tc ") tc) (named (codes " attr ") attr)
    (named-lacks (codes " tc ") tc h (lacks-is 102 (codes " tc ") refl))
    (named-lacks (codes " attr ") attr k (lacks-is 102 (codes " attr ") refl)))

-- the words behind ` from `
from-words : (L : Laws) (requester tag tc attr : ℕ) → requester < 65536 → tag < 256
    → words ((id_text requester ++ (codes " tag " ++ octet_text tag)) ++ class_text tc attr) ≡ origin_words requester tag (class_words tc attr)
unfolding origin_words lacks
from-words L requester tag tc attr hr ht =
    tail-word (codes "tag") (32 ∷ (octet_text tag ++ class_text tc attr)) (octet_text tag ∷ class_words tc attr) (literal (codes "tag") refl)
    (tail-word (octet_text tag) (class_text tc attr) (class_words tc attr) (octet-part tag ht) (class-tail L tc attr))
    (id_text requester) (id-part requester hr)

origin-reads : (L : Laws) (requester tag tc attr : ℕ) → requester < 65536 → tag < 256 → tc < 8 → attr < 8
    → forms.origin (origin_words requester tag (class_words tc attr)) ≡ Some (record { requester = requester; tag = tag; tc = tc; attr = attr })
origin-reads L requester tag tc attr hr ht h k =
    by (origin_words requester tag (class_words tc attr)) (class_words tc attr) (id_and_tag-reads requester tag (class_words tc attr) hr ht) (origin_with-reads L requester tag tc attr h k)
  where
    by : (ws rest : List (List ℕ)) → forms.id_and_tag ws ≡ Some ((requester, tag), rest)
        → forms.origin_with requester tag rest ≡ Some (record { requester = requester; tag = tag; tc = tc; attr = attr })
        → forms.origin ws ≡ Some (record { requester = requester; tag = tag; tc = tc; attr = attr })
    by ws rest e f = rw e f

-- a TLP by its parts
abbrev tlp_with : Kind → ℕ → ℕ → ℕ → ℕ → ℕ → Body → List ℕ → tlp.TlpView
tlp_with k tc attr dw requester tag body bytes = record { kind = k; tc = tc; attr = attr; length = dw; requester = requester; tag = tag; body = body; payload = bytes }

request-back : (L : Laws) (k : Kind) (tc attr dw requester tag : ℕ) (body : Body) (bytes : List ℕ) → Asked k body dw bytes
    → requester < 65536 → tag < 256 → tc < 8 → attr < 8
    → text_reading (tlp_text (tlp_with k tc attr dw requester tag body bytes)) ≡ Ok (packets.Tlp (tlp_with k tc attr dw requester tag body bytes))
request-back L k tc attr dw requester tag body bytes A hr ht h j =
    let o : Origin = record { requester = requester; tag = tag; tc = tc; attr = attr } in
    let t = tlp_with k tc attr dw requester tag body bytes in
    let tail : List ℕ = (id_text requester ++ (codes " tag " ++ octet_text tag)) ++ class_text tc attr in
    let line : List ℕ = op_text A.op ++ (codes " from " ++ tail) in
    let text : tlp_text t ≡ line = ap (λ (op : Option _). tlp_text_by op t) A.is in
    let cut : request_of line ≡ request_by (op_spelled (words (op_text A.op))) (forms.origin (words tail)) =
    ap (λ (p : Option (List ℕ × List ℕ)). then_with p (λ q. request_by (op_spelled (words q.0)) (forms.origin (words q.1)))) (cut-at (op_text A.op) tail (origin_with_tail-lacks requester tag tc attr hr ht h j)) in
    let parts : request_by (op_spelled (words (op_text A.op))) (forms.origin (words tail)) ≡ request_by (Some A.op) (Some o) =
    ap₂ request_by (L.op_back (op_words A.op) A.op A.reads) (ap forms.origin (from-words L requester tag tc attr hr ht) ∙ origin-reads L requester tag tc attr hr ht h j) in
    let sound : request_by (Some A.op) (Some o) ≡ Some (Ok (requests.request A.op o)) = ap (λ (f : Option TlpFault). Some (requests.unless f (requests.request A.op o))) A.sound in
    let same : requests.request A.op o ≡ t = rw (A.kind, A.dws, A.same, A.bytes) refl in
    ap text_reading text ∙ A.begins (codes " from " ++ tail) ∙ ap tlp_read (cut ∙ parts ∙ sound) ∙ ap (λ (p : tlp.TlpView). Ok (packets.Tlp p)) same

-- ---- completions

completer_words : ℕ → ℕ → ℕ → List (List ℕ) → List (List ℕ)
completer_words completer count lower ws = codes "by" ∷ id_text completer ∷ codes "count" ∷ decimal count ∷ codes "lower" ∷ octet_text lower ∷ ws

completer-tail : (L : Laws) (completer count lower : ℕ) (text : List ℕ) (ws : List (List ℕ)) → completer < 65536 → lower < 128 → IsTail text ws
    → IsTail (completer_text completer count lower ++ text) (completer_words completer count lower ws)
unfolding completer_words lacks
completer-tail L completer count lower text ws hc hl h =
    let inner : IsTail (codes " lower " ++ (octet_text lower ++ text)) (codes "lower" ∷ octet_text lower ∷ ws) =
    tail-word (codes "lower") (32 ∷ (octet_text lower ++ text)) (octet_text lower ∷ ws) (literal (codes "lower") refl)
    (tail-word (octet_text lower) text ws (octet-part lower (omega arith)) h) in
    let whole : IsTail (codes " by " ++ (id_text completer ++ (codes " count " ++ (decimal count ++ (codes " lower " ++ (octet_text lower ++ text)))))) (completer_words completer count lower ws) =
    tail-word (codes "by") (32 ∷ (id_text completer ++ (codes " count " ++ (decimal count ++ (codes " lower " ++ (octet_text lower ++ text)))))) _ (literal (codes "by") refl)
    (tail-word (id_text completer) (codes " count " ++ (decimal count ++ (codes " lower " ++ (octet_text lower ++ text)))) _ (id-part completer hc)
    (tail-word (codes "count") (32 ∷ (decimal count ++ (codes " lower " ++ (octet_text lower ++ text)))) _ (literal (codes "count") refl)
    (tail-word (decimal count) (codes " lower " ++ (octet_text lower ++ text)) _ (decimal-part L count) inner))) in
    let joined : completer_text completer count lower ++ text ≡ codes " by " ++ (id_text completer ++ (codes " count " ++ (decimal count ++ (codes " lower " ++ (octet_text lower ++ text))))) =
    ap (λ (r : List ℕ). codes " by " ++ (id_text completer ++ (codes " count " ++ r))) (append_assoc (decimal count) (codes " lower " ++ octet_text lower) text) in
    subst (λ (t : List ℕ). IsTail t (completer_words completer count lower ws)) (sym joined) whole

completer-of : (w v u : List ℕ) (ws : List (List ℕ)) (completer count lower : ℕ) → forms.id w ≡ Some completer → forms.byte_count v ≡ Some count → forms.lower u ≡ Some lower
    → forms.completer (codes "by" ∷ w ∷ codes "count" ∷ v ∷ codes "lower" ∷ u ∷ ws) ≡ Some (record { completer = completer; byte_count = count; lower = lower }, ws)
completer-of w v u ws completer count lower e f g = rw (e, f, g) refl

completer-reads : (L : Laws) (completer count lower : ℕ) (ws : List (List ℕ)) → completer < 65536 → 1 ≤ count → count ≤ 4096 → lower < 128
    → forms.completer (completer_words completer count lower ws) ≡ Some (record { completer = completer; byte_count = count; lower = lower }, ws)
unfolding completer_words
completer-reads L completer count lower ws hc low high hl =
    completer-of (id_text completer) (decimal count) (octet_text lower) ws completer count lower (id-reads completer hc) counted under
  where
    counted : forms.byte_count (decimal count) ≡ Some count
    counted = rw (L.decimal_back 4096 count high (omega arith), ne_eqb count 0 (λ e. omega (arith, e, low))) refl

    under : forms.lower (octet_text lower) ≡ Some lower
    under =
        let lt : nat_lt lower 128 ≡ true = grind (arith, nat_tests) in
        by (octet_text lower) (octet-reads lower (omega arith)) lt
      where
        by : (w : List ℕ) → forms.octet w ≡ Some lower → nat_lt lower 128 ≡ true → forms.lower w ≡ Some lower
        by w e lt = rw (e, lt) refl

-- what is behind the word `to`
to_words : ℕ → ℕ → ℕ → ℕ → ℕ → ℕ → ℕ → List (List ℕ)
to_words requester tag completer count lower tc attr = origin_words requester tag (completer_words completer count lower (class_words tc attr))

abbrev to_text : ℕ → ℕ → ℕ → ℕ → ℕ → ℕ → ℕ → List ℕ
to_text requester tag completer count lower tc attr =
    codes " to " ++ ((id_text requester ++ (codes " tag " ++ octet_text tag)) ++ (completer_text completer count lower ++ class_text tc attr))

to-tail : (L : Laws) (requester tag completer count lower tc attr : ℕ) → requester < 65536 → tag < 256 → completer < 65536 → lower < 128
    → IsTail (to_text requester tag completer count lower tc attr) (codes "to" ∷ to_words requester tag completer count lower tc attr)
unfolding to_words lacks
to-tail L requester tag completer count lower tc attr hr ht hc hl =
    tail-word (codes "to") (32 ∷ (id_text requester ++ (codes " tag " ++ (octet_text tag ++ (completer_text completer count lower ++ class_text tc attr))))) _ (literal (codes "to") refl)
    (origin-tail requester tag (completer_text completer count lower ++ class_text tc attr) _ hr ht
    (completer-tail L completer count lower (class_text tc attr) (class_words tc attr) hc hl (class-tail L tc attr)))

-- of the words behind `to`
completion_to-of : (s : Status) (given : Option (List ℕ)) (ws mid rest : List (List ℕ)) (requester tag : ℕ) (c : _) (o : Origin)
    → forms.id_and_tag ws ≡ Some ((requester, tag), mid) → forms.completer mid ≡ Some (c, rest) → forms.origin_with requester tag rest ≡ Some o
    → forms.data_fault given ≡ None → forms.completion_to s given ws ≡ Some (Ok (forms.completion s given c o))
completion_to-of s given ws mid rest requester tag c o e f g h = rw (e, f, g, h) refl

completion_to-reads : (L : Laws) (s : Status) (given : Option (List ℕ)) (requester tag completer count lower tc attr : ℕ)
    → requester < 65536 → tag < 256 → completer < 65536 → 1 ≤ count → count ≤ 4096 → lower < 128 → tc < 8 → attr < 8 → forms.data_fault given ≡ None
    → forms.completion_to s given (to_words requester tag completer count lower tc attr)
    ≡ Some (Ok (forms.completion s given (record { completer = completer; byte_count = count; lower = lower }) (record { requester = requester; tag = tag; tc = tc; attr = attr })))
unfolding to_words
completion_to-reads L s given requester tag completer count lower tc attr hr ht hc low high hl h k none =
    let cws = class_words tc attr in
    let mid = completer_words completer count lower cws in
    completion_to-of s given (origin_words requester tag mid) mid cws requester tag _ _
    (id_and_tag-reads requester tag mid hr ht) (completer-reads L completer count lower cws hc low high hl) (origin_with-reads L requester tag tc attr h k) none

status_part : (s : Status) → IsPart (status_text s)
unfolding lacks
status_part statuses.Success = literal (codes "sc") refl
status_part statuses.Unsupported = literal (codes "ur") refl
status_part statuses.Aborted = literal (codes "ca") refl

status-reads : (s : Status) → forms.status (status_text s) ≡ Some s
status-reads statuses.Success = refl
status-reads statuses.Unsupported = refl
status-reads statuses.Aborted = refl

completion-of : (w : List ℕ) (s : Status) (ws rest : List (List ℕ)) (given : Option (List ℕ)) (r : _) → forms.status w ≡ Some s → forms.data_to ws ≡ Some (given, rest) → forms.completion_to s given rest ≡ r
    → forms.completion_of (w ∷ ws) ≡ r
completion-of w s ws rest given r e f g = rw (e, f) g

-- the line of a completion whose words are these
line-back : (line : List ℕ) (ws : List (List ℕ)) (t : tlp.TlpView) → words line ≡ codes "completion" ∷ ws → forms.completion_of ws ≡ Some (Ok t) → text_reading line ≡ Ok (packets.Tlp t)
line-back line ws t e f = ap (forms.read_first line) e ∙ ap tlp_read f

plain-back : (L : Laws) (s : Status) (requester tag completer count lower tc attr : ℕ)
    → requester < 65536 → tag < 256 → completer < 65536 → 1 ≤ count → count ≤ 4096 → lower < 128 → tc < 8 → attr < 8
    → text_reading (tlp_text (tlp_with kinds.Completion tc attr 0 requester tag (bodies.Completion completer s count lower) []))
    ≡ Ok (packets.Tlp (tlp_with kinds.Completion tc attr 0 requester tag (bodies.Completion completer s count lower) []))
unfolding lacks
plain-back L s requester tag completer count lower tc attr hr ht hc low high hl h k =
    let behind = codes "to" ∷ to_words requester tag completer count lower tc attr in
    let line : List ℕ = codes "completion " ++ (status_text s ++ to_text requester tag completer count lower tc attr) in
    let split : words line ≡ codes "completion" ∷ status_text s ∷ behind =
    tail-word (status_text s) (to_text requester tag completer count lower tc attr) behind (status_part s) (to-tail L requester tag completer count lower tc attr hr ht hc hl) (codes "completion") (literal (codes "completion") refl) in
    line-back line (status_text s ∷ behind) _ split
    (completion-of (status_text s) s behind (to_words requester tag completer count lower tc attr) None _ (status-reads s) refl
    (completion_to-reads L s None requester tag completer count lower tc attr hr ht hc low high hl h k refl))

-- the digits of a byte string are no `to`
not-to : (w bytes : List ℕ) → byte_string w ≡ Some bytes → bytes_eq w (codes "to") ≡ false
unfolding decode_pairs
not-to w bytes e = by (bytes_eq w (codes "to")) refl
  where
    by : (b : Bool) → bytes_eq w (codes "to") ≡ b → b ≡ false
    by false f = refl
    by true f =
        let same : w ≡ codes "to" = (bytes_eq-Decides w (codes "to")).0 f in
        absurd (let g = rw same at e in cc g)

data_to-reads : (w bytes : List ℕ) (ws : List (List ℕ)) → byte_string w ≡ Some bytes → forms.data_to (w ∷ codes "to" ∷ ws) ≡ Some (Some bytes, ws)
data_to-reads w bytes ws e = rw (not-to w bytes e, e) refl

pub encode-part : (bytes : List ℕ) → IsBytes bytes → IsPart (encode_upper bytes)
unfolding encode_with
encode-part bytes are = part (encode_upper bytes) (all bytes are)
  where
    all : (bytes : List ℕ) → IsBytes bytes → Lacks 32 (encode_upper bytes)
    all [] h = tt
    all (b ∷ bytes) h =
        let fits : b < 256 = h 0 in
        let high = subst (λ (c : ℕ). c ≢ 32) (sym (glyph-is (b / 16) (omega arith))) (glyph-not (b / 16) 32 (omega arith) space) in
        let low = subst (λ (c : ℕ). c ≢ 32) (sym (glyph-is (b % 16) (omega arith))) (glyph-not (b % 16) 32 (omega arith) space) in
        (high, (low, all bytes (λ k. h (suc k))))

with-data-back : (L : Laws) (s : Status) (bytes : List ℕ) (dw requester tag completer count lower tc attr : ℕ)
    → requester < 65536 → tag < 256 → completer < 65536 → 1 ≤ count → count ≤ 4096 → lower < 128 → tc < 8 → attr < 8
    → 1 ≤ dw → dw ≤ 32 → length bytes ≡ 4 * dw → IsBytes bytes
    → text_reading (tlp_text (tlp_with kinds.CompletionData tc attr dw requester tag (bodies.Completion completer s count lower) bytes))
    ≡ Ok (packets.Tlp (tlp_with kinds.CompletionData tc attr dw requester tag (bodies.Completion completer s count lower) bytes))
unfolding lacks
with-data-back L s bytes dw requester tag completer count lower tc attr hr ht hc low high hl h k some few len are =
    let behind = codes "to" ∷ to_words requester tag completer count lower tc attr in
    let text = to_text requester tag completer count lower tc attr in
    let digits = encode_upper bytes in
    let line : List ℕ = codes "completion " ++ (status_text s ++ (32 ∷ (digits ++ text))) in
    let split : words line ≡ codes "completion" ∷ status_text s ∷ digits ∷ behind =
    tail-word (status_text s) (32 ∷ (digits ++ text)) (digits ∷ behind) (status_part s)
    (tail-word digits text behind (encode-part bytes are) (to-tail L requester tag completer count lower tc attr hr ht hc hl))
    (codes "completion") (literal (codes "completion") refl) in
    let quarter : length bytes / 4 ≡ dw = omega arith in
    let whole : ((length bytes == 0) || not (length bytes % 4 == 0)) ≡ false = whole-dws (length bytes) (omega arith) (omega arith) in
    let sound : forms.data_fault (Some bytes) ≡ None = rw whole refl in
    let read = bytes-read bytes (omega arith) (omega arith) are in
    let back = line-back line (status_text s ∷ digits ∷ behind) _ split
    (completion-of (status_text s) s (digits ∷ behind) (to_words requester tag completer count lower tc attr) (Some bytes) _ (status-reads s) (data_to-reads digits bytes _ read)
    (completion_to-reads L s (Some bytes) requester tag completer count lower tc attr hr ht hc low high hl h k sound)) in
    back ∙ ap (λ (n : ℕ). Ok (packets.Tlp (tlp_with kinds.CompletionData tc attr n requester tag (bodies.Completion completer s count lower) bytes))) quarter
  where
    whole-dws : (n : ℕ) → 0 < n → n % 4 ≡ 0 → ((n == 0) || not (n % 4 == 0)) ≡ false
    whole-dws n some e = grind (arith, nat_tests)

-- ---- TLPs

pub tlp-back : (L : Laws) (k : Kind) (tc attr dw requester tag : ℕ) (body : Body) (bytes : List ℕ) → IsTlp (tlp_with k tc attr dw requester tag body bytes)
    → text_reading (tlp_text (tlp_with k tc attr dw requester tag body bytes)) ≡ Ok (packets.Tlp (tlp_with k tc attr dw requester tag body bytes))
tlp-back L kinds.Completion tc attr dw requester tag (bodies.Request a f l) bytes h = absurd h.grammar.fits
tlp-back L kinds.Completion tc attr dw requester tag (bodies.Completion completer s count lower) bytes h =
    let fits = h.grammar.fits in
    let none : bytes ≡ [] = no-bytes bytes fits.4 in
    rw (fits.3, none) (plain-back L s requester tag completer count lower tc attr h.requester h.tag h.body fits.0 fits.1 fits.2 h.grammar.tc h.grammar.attr)
  where
    no-bytes : (xs : List ℕ) → length xs ≡ 0 → xs ≡ []
    no-bytes [] e = refl
    no-bytes (x ∷ xs) e = absurd (omega (arith, e))
tlp-back L kinds.CompletionData tc attr dw requester tag (bodies.Request a f l) bytes h = absurd h.grammar.fits
tlp-back L kinds.CompletionData tc attr dw requester tag (bodies.Completion completer s count lower) bytes h =
    let fits = h.grammar.fits in
    with-data-back L s bytes dw requester tag completer count lower tc attr h.requester h.tag h.body fits.0 fits.1 fits.2 h.grammar.tc h.grammar.attr fits.3 fits.4 fits.5 h.payload
tlp-back L kinds.MemoryRead tc attr dw requester tag body bytes h = request-back L kinds.MemoryRead tc attr dw requester tag body bytes (asked L kinds.MemoryRead body dw bytes h.grammar.fits h.body h.payload refl) h.requester h.tag h.grammar.tc h.grammar.attr
tlp-back L kinds.MemoryWrite tc attr dw requester tag body bytes h = request-back L kinds.MemoryWrite tc attr dw requester tag body bytes (asked L kinds.MemoryWrite body dw bytes h.grammar.fits h.body h.payload refl) h.requester h.tag h.grammar.tc h.grammar.attr
tlp-back L kinds.FetchAdd tc attr dw requester tag body bytes h = request-back L kinds.FetchAdd tc attr dw requester tag body bytes (asked L kinds.FetchAdd body dw bytes h.grammar.fits h.body h.payload refl) h.requester h.tag h.grammar.tc h.grammar.attr
tlp-back L kinds.Swap tc attr dw requester tag body bytes h = request-back L kinds.Swap tc attr dw requester tag body bytes (asked L kinds.Swap body dw bytes h.grammar.fits h.body h.payload refl) h.requester h.tag h.grammar.tc h.grammar.attr
tlp-back L kinds.Cas tc attr dw requester tag body bytes h = request-back L kinds.Cas tc attr dw requester tag body bytes (asked L kinds.Cas body dw bytes h.grammar.fits h.body h.payload refl) h.requester h.tag h.grammar.tc h.grammar.attr

-- ---- DLLPs

sequence-part : (n : ℕ) → n < 4096 → IsPart (sequence_text n)
sequence-part n lt = part (sequence_text n) (sequence-lacks n 32 lt space)

credits-part : (c : Class) → IsPart (credits_text c)
unfolding lacks
credits-part classes.Posted = literal (codes "p") refl
credits-part classes.NonPosted = literal (codes "np") refl
credits-part classes.Completion = literal (codes "cpl") refl

credits-reads : (c : Class) → forms.credits (credits_text c) ≡ Some c
credits-reads classes.Posted = refl
credits-reads classes.NonPosted = refl
credits-reads classes.Completion = refl

pub dllp-back : (L : Laws) (d : Dllp) → FitsFields d → text_reading (dllp_text d) ≡ Ok (packets.Dllp d)
unfolding lacks
dllp-back L (dllps.Ack n) h =
    let split : words (codes "ack " ++ sequence_text n) ≡ codes "ack" ∷ sequence_text n ∷ [] = tail-last (sequence_text n) (sequence-part n h) (codes "ack") (literal (codes "ack") refl) in
    ap (forms.read_first (codes "ack " ++ sequence_text n)) split ∙ by (sequence_text n) (sequence-reads n h)
  where
    by : (w : List ℕ) → forms.sequence w ≡ Some n → forms.dllp_read (forms.ack_of (w ∷ [])) ≡ Ok (packets.Dllp (dllps.Ack n))
    by w e = rw e refl
dllp-back L (dllps.Nak n) h =
    let split : words (codes "nak " ++ sequence_text n) ≡ codes "nak" ∷ sequence_text n ∷ [] = tail-last (sequence_text n) (sequence-part n h) (codes "nak") (literal (codes "nak") refl) in
    ap (forms.read_first (codes "nak " ++ sequence_text n)) split ∙ by (sequence_text n) (sequence-reads n h)
  where
    by : (w : List ℕ) → forms.sequence w ≡ Some n → forms.dllp_read (forms.nak_of (w ∷ [])) ≡ Ok (packets.Dllp (dllps.Nak n))
    by w e = rw e refl
dllp-back L (dllps.Update c header units) h =
    let line : List ℕ = codes "update " ++ (credits_text c ++ 32 ∷ (decimal header ++ 32 ∷ decimal units)) in
    let split : words line ≡ codes "update" ∷ credits_text c ∷ decimal header ∷ decimal units ∷ [] =
    tail-word (credits_text c) (32 ∷ (decimal header ++ 32 ∷ decimal units)) (decimal header ∷ decimal units ∷ []) (credits-part c)
    (tail-word (decimal header) (32 ∷ decimal units) (decimal units ∷ []) (decimal-part L header) (tail-last (decimal units) (decimal-part L units)))
    (codes "update") (literal (codes "update") refl) in
    ap (forms.read_first line) split ∙ by (credits_text c) (decimal header) (decimal units) (credits-reads c) (L.decimal_back 255 header (omega (arith, h.0)) (omega (arith, h.0))) (L.decimal_back 4095 units (omega (arith, h.1)) (omega (arith, h.1)))
  where
    by : (w v u : List ℕ) → forms.credits w ≡ Some c → numeral 10 255 v ≡ Some header → numeral 10 4095 u ≡ Some units
        → forms.dllp_read (forms.update_of (w ∷ v ∷ u ∷ [])) ≡ Ok (packets.Dllp (dllps.Update c header units))
    by w v u e f g = rw (e, f, g) refl
