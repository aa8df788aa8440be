-- The canonical bytes spell their packet.
use Rattle.std.proofs.Common.{◌≡◌, ℕ, ◌+◌, ◌*◌, ◌/◌, ◌%◌, ◌^◌, ◌<◌, ◌≤◌, Bool, true, false, List, [], ◌∷◌, ◌++◌, length, drop, Some, refl, sym, ap, subst, ◌∙◌, inl, inr, arith, slice_index}
use Rattle.std.specs.Prelude.{nat_lt, ◌==◌}
use Rattle.std.proofs.lemmas.Bool.Decides.{nat_tests}
use Rattle.byteorder.specs.Endian.{big_number, big_bytes}
use Rattle.byteorder.specs.Numbers.{big_number-reads_back}
use Rattle.tlp_core.specs.declared.packet.Kind.{Kind}
use Rattle.tlp_core.specs.declared.packet.Kind.TheVariants as kinds
use Rattle.tlp_core.specs.declared.packet.Body.{Body}
use Rattle.tlp_core.specs.declared.packet.Body.TheVariants as bodies
use Rattle.tlp_core.specs.declared.packet.Status.{Status}
use Rattle.tlp_core.specs.declared.packet.Status.TheVariants as statuses
use Rattle.tlp_core.specs.Bits.{bits}
use Rattle.tlp_core.specs.TlpView.{TlpView, IsPacket, FitsKind, IsOneOperand, IsTwoOperands, IsBodyInRange, FitsFields}
use Rattle.tlp_core.specs.Layout.{kind_of, or_all, header_length, dw_count, address_of, status_of, status_code, request_at, atomic_at, completion_at, body_at, length_at, requester_place, short_code, canonical, Spells, AreReservedZero}

zero_bit : (n : ℕ) → n ≡ 0 → (n == 1) ≡ false
zero_bit n e = rw e refl

abbrev flags : ℕ → ℕ → ℕ
flags tc attr = tc * 16 + attr / 4 * 4

abbrev high : ℕ → ℕ → ℕ
high attr len = attr % 4 * 16 + len % 1024 / 256

front_reserved : (code tc attr len : ℕ) (rest : List ℕ) → tc < 8 → attr < 8 → AreReservedZero (code ∷ flags tc attr ∷ high attr len ∷ len % 256 ∷ rest)
front_reserved code tc attr len rest h1 h2 = record {
  t9 = zero_bit _ (omega arith);
  t8 = zero_bit _ (omega arith);
  ln = zero_bit _ (omega arith);
  th = zero_bit _ (omega arith);
  td = zero_bit _ (omega arith);
  ep = zero_bit _ (omega arith);
  at = omega arith;
}

front_tc : (tc attr : ℕ) → tc < 8 → attr < 8 → tc ≡ flags tc attr / 16 % 8
front_tc tc attr h1 h2 = omega arith

front_attr : (tc attr len : ℕ) → tc < 8 → attr < 8 → attr ≡ flags tc attr / 4 % 2 * 4 + high attr len / 16 % 4
front_attr tc attr len h1 h2 = omega arith

length_field : (attr len : ℕ) → high attr len / 1 % 4 * 256 + len % 256 ≡ len % 1024
length_field attr len = omega arith

or_all_is : (greatest n : ℕ) → 1 ≤ n → n ≤ greatest → or_all greatest (n % greatest) ≡ n
or_all_is greatest n h1 h2 = grind (arith, nat_tests)

front_length : (attr len : ℕ) → 1 ≤ len → len ≤ 1024 → len ≡ or_all 1024 (high attr len / 1 % 4 * 256 + len % 256)
front_length attr len h1 h2 = sym (ap (or_all 1024) (length_field attr len) ∙ or_all_is 1024 len h1 h2)

enables_low : (f l : ℕ) → f < 16 → l < 16 → (l * 16 + f) / 1 % 16 ≡ f
enables_low f l h1 h2 = omega arith

enables_high : (f l : ℕ) → f < 16 → l < 16 → (l * 16 + f) / 16 % 16 ≡ l
enables_high f l h1 h2 = omega arith

quarter : (a : ℕ) → a % 4 ≡ 0 → a / 4 * 4 ≡ a
quarter a h = omega arith

abbrev tail : ℕ → ℕ → ℕ → ℕ → List ℕ → List ℕ → List ℕ
tail req tag f l address pay = big_bytes 2 req ++ (tag ∷ (l * 16 + f) ∷ []) ++ address ++ pay

abbrev front : ℕ → ℕ → ℕ → ℕ → List ℕ → List ℕ
front code tc attr len rest = code ∷ flags tc attr ∷ high attr len ∷ len % 256 ∷ rest

-- what the tables read of a request's bytes
record Facts (b : List ℕ) (tc' attr' len' req' tag' a' f' l' : ℕ) (pay' : List ℕ) : Type 0 where
  pub whole : header_length b ≤ length b
  pub reserved : AreReservedZero b
  pub tc : tc' ≡ bits b 1 4 3
  pub attr : attr' ≡ bits b 1 2 1 * 4 + bits b 2 4 2
  pub len : len' ≡ dw_count b
  pub req : req' ≡ big_number 2 (drop 4 b)
  pub tag : tag' ≡ slice_index b 6
  pub address : a' ≡ address_of b
  pub first : f' ≡ bits b 7 0 4
  pub last : l' ≡ bits b 7 4 4
  pub pay : pay' ≡ drop (header_length b) b

record InRange (tc' attr' len' req' a' f' l' : ℕ) : Type 0 where
  pub tc : tc' < 8
  pub attr : attr' < 8
  pub some : 1 ≤ len'
  pub most : len' ≤ 1024
  pub req : req' < 2 ^ 16
  pub address : a' % 4 ≡ 0
  pub top : a' < 2 ^ 64
  pub first : f' < 16
  pub last : l' < 16

header_short : (code tc attr len : ℕ) (rest : List ℕ) → code / 32 % 2 ≡ 0 → header_length (front code tc attr len rest) ≡ 12
header_short code tc attr len rest e = rw e refl

header_long : (code tc attr len : ℕ) (rest : List ℕ) → code / 32 % 2 ≡ 1 → header_length (front code tc attr len rest) ≡ 16
header_long code tc attr len rest e = rw e refl

facts_short : (code tc attr len req tag a f l : ℕ) (pay : List ℕ) → code / 32 % 2 ≡ 0 → a < 2 ^ 32 → InRange tc attr len req a f l → Facts (front code tc attr len (tail req tag f l (big_bytes 4 a) pay)) tc attr len req tag a f l pay
facts_short code tc attr len req tag a f l pay e lt r = record {
  whole = rw e (omega arith);
  reserved = front_reserved code tc attr len _ r.tc r.attr;
  tc = front_tc tc attr r.tc r.attr;
  attr = front_attr tc attr len r.tc r.attr;
  len = front_length attr len r.some r.most;
  req = sym (big_number-reads_back 2 req ((tag ∷ (l * 16 + f) ∷ []) ++ big_bytes 4 a ++ pay) r.req);
  tag = refl;
  address = rw e (sym (ap (λ n. n / 4 * 4) (big_number-reads_back 4 a pay lt) ∙ quarter a r.address));
  first = sym (enables_low f l r.first r.last);
  last = sym (enables_high f l r.first r.last);
  pay = rw e refl;
}

facts_long : (code tc attr len req tag a f l : ℕ) (pay : List ℕ) → code / 32 % 2 ≡ 1 → InRange tc attr len req a f l → Facts (front code tc attr len (tail req tag f l (big_bytes 8 a) pay)) tc attr len req tag a f l pay
facts_long code tc attr len req tag a f l pay e r = record {
  whole = rw e (omega arith);
  reserved = front_reserved code tc attr len _ r.tc r.attr;
  tc = front_tc tc attr r.tc r.attr;
  attr = front_attr tc attr len r.tc r.attr;
  len = front_length attr len r.some r.most;
  req = sym (big_number-reads_back 2 req ((tag ∷ (l * 16 + f) ∷ []) ++ big_bytes 8 a ++ pay) r.req);
  tag = refl;
  address = rw e (sym (ap (λ n. n / 4 * 4) (big_number-reads_back 8 a pay r.top) ∙ quarter a r.address));
  first = sym (enables_low f l r.first r.last);
  last = sym (enables_high f l r.first r.last);
  pay = rw e refl;
}

from_facts : (b : List ℕ) (k : Kind) (tc attr len req tag a f l : ℕ) (pay : List ℕ) → Facts b tc attr len req tag a f l pay → kind_of (slice_index b 0) ≡ Some k → requester_place k ≡ 4 → length_at k b ≡ dw_count b → bodies.Request a f l ≡ body_at k b → IsPacket (record { kind = k; tc = tc; attr = attr; length = len; requester = req; tag = tag; body = bodies.Request a f l; payload = pay }) → Spells b (record { kind = k; tc = tc; attr = attr; length = len; requester = req; tag = tag; body = bodies.Request a f l; payload = pay })
from_facts b k tc attr len req tag a f l pay s e place dws body grammar = record {
  whole = s.whole;
  kind = e;
  reserved = s.reserved;
  tc = s.tc;
  attr = s.attr;
  dws = s.len ∙ sym dws;
  requester = s.req ∙ ap (λ n. big_number 2 (drop n b)) (sym place);
  tag = s.tag ∙ ap (λ n. slice_index b (n + 2)) (sym place);
  body = body;
  payload = s.pay;
  grammar = grammar;
}

-- what all kinds of requests have in common
record RequestKind (k : Kind) (a f l : ℕ) : Type 0 where
  pub place : requester_place k ≡ 4
  pub dws : (b : List ℕ) → length_at k b ≡ dw_count b
  pub body : (b : List ℕ) → a ≡ address_of b → f ≡ bits b 7 0 4 → l ≡ bits b 7 4 4 → bodies.Request a f l ≡ body_at k b
  pub short : kind_of (short_code k) ≡ Some k
  pub long : kind_of (short_code k + 32) ≡ Some k
  pub short_bit : short_code k / 32 % 2 ≡ 0
  pub long_bit : (short_code k + 32) / 32 % 2 ≡ 1

request_spells : (v : Bool) (k : Kind) (tc attr len req tag a f l : ℕ) (pay : List ℕ) → nat_lt a (2 ^ 32) ≡ v → RequestKind k a f l → InRange tc attr len req a f l → IsPacket (record { kind = k; tc = tc; attr = attr; length = len; requester = req; tag = tag; body = bodies.Request a f l; payload = pay }) → Spells (canonical (record { kind = k; tc = tc; attr = attr; length = len; requester = req; tag = tag; body = bodies.Request a f l; payload = pay })) (record { kind = k; tc = tc; attr = attr; length = len; requester = req; tag = tag; body = bodies.Request a f l; payload = pay })
request_spells true k tc attr len req tag a f l pay e q r grammar =
    let lt : a < 2 ^ 32 = grind (arith, nat_tests) in
    let s = facts_short (short_code k) tc attr len req tag a f l pay q.short_bit lt r in
    rw e (from_facts (front (short_code k) tc attr len (tail req tag f l (big_bytes 4 a) pay)) k tc attr len req tag a f l pay s q.short q.place (q.dws _) (q.body _ s.address s.first s.last) grammar)
request_spells false k tc attr len req tag a f l pay e q r grammar =
    let s = facts_long (short_code k + 32) tc attr len req tag a f l pay q.long_bit r in
    rw e (from_facts (front (short_code k + 32) tc attr len (tail req tag f l (big_bytes 8 a) pay)) k tc attr len req tag a f l pay s q.long q.place (q.dws _) (q.body _ s.address s.first s.last) grammar)

memory_body : (b : List ℕ) (a f l : ℕ) → a ≡ address_of b → f ≡ bits b 7 0 4 → l ≡ bits b 7 4 4 → bodies.Request a f l ≡ request_at b
memory_body b a f l e1 e2 e3 = rw (e1, e2, e3) refl

atomic_body : (b : List ℕ) (a f l : ℕ) → f ≡ 0 → l ≡ 0 → a ≡ address_of b → bodies.Request a f l ≡ atomic_at b
atomic_body b a f l e2 e3 e1 = rw (e1, e2, e3) refl

-- ---- completions

status_back : (s : Status) → status_of (status_code s) ≡ s
status_back statuses.Success = refl
status_back statuses.Unsupported = refl
status_back statuses.Aborted = refl

status_small : (s : Status) → status_code s < 8
status_small statuses.Success = omega arith
status_small statuses.Unsupported = omega arith
status_small statuses.Aborted = omega arith

status_field : (code n : ℕ) → code < 8 → (code * 32 + n % 4096 / 256) / 32 % 8 ≡ code
status_field code n h = omega arith

count_field : (code n : ℕ) → code < 8 → (code * 32 + n % 4096 / 256) / 1 % 16 * 256 + n % 256 ≡ n % 4096
count_field code n h = omega arith

lower_field : (n : ℕ) → n < 128 → n ≡ n / 1 % 128
lower_field n h = omega arith

abbrev completion_tail : ℕ → ℕ → ℕ → Status → ℕ → ℕ → List ℕ → List ℕ
completion_tail req tag c s n lower pay =
    big_bytes 2 c ++ ((status_code s * 32 + n % 4096 / 256) ∷ (n % 256) ∷ []) ++ big_bytes 2 req ++ (tag ∷ lower ∷ []) ++ pay

same_completion : (c c' : ℕ) (s s' : Status) (n n' lower lower' : ℕ) → c ≡ c' → s ≡ s' → n ≡ n' → lower ≡ lower' → bodies.Completion c s n lower ≡ bodies.Completion c' s' n' lower'
same_completion c c' s s' n n' lower lower' e1 e2 e3 e4 = cc

aligned_by : (m dw a : ℕ) → m * dw ≡ 4 → a % (m * dw) ≡ 0 → a % 4 ≡ 0
aligned_by m dw a e h = rw e at h

aligned_by_8 : (m dw a : ℕ) → m * dw ≡ 8 → a % (m * dw) ≡ 0 → a % 4 ≡ 0
aligned_by_8 m dw a e h = let g : a % 8 ≡ 0 = rw e at h in omega arith

aligned_by_16 : (m dw a : ℕ) → m * dw ≡ 16 → a % (m * dw) ≡ 0 → a % 4 ≡ 0
aligned_by_16 m dw a e h = let g : a % 16 ≡ 0 = rw e at h in omega arith

one_operand : (dw a f l : ℕ) → IsOneOperand dw a f l → (1 ≤ dw) × (dw ≤ 1024) × (a % 4 ≡ 0)
one_operand dw a f l h = elim h.0 [ inl e ↦ (omega arith, omega arith, aligned_by 4 dw a (omega arith) h.1) | inr e ↦ (omega arith, omega arith, aligned_by_8 4 dw a (omega arith) h.1) ]

two_operands : (dw a f l : ℕ) → IsTwoOperands dw a f l → (1 ≤ dw) × (dw ≤ 1024) × (a % 4 ≡ 0)
two_operands dw a f l h = elim h.0 [ inl e ↦ (omega arith, omega arith, aligned_by 2 dw a (omega arith) h.1) | inr s ↦ elim s [ inl e ↦ (omega arith, omega arith, aligned_by_8 2 dw a (omega arith) h.1) | inr e ↦ (omega arith, omega arith, aligned_by_16 2 dw a (omega arith) h.1) ] ]

completion_body : (code tc attr len req tag c : ℕ) (s : Status) (n lower : ℕ) (pay : List ℕ) → c < 2 ^ 16 → 1 ≤ n → n ≤ 4096 → lower < 128 → bodies.Completion c s n lower ≡ completion_at (front code tc attr len (completion_tail req tag c s n lower pay))
completion_body code tc attr len req tag c s n lower pay hc h1 h2 h3 =
    let e1 = big_number-reads_back 2 c (((status_code s * 32 + n % 4096 / 256) ∷ (n % 256) ∷ []) ++ big_bytes 2 req ++ (tag ∷ lower ∷ []) ++ pay) hc in
    let e2 : status_of ((status_code s * 32 + n % 4096 / 256) / 32 % 8) ≡ s = ap status_of (status_field (status_code s) n (status_small s)) ∙ status_back s in
    let e3 : or_all 4096 ((status_code s * 32 + n % 4096 / 256) / 1 % 16 * 256 + n % 256) ≡ n = ap (or_all 4096) (count_field (status_code s) n (status_small s)) ∙ or_all_is 4096 n h1 h2 in
    let e4 = lower_field lower h3 in
    same_completion c _ s _ n _ lower _ (sym e1) (sym e2) (sym e3) e4

completion_spells : (tc attr req tag c : ℕ) (s : Status) (n lower : ℕ) (pay : List ℕ) → req < 2 ^ 16 → c < 2 ^ 16 → IsPacket (record { kind = kinds.Completion; tc = tc; attr = attr; length = 0; requester = req; tag = tag; body = bodies.Completion c s n lower; payload = pay }) → Spells (canonical (record { kind = kinds.Completion; tc = tc; attr = attr; length = 0; requester = req; tag = tag; body = bodies.Completion c s n lower; payload = pay })) (record { kind = kinds.Completion; tc = tc; attr = attr; length = 0; requester = req; tag = tag; body = bodies.Completion c s n lower; payload = pay })
completion_spells tc attr req tag c s n lower pay hr hc g = record {
  whole = omega arith;
  kind = refl;
  reserved = front_reserved 0x0A tc attr 0 _ g.tc g.attr;
  tc = front_tc tc attr g.tc g.attr;
  attr = front_attr tc attr 0 g.tc g.attr;
  dws = refl;
  requester = sym (big_number-reads_back 2 req ((tag ∷ lower ∷ []) ++ pay) hr);
  tag = refl;
  body = completion_body 0x0A tc attr 0 req tag c s n lower pay hc g.fits.0 g.fits.1 g.fits.2;
  payload = refl;
  grammar = g;
}

completion_data_spells : (tc attr len req tag c : ℕ) (s : Status) (n lower : ℕ) (pay : List ℕ) → req < 2 ^ 16 → c < 2 ^ 16 → IsPacket (record { kind = kinds.CompletionData; tc = tc; attr = attr; length = len; requester = req; tag = tag; body = bodies.Completion c s n lower; payload = pay }) → Spells (canonical (record { kind = kinds.CompletionData; tc = tc; attr = attr; length = len; requester = req; tag = tag; body = bodies.Completion c s n lower; payload = pay })) (record { kind = kinds.CompletionData; tc = tc; attr = attr; length = len; requester = req; tag = tag; body = bodies.Completion c s n lower; payload = pay })
completion_data_spells tc attr len req tag c s n lower pay hr hc g = record {
  whole = omega arith;
  kind = refl;
  reserved = front_reserved 0x4A tc attr len _ g.tc g.attr;
  tc = front_tc tc attr g.tc g.attr;
  attr = front_attr tc attr len g.tc g.attr;
  dws = front_length attr len g.fits.3 (omega (arith, g.fits.4));
  requester = sym (big_number-reads_back 2 req ((tag ∷ lower ∷ []) ++ pay) hr);
  tag = refl;
  body = completion_body 0x4A tc attr len req tag c s n lower pay hc g.fits.0 g.fits.1 g.fits.2;
  payload = refl;
  grammar = g;
}

-- ---- all packets

spells_fields : (k : Kind) (body : Body) (tc attr len req tag : ℕ) (pay : List ℕ) → req < 2 ^ 16 → IsBodyInRange body → IsPacket (record { kind = k; tc = tc; attr = attr; length = len; requester = req; tag = tag; body = body; payload = pay }) → Spells (canonical (record { kind = k; tc = tc; attr = attr; length = len; requester = req; tag = tag; body = body; payload = pay })) (record { kind = k; tc = tc; attr = attr; length = len; requester = req; tag = tag; body = body; payload = pay })
spells_fields kinds.MemoryRead (bodies.Request a f l) tc attr len req tag pay hr hb g =
    let h = g.fits in
    request_spells (nat_lt a (2 ^ 32)) kinds.MemoryRead tc attr len req tag a f l pay refl
    (record { place = refl; dws = λ b. refl; body = λ b e1 e2 e3. memory_body b a f l e1 e2 e3; short = refl; long = refl; short_bit = refl; long_bit = refl })
    (record { tc = g.tc; attr = g.attr; some = h.0.0; most = h.1; req = hr; address = h.0.1; top = hb; first = h.0.2; last = h.0.3 }) g
spells_fields kinds.MemoryWrite (bodies.Request a f l) tc attr len req tag pay hr hb g =
    let h = g.fits in
    request_spells (nat_lt a (2 ^ 32)) kinds.MemoryWrite tc attr len req tag a f l pay refl
    (record { place = refl; dws = λ b. refl; body = λ b e1 e2 e3. memory_body b a f l e1 e2 e3; short = refl; long = refl; short_bit = refl; long_bit = refl })
    (record { tc = g.tc; attr = g.attr; some = h.0.0; most = omega (arith, h.1); req = hr; address = h.0.1; top = hb; first = h.0.2; last = h.0.3 }) g
spells_fields kinds.FetchAdd (bodies.Request a f l) tc attr len req tag pay hr hb g =
    let h = g.fits.0 in
    let d = one_operand len a f l h in
    request_spells (nat_lt a (2 ^ 32)) kinds.FetchAdd tc attr len req tag a f l pay refl
    (record { place = refl; dws = λ b. refl; body = λ b e1 e2 e3. atomic_body b a f l h.2 h.3 e1; short = refl; long = refl; short_bit = refl; long_bit = refl })
    (record { tc = g.tc; attr = g.attr; some = d.0; most = d.1; req = hr; address = d.2; top = hb; first = omega (arith, h.2); last = omega (arith, h.3) }) g
spells_fields kinds.Swap (bodies.Request a f l) tc attr len req tag pay hr hb g =
    let h = g.fits.0 in
    let d = one_operand len a f l h in
    request_spells (nat_lt a (2 ^ 32)) kinds.Swap tc attr len req tag a f l pay refl
    (record { place = refl; dws = λ b. refl; body = λ b e1 e2 e3. atomic_body b a f l h.2 h.3 e1; short = refl; long = refl; short_bit = refl; long_bit = refl })
    (record { tc = g.tc; attr = g.attr; some = d.0; most = d.1; req = hr; address = d.2; top = hb; first = omega (arith, h.2); last = omega (arith, h.3) }) g
spells_fields kinds.Cas (bodies.Request a f l) tc attr len req tag pay hr hb g =
    let h = g.fits.0 in
    let d = two_operands len a f l h in
    request_spells (nat_lt a (2 ^ 32)) kinds.Cas tc attr len req tag a f l pay refl
    (record { place = refl; dws = λ b. refl; body = λ b e1 e2 e3. atomic_body b a f l h.2 h.3 e1; short = refl; long = refl; short_bit = refl; long_bit = refl })
    (record { tc = g.tc; attr = g.attr; some = d.0; most = d.1; req = hr; address = d.2; top = hb; first = omega (arith, h.2); last = omega (arith, h.3) }) g
spells_fields kinds.Completion (bodies.Completion c s n lower) tc attr len req tag pay hr hb g =
    let P : ℕ → Type 0 = λ m. IsPacket (record { kind = kinds.Completion; tc = tc; attr = attr; length = m; requester = req; tag = tag; body = bodies.Completion c s n lower; payload = pay }) in
    let Q : ℕ → Type 0 = λ m. Spells (canonical (record { kind = kinds.Completion; tc = tc; attr = attr; length = m; requester = req; tag = tag; body = bodies.Completion c s n lower; payload = pay })) (record { kind = kinds.Completion; tc = tc; attr = attr; length = m; requester = req; tag = tag; body = bodies.Completion c s n lower; payload = pay }) in
    let e : len ≡ 0 = g.fits.3 in
    subst Q (sym e) (completion_spells tc attr req tag c s n lower pay hr hb (subst P e g))
spells_fields kinds.CompletionData (bodies.Completion c s n lower) tc attr len req tag pay hr hb g = completion_data_spells tc attr len req tag c s n lower pay hr hb g
spells_fields kinds.MemoryRead (bodies.Completion c s n lower) tc attr len req tag pay hr hb g = absurd g.fits
spells_fields kinds.MemoryWrite (bodies.Completion c s n lower) tc attr len req tag pay hr hb g = absurd g.fits
spells_fields kinds.FetchAdd (bodies.Completion c s n lower) tc attr len req tag pay hr hb g = absurd g.fits
spells_fields kinds.Swap (bodies.Completion c s n lower) tc attr len req tag pay hr hb g = absurd g.fits
spells_fields kinds.Cas (bodies.Completion c s n lower) tc attr len req tag pay hr hb g = absurd g.fits
spells_fields kinds.Completion (bodies.Request a f l) tc attr len req tag pay hr hb g = absurd g.fits
spells_fields kinds.CompletionData (bodies.Request a f l) tc attr len req tag pay hr hb g = absurd g.fits

pub canon_spells : (t : TlpView) → t.requester < 2 ^ 16 → IsBodyInRange t.body → IsPacket t → Spells (canonical t) t
canon_spells t hr hb g = spells_fields t.kind t.body t.tc t.attr t.length t.requester t.tag t.payload hr hb g

-- the fields of a packet fit their bytes
pub fields_fit : (k : Kind) (body : Body) (len given : ℕ) → FitsKind k body len given → FitsFields body
fields_fit kinds.MemoryRead (bodies.Request a f l) len given h = (h.0.2, h.0.3)
fields_fit kinds.MemoryWrite (bodies.Request a f l) len given h = (h.0.2, h.0.3)
fields_fit kinds.FetchAdd (bodies.Request a f l) len given h = (omega (arith, h.0.2), omega (arith, h.0.3))
fields_fit kinds.Swap (bodies.Request a f l) len given h = (omega (arith, h.0.2), omega (arith, h.0.3))
fields_fit kinds.Cas (bodies.Request a f l) len given h = (omega (arith, h.0.2), omega (arith, h.0.3))
fields_fit kinds.Completion (bodies.Completion c s n lower) len given h = (h.1, h.2)
fields_fit kinds.CompletionData (bodies.Completion c s n lower) len given h = (h.1, h.2)
fields_fit _ _ len given h = absurd h
