-- Memory requests that come have no fault.
use Rattle.std.proofs.Common.{◌≡◌, ℕ, zero, suc, ◌+◌, ◌*◌, ◌/◌, ◌%◌, ◌^◌, ◌<◌, ◌≤◌, ◌⊎◌, inl, inr, Bool, true, false, List, [], ◌∷◌, Option, Some, None, cond, refl, sym, subst, arith, length, take, drop}
use Rattle.std.specs.Prelude.{◌-◌, ◌==◌, ◌&&◌, ◌||◌, not, nat_lt, slice_index, slice_set, Result, Ok, Err, IsTrue, if◌then◌else◌}
use Rattle.std.proofs.lemmas.Bool.Decides.{nat_tests}
use Rattle.std.proofs.lemmas.List.{get_or-drop}
use Rattle.byteorder.specs.Endian.{little_number}
use Rattle.byteorder.specs.Numbers.{little_from-lt}
use Rattle.tlp_core.specs.declared.fault.TlpFault.{TlpFault}
use Rattle.tlp_core.specs.declared.fault.TlpFault.TheVariants as faults
use Rattle.tlp_core.specs.Ops.{Op}
use Rattle.tlp_core.specs.declared.operation.OpOf.TheVariants as ops
use Rattle.tlp_core.specs.declared.packet.Kind.{Kind}
use Rattle.tlp_core.specs.declared.packet.Kind.TheVariants as kinds
use Rattle.tlp_core.specs.declared.packet.Body.{Body}
use Rattle.tlp_core.specs.declared.packet.Body.TheVariants as bodies
use Rattle.tlp_core.specs.TlpView.{TlpView, FitsKind}
use Rattle.tlp_core.specs.Bits.{IsBytes, has_bit}
use Rattle.tlp_core.specs.Enables.{are_enables}
use Rattle.tlp_core.specs.Layout.{Spells, dw_count, header_length}
use Rattle.tlp_core.specs.Faults.{reading}
use Rattle.tlp_core.specs.Operation.{op_at, op_of, op_fault, is_posted, width_of, wrong_length, wrong_enables, wrong_operand, wrong_address}
use Rattle.op_pieces.specs.Pieces.{bytes_of}
use Rattle.config_core.specs.declared.request.CfgRequest.{CfgRequest}
use Rattle.config_core.specs.declared.fault.CfgFault.{CfgFault}
use Rattle.config_core.specs.Layout as configuration
use Rattle.config_core.specs.declared.registers.Noted.{Noted}
use Rattle.config_core.specs.declared.registers.Noted.TheVariants as noted
use Rattle.endpoint_core.specs.DescriptorView.{DescriptorView}
use Rattle.endpoint_core.specs.declared.received.Malformed.{Malformed}
use Rattle.endpoint_core.specs.declared.received.Malformed.TheVariants as faulty
use Rattle.endpoint_core.specs.declared.received.Received.{Received}
use Rattle.endpoint_core.specs.declared.received.Received.TheVariants as received
use Rattle.endpoint_core.specs.Classes as classes

-- ---- the operation of a packet

-- none, or one without a fault
abbrev pub IsSound : Bool → Option Op → Type 0
IsSound p None = Unit {0}
IsSound p (Some op) = (op_fault op ≡ None) × (is_posted op ≡ p) × IsBytes (bytes_of op)

record HasNone (op : Op) : Type 0 where
  lengths : wrong_length op ≡ false
  enabled : wrong_enables op ≡ false
  operand : wrong_operand op ≡ false
  address : wrong_address op ≡ false

none_found : (op : Op) → HasNone op → op_fault op ≡ None
none_found op h = rw (h.lengths, h.enabled, h.operand, h.address) refl

few : (dw : ℕ) → 1 ≤ dw → dw ≤ 1024 → ((dw == 0) || nat_lt 1024 dw) ≡ false
few dw some most = grind (arith, nat_tests)

whole : (n dw : ℕ) → 1 ≤ dw → n ≡ 4 * dw → ((n == 0) || not (n % 4 == 0)) ≡ false
whole n dw some is = grind (arith, nat_tests)

right : (f l : ℕ) (b : Bool) → f < 16 → l < 16 → IsTrue b → (nat_lt 15 f || nat_lt 15 l || not b) ≡ false
right f l true p q t = grind (arith, nat_tests)
right f l false p q t = absurd (cc)

aligned : (a n : ℕ) → a % n ≡ 0 → not (a % n == 0) ≡ false
aligned a n e = rw e refl

below : (a b : ℕ) → a < b → not (nat_lt a b) ≡ false
below a b h = grind (arith, nat_tests)

two_tests : (x y : Bool) → x ≡ false → y ≡ false → (x || y) ≡ false
two_tests x y e1 e2 = rw (e1, e2) refl

read_sound : (a dw f l : ℕ) → 1 ≤ dw → dw ≤ 1024 → a % 4 ≡ 0 → f < 16 → l < 16 → IsTrue (are_enables dw a f l) → op_fault (ops.Read a dw f l) ≡ None
read_sound a dw f l some most al p q t =
    none_found (ops.Read a dw f l) (record { lengths = few dw some most; enabled = right f l (are_enables dw a f l) p q t; operand = refl; address = aligned a 4 al })

quarter : (n dw : ℕ) → n ≡ 4 * dw → n / 4 ≡ dw
quarter n dw e = omega (arith, e)

write_sound : (a dw f l : ℕ) (bytes : List ℕ) → 1 ≤ dw → a % 4 ≡ 0 → f < 16 → l < 16 → IsTrue (are_enables dw a f l) → length bytes ≡ 4 * dw → op_fault (ops.Write a f l (record { items = bytes })) ≡ None
write_sound a dw f l bytes some al p q t is =
    none_found (ops.Write a f l (record { items = bytes }))
    (record { lengths = whole (length bytes) dw some is; enabled = right f l (are_enables (length bytes / 4) a f l) p q (subst (λ (n : ℕ). IsTrue (are_enables n a f l)) (sym (quarter (length bytes) dw is)) t); operand = refl; address = aligned a 4 al })

abbrev number : ℕ → List ℕ → ℕ
number n bytes = little_number n bytes

one_sound : (a dw : ℕ) (bytes : List ℕ) → IsBytes bytes → ((dw ≡ 1) ⊎ (dw ≡ 2)) → a % (4 * dw) ≡ 0
    → (op_fault (ops.FetchAdd a (width_of (4 * dw)) (number (4 * dw) bytes)) ≡ None) × (op_fault (ops.Swap a (width_of (4 * dw)) (number (4 * dw) bytes)) ≡ None)
one_sound a dw bytes b (inl e) al =
    let at : a % 4 ≡ 0 = subst (λ (n : ℕ). a % (4 * n) ≡ 0) e al in
    let fits : number 4 bytes < 2 ^ 32 = little_from-lt 0 4 bytes b in
    subst (λ (n : ℕ). (op_fault (ops.FetchAdd a (width_of (4 * n)) (number (4 * n) bytes)) ≡ None) × (op_fault (ops.Swap a (width_of (4 * n)) (number (4 * n) bytes)) ≡ None)) (sym e)
    (none_found (ops.FetchAdd a (width_of 4) (number 4 bytes)) (record { lengths = refl; enabled = refl; operand = below (number 4 bytes) (2 ^ 32) fits; address = aligned a 4 at }), none_found (ops.Swap a (width_of 4) (number 4 bytes)) (record { lengths = refl; enabled = refl; operand = below (number 4 bytes) (2 ^ 32) fits; address = aligned a 4 at }))
one_sound a dw bytes b (inr e) al =
    let at : a % 8 ≡ 0 = subst (λ (n : ℕ). a % (4 * n) ≡ 0) e al in
    let fits : number 8 bytes < 2 ^ 64 = little_from-lt 0 8 bytes b in
    subst (λ (n : ℕ). (op_fault (ops.FetchAdd a (width_of (4 * n)) (number (4 * n) bytes)) ≡ None) × (op_fault (ops.Swap a (width_of (4 * n)) (number (4 * n) bytes)) ≡ None)) (sym e)
    (none_found (ops.FetchAdd a (width_of 8) (number 8 bytes)) (record { lengths = refl; enabled = refl; operand = below (number 8 bytes) (2 ^ 64) fits; address = aligned a 8 at }), none_found (ops.Swap a (width_of 8) (number 8 bytes)) (record { lengths = refl; enabled = refl; operand = below (number 8 bytes) (2 ^ 64) fits; address = aligned a 8 at }))

abbrev cas : ℕ → ℕ → List ℕ → List ℕ → Op
cas a n x y = ops.Cas a (width_of n) (number n x) (number n y)

cas_sound : (a dw : ℕ) (x y : List ℕ) → IsBytes x → IsBytes y → ((dw ≡ 2) ⊎ (dw ≡ 4) ⊎ (dw ≡ 8)) → a % (2 * dw) ≡ 0 → op_fault (cas a (2 * dw) x y) ≡ None
cas_sound a dw x y p q (inl e) al =
    let at : a % 4 ≡ 0 = subst (λ (n : ℕ). a % (2 * n) ≡ 0) e al in
    subst (λ (n : ℕ). op_fault (cas a (2 * n) x y) ≡ None) (sym e) (none_found (cas a 4 x y) (record { lengths = refl; enabled = refl; operand = two_tests _ _ (below (number 4 x) (2 ^ 32) (little_from-lt 0 4 x p)) (below (number 4 y) (2 ^ 32) (little_from-lt 0 4 y q)); address = aligned a 4 at }))
cas_sound a dw x y p q (inr (inl e)) al =
    let at : a % 8 ≡ 0 = subst (λ (n : ℕ). a % (2 * n) ≡ 0) e al in
    subst (λ (n : ℕ). op_fault (cas a (2 * n) x y) ≡ None) (sym e) (none_found (cas a 8 x y) (record { lengths = refl; enabled = refl; operand = two_tests _ _ (below (number 8 x) (2 ^ 64) (little_from-lt 0 8 x p)) (below (number 8 y) (2 ^ 64) (little_from-lt 0 8 y q)); address = aligned a 8 at }))
cas_sound a dw x y p q (inr (inr e)) al =
    let at : a % 16 ≡ 0 = subst (λ (n : ℕ). a % (2 * n) ≡ 0) e al in
    subst (λ (n : ℕ). op_fault (cas a (2 * n) x y) ≡ None) (sym e) (none_found (cas a 16 x y) (record { lengths = refl; enabled = refl; operand = two_tests _ _ (below (number 16 x) (2 ^ 128) (little_from-lt 0 16 x p)) (below (number 16 y) (2 ^ 128) (little_from-lt 0 16 y q)); address = aligned a 16 at }))

pub dropped_bytes : (n : ℕ) (b : List ℕ) → IsBytes b → IsBytes (drop n b)
dropped_bytes n b h i = subst (λ (x : ℕ). x < 256) (sym (get_or-drop n b i 0)) (h (n + i))

abbrev is_write : Kind → Bool
is_write kinds.MemoryWrite = true
is_write _ = false

none : IsBytes []
none i = omega arith

packet_op : (k : Kind) (b : Body) (dw : ℕ) (bytes : List ℕ) → FitsKind k b dw (length bytes) → IsBytes bytes → IsSound (is_write k) (op_at k b dw bytes)
packet_op kinds.MemoryRead (bodies.Request a f l) dw bytes h c = (read_sound a dw f l h.0.0 h.1 h.0.1 h.0.2 h.0.3 h.0.4, refl, none)
packet_op kinds.MemoryRead (bodies.Completion i s n lower) dw bytes h c = absurd h
packet_op kinds.MemoryWrite (bodies.Request a f l) dw bytes h c = (write_sound a dw f l bytes h.0.0 h.0.1 h.0.2 h.0.3 h.0.4 h.2, refl, c)
packet_op kinds.MemoryWrite (bodies.Completion i s n lower) dw bytes h c = absurd h
packet_op kinds.FetchAdd (bodies.Request a f l) dw bytes h c = ((one_sound a dw bytes c h.0.0 h.0.1).0, refl, none)
packet_op kinds.FetchAdd (bodies.Completion i s n lower) dw bytes h c = absurd h
packet_op kinds.Swap (bodies.Request a f l) dw bytes h c = ((one_sound a dw bytes c h.0.0 h.0.1).1, refl, none)
packet_op kinds.Swap (bodies.Completion i s n lower) dw bytes h c = absurd h
packet_op kinds.Cas (bodies.Request a f l) dw bytes h c = (cas_sound a dw bytes (drop (2 * dw) bytes) c (dropped_bytes (2 * dw) bytes c) h.0.0 h.0.1, refl, none)
packet_op kinds.Cas (bodies.Completion i s n lower) dw bytes h c = absurd h
packet_op kinds.Completion (bodies.Request a f l) dw bytes h c = absurd h
packet_op kinds.Completion (bodies.Completion i s n lower) dw bytes h c = tt
packet_op kinds.CompletionData (bodies.Request a f l) dw bytes h c = absurd h
packet_op kinds.CompletionData (bodies.Completion i s n lower) dw bytes h c = tt

-- ---- what comes

pub Asks : Received → Type 0
Asks (received.NonPosted t) = IsSound false (op_of t)
Asks (received.Posted t) = IsSound true (op_of t)
Asks _ = Unit {0}

pub asked_of : (t : TlpView) → Asks (received.NonPosted t) → IsSound false (op_of t)
unfolding Asks
asked_of t h = h

pub posted_of : (t : TlpView) → Asks (received.Posted t) → IsSound true (op_of t)
unfolding Asks
posted_of t h = h

malformed : (f : Malformed) → Asks (received.Malformed f)
unfolding Asks
malformed f = tt

refused : (d : DescriptorView) (n : Noted) → Asks (received.Refused d n)
unfolding Asks
refused d n = tt

unsupported : (n : Noted) → Asks (received.Unsupported n)
unfolding Asks
unsupported n = tt

ignored : Asks received.Ignored
unfolding Asks
ignored = tt

configures : (r : CfgRequest) → Asks (received.Configuration r)
unfolding Asks
configures r = tt

either : (b : Bool) (r s : Received) → Asks r → Asks s → Asks (cond b r s)
either true r s p q = p
either false r s p q = q

of_kind : (t : TlpView) (k : Kind) → IsSound (is_write k) (op_of t) → Asks (classes.by_kind k t)
unfolding Asks
of_kind t kinds.MemoryRead h = h
of_kind t kinds.MemoryWrite h = h
of_kind t kinds.FetchAdd h = h
of_kind t kinds.Swap h = h
of_kind t kinds.Cas h = h
of_kind t kinds.Completion h = tt
of_kind t kinds.CompletionData h = tt

of_poisoned : (t : TlpView) (k : Kind) → Asks (classes.poisoned_by_kind k t)
unfolding Asks
of_poisoned t kinds.MemoryRead = tt
of_poisoned t kinds.MemoryWrite = tt
of_poisoned t kinds.FetchAdd = tt
of_poisoned t kinds.Swap = tt
of_poisoned t kinds.Cas = tt
of_poisoned t kinds.Completion = tt
of_poisoned t kinds.CompletionData = tt

-- what the decoder reads of bytes is spelled by them
abbrev pub Spelled : Type 0
Spelled = (b : List ℕ) (t : TlpView) → IsBytes b → reading b ≡ Ok t → Spells b t

of_packet : (p : Bool) (r : Result TlpView TlpFault) → ((t : TlpView) → r ≡ Ok t → IsSound (is_write t.kind) (op_of t)) → Asks (classes.of_packet p r)
of_packet p (Err f) h = malformed _
of_packet p (Ok t) h =
    either (classes.crosses t) _ _ (malformed _) (either p _ _ (of_poisoned t t.kind) (of_kind t t.kind (h t refl)))

of_configuration : (p : Bool) (r : Result CfgRequest CfgFault) → Asks (classes.of_configuration p r)
of_configuration p (Err f) = malformed _
of_configuration p (Ok r) = either p _ _ (refused _ _) (configures r)

of_io : (b : List ℕ) → Asks (classes.of_io b)
of_io b =
    either (nat_lt (length b) 12) _ _ (malformed (faulty.Packet faults.Short))
    (either (not (length b == classes.io_size (slice_index b 0)) || not (dw_count b == 1)) _ _ (malformed (faulty.Packet faults.LengthMismatch)) (refused (classes.descriptor_at b) noted.Refused))

of_message : (p : Bool) (b : List ℕ) → Asks (classes.of_message p b)
of_message p b =
    either (nat_lt (length b) 16) _ _ (malformed (faulty.Packet faults.Short))
    (either (not (length b - 16 == classes.message_data b)) _ _ (malformed (faulty.Packet faults.LengthMismatch))
    (either (nat_lt 128 (classes.message_data b)) _ _ (malformed (faulty.Packet faults.PayloadTooLong))
    (either (not (classes.is_ignored (slice_index b 7))) _ _ (unsupported noted.Unclaimed)
    (either p _ _ (unsupported noted.Dropped) ignored))))

read_op : Spelled → (b : List ℕ) → IsBytes b → (t : TlpView) → reading b ≡ Ok t → IsSound (is_write t.kind) (op_of t)
read_op spelled b bytes t e =
    let s : Spells b t = spelled b t bytes e in
    packet_op t.kind t.body t.length t.payload s.grammar.fits (subst IsBytes (sym s.payload) (dropped_bytes (header_length b) b bytes))

of_plain : Spelled → (p : Bool) (b : List ℕ) → IsBytes b → Asks (classes.of_plain p b)
of_plain spelled p b bytes =
    either (configuration.is_kind (slice_index b 0)) _ _ (of_configuration p (configuration.reading b))
    (either (classes.is_io (slice_index b 0)) _ _ (of_io b)
    (either (classes.is_message (slice_index b 0)) _ _ (of_message p b)
    (of_packet p (reading b) (read_op spelled b bytes))))

-- ---- without what a receiver ignores

pub taken_small : (n i : ℕ) (xs : List ℕ) → ((j : ℕ) → slice_index xs j < 256) → slice_index (take n xs) i < 256
taken_small zero i xs h = omega arith
taken_small (suc n) i [] h = omega arith
taken_small (suc n) zero (x ∷ xs) h = h 0
taken_small (suc n) (suc i) (x ∷ xs) h = taken_small n i xs (λ j. h (suc j))

set_small : (k i v : ℕ) (xs : List ℕ) → v < 256 → ((j : ℕ) → slice_index xs j < 256) → slice_index (slice_set xs k v) i < 256
set_small k i v [] s h = omega arith
set_small zero zero v (x ∷ xs) s h = s
set_small zero (suc i) v (x ∷ xs) s h = h (suc i)
set_small (suc k) zero v (x ∷ xs) s h = h 0
set_small (suc k) (suc i) v (x ∷ xs) s h = set_small k i v xs s (λ j. h (suc j))

set_bytes : (k v : ℕ) (xs : List ℕ) → v < 256 → IsBytes xs → IsBytes (slice_set xs k v)
set_bytes k v xs s h i = set_small k i v xs s h

small_by : (b : Bool) (x y : ℕ) → x < 256 → y < 256 → cond b x y < 256
small_by true x y p q = p
small_by false x y p q = q

code_small : (code : ℕ) → code < 256 → classes.plain_code code < 256
code_small code h = small_by (code == 0x0B) 0x0A _ (omega arith) (small_by (code == 0x4B) 0x4A code (omega arith) h)

hints_small : (b : List ℕ) → classes.plain_hints b < 256
hints_small b = small_by (configuration.is_kind (slice_index b 0)) _ _ (omega arith) (omega arith)

enables_small : (b : List ℕ) → IsBytes b → classes.plain_enables b < 256
enables_small b h =
    small_by (classes.is_read (slice_index b 0) && has_bit b 1 0) _ (slice_index b 7) (small_by (dw_count b == 1) 0x0F 0xFF (omega arith) (omega arith)) (h 7)

plain_bytes : (b : List ℕ) → IsBytes b → IsBytes (classes.plain b)
plain_bytes b h =
    let n = (if slice_index b 2 / 128 == 1 then length b - 4 else length b) in
    set_bytes 7 (classes.plain_enables b) _ (enables_small b h)
    (set_bytes 2 (slice_index b 2 % 64) _ (omega arith)
    (set_bytes 1 (classes.plain_hints b) _ (hints_small b)
    (set_bytes 0 (classes.plain_code (slice_index b 0)) (take n b) (code_small (slice_index b 0) (h 0)) (λ j. taken_small n j b h))))

pub becomes_asked : Spelled → (b : List ℕ) → IsBytes b → Asks (classes.becomes b)
becomes_asked spelled b bytes =
    either (nat_lt classes.longest (length b)) _ _ (malformed (faulty.Packet faults.PayloadTooLong))
    (either (nat_lt (length b) 12) _ _ (malformed (faulty.Packet faults.Short)) (of_plain spelled (classes.is_poisoned b) (classes.plain b) (plain_bytes b bytes)))
