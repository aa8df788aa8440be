-- A non-posted memory request that comes: no write, and an aligned address.
use Rattle.std.proofs.Common.{◌≡◌, ℕ, ◌*◌, ◌/◌, ◌%◌, Bool, true, false, List, Option, Some, None, cond, refl, subst, arith}
use Rattle.std.specs.Prelude.{◌-◌, ◌==◌, ◌||◌, not, nat_lt, length, slice_index, Result, Ok, Err}
use Rattle.byteorder.specs.Endian.{big_number}
use Rattle.std.specs.Prelude.{drop}
use Rattle.tlp_core.specs.declared.fault.TlpFault.{TlpFault}
use Rattle.tlp_core.specs.declared.fault.TlpFault.TheVariants as faults
use Rattle.tlp_core.specs.declared.packet.Kind.{Kind}
use Rattle.tlp_core.specs.declared.packet.Kind.TheVariants as kinds
use Rattle.tlp_core.specs.declared.packet.Body.{Body}
use Rattle.tlp_core.specs.declared.packet.Body.TheVariants as bodies
use Rattle.tlp_core.specs.TlpView.{TlpView}
use Rattle.tlp_core.specs.Bits.{has_bit}
use Rattle.tlp_core.specs.Layout.{kind_of, packet_at, dw_count}
use Rattle.tlp_core.specs.Faults.{read_as, first_fault}
use Rattle.config_core.specs.declared.request.CfgRequest.{CfgRequest}
use Rattle.config_core.specs.declared.fault.CfgFault.{CfgFault}
use Rattle.config_core.specs.Layout as configuration
use Rattle.config_core.specs.declared.registers.Noted.{Noted}
use Rattle.config_core.specs.declared.registers.Noted.TheVariants as noted
use Rattle.endpoint_core.specs.DescriptorView.{DescriptorView}
use Rattle.endpoint_core.specs.declared.received.Malformed.{Malformed}
use Rattle.endpoint_core.specs.declared.received.Malformed.TheVariants as faulty
use Rattle.endpoint_core.specs.declared.received.Received.{Received}
use Rattle.endpoint_core.specs.declared.received.Received.TheVariants as received
use Rattle.endpoint_core.specs.Classes as classes
use Rattle.endpoint_core.specs.Blocks.{IsNonPosted}

abbrev pub IsAsked : Kind → Body → Type 0
IsAsked kinds.MemoryRead (bodies.Request a f l) = a % 4 ≡ 0
IsAsked kinds.FetchAdd (bodies.Request a f l) = Unit {0}
IsAsked kinds.Swap (bodies.Request a f l) = Unit {0}
IsAsked kinds.Cas (bodies.Request a f l) = Unit {0}
IsAsked _ _ = ⊥

pub Asks : Received → Type 0
Asks (received.NonPosted t) = IsAsked t.kind t.body
Asks (received.Posted t) = t.kind ≡ kinds.MemoryWrite
Asks (received.PoisonedNonPosted t) = IsNonPosted t.kind
Asks _ = Unit {0}

pub asked_of : (t : TlpView) → Asks (received.NonPosted t) → IsAsked t.kind t.body
unfolding Asks
asked_of t h = h

poison_of : (t : TlpView) → Asks (received.PoisonedNonPosted t) → IsNonPosted t.kind
unfolding Asks
poison_of t h = h

pub write_of : (t : TlpView) → Asks (received.Posted t) → t.kind ≡ kinds.MemoryWrite
unfolding Asks
write_of t h = h

malformed : (f : Malformed) → Asks (received.Malformed f)
unfolding Asks
malformed f = tt

refused : (d : DescriptorView) (n : Noted) → Asks (received.Refused d n)
unfolding Asks
refused d n = tt

unsupported : (n : Noted) → Asks (received.Unsupported n)
unfolding Asks
unsupported n = tt

ignored : Asks received.Ignored
unfolding Asks
ignored = tt

configures : (r : CfgRequest) → Asks (received.Configuration r)
unfolding Asks
configures r = tt

either : (b : Bool) (r s : Received) → Asks r → Asks s → Asks (cond b r s)
either true r s p q = p
either false r s p q = q

whole : (x : ℕ) → x / 4 * 4 % 4 ≡ 0
whole x = omega arith

aligned : (b : Bool) (x y : ℕ) → (cond b (x / 4 * 4) (y / 4 * 4)) % 4 ≡ 0
aligned true x y = whole x
aligned false x y = whole y

of_kind : (b : List ℕ) (k : Kind) → Asks (classes.by_kind k (packet_at b k))
unfolding Asks
of_kind b kinds.MemoryRead = aligned (has_bit b 0 5) (big_number 8 (drop 8 b)) (big_number 4 (drop 8 b))
of_kind b kinds.MemoryWrite = refl
of_kind b kinds.FetchAdd = tt
of_kind b kinds.Swap = tt
of_kind b kinds.Cas = tt
of_kind b kinds.Completion = tt
of_kind b kinds.CompletionData = tt

of_poisoned : (b : List ℕ) (k : Kind) → Asks (classes.poisoned_by_kind k (packet_at b k))
unfolding Asks
of_poisoned b kinds.MemoryRead = tt
of_poisoned b kinds.MemoryWrite = tt
of_poisoned b kinds.FetchAdd = tt
of_poisoned b kinds.Swap = tt
of_poisoned b kinds.Cas = tt
of_poisoned b kinds.Completion = tt
of_poisoned b kinds.CompletionData = tt

of_packet : (p : Bool) (b : List ℕ) (o : Option TlpFault) (k : Option Kind) → Asks (classes.of_packet p (read_as o k b))
of_packet p b (Some f) k = malformed _
of_packet p b None None = malformed _
of_packet p b None (Some k) =
    either (classes.crosses (packet_at b k)) _ _ (malformed _) (either p _ _ (of_poisoned b k) (of_kind b k))

of_configuration : (p : Bool) (r : Result CfgRequest CfgFault) → Asks (classes.of_configuration p r)
of_configuration p (Err f) = malformed _
of_configuration p (Ok r) = either p _ _ (refused _ _) (configures r)

of_io : (b : List ℕ) → Asks (classes.of_io b)
of_io b =
    either (nat_lt (length b) 12) _ _ (malformed (faulty.Packet faults.Short))
    (either (not (length b == classes.io_size (slice_index b 0)) || not (dw_count b == 1)) _ _ (malformed (faulty.Packet faults.LengthMismatch)) (refused (classes.descriptor_at b) noted.Refused))

of_message : (p : Bool) (b : List ℕ) → Asks (classes.of_message p b)
of_message p b =
    either (nat_lt (length b) 16) _ _ (malformed (faulty.Packet faults.Short))
    (either (not (length b - 16 == classes.message_data b)) _ _ (malformed (faulty.Packet faults.LengthMismatch))
    (either (nat_lt 128 (classes.message_data b)) _ _ (malformed (faulty.Packet faults.PayloadTooLong))
    (either (not (classes.is_ignored (slice_index b 7))) _ _ (unsupported noted.Unclaimed)
    (either p _ _ (unsupported noted.Dropped) ignored))))

of_plain : (p : Bool) (b : List ℕ) → Asks (classes.of_plain p b)
of_plain p b =
    either (configuration.is_kind (slice_index b 0)) _ _ (of_configuration p (configuration.reading b))
    (either (classes.is_io (slice_index b 0)) _ _ (of_io b)
    (either (classes.is_message (slice_index b 0)) _ _ (of_message p b)
    (of_packet p b (first_fault b) (kind_of (slice_index b 0)))))

pub becomes_asked : (b : List ℕ) → Asks (classes.becomes b)
becomes_asked b =
    either (nat_lt classes.longest (length b)) _ _ (malformed (faulty.Packet faults.PayloadTooLong))
    (either (nat_lt (length b) 12) _ _ (malformed (faulty.Packet faults.Short)) (of_plain (classes.is_poisoned b) (classes.plain b)))

-- what is posted is a write
pub posted_write : (b : List ℕ) (t : TlpView) → classes.becomes b ≡ received.Posted t → t.kind ≡ kinds.MemoryWrite
posted_write b t e = write_of t (subst Asks e (becomes_asked b))

asked_kind : (k : Kind) (b : Body) → IsAsked k b → IsNonPosted k
asked_kind kinds.MemoryRead b h = tt
asked_kind kinds.MemoryWrite b h = h
asked_kind kinds.FetchAdd b h = tt
asked_kind kinds.Swap b h = tt
asked_kind kinds.Cas b h = tt
asked_kind kinds.Completion b h = h
asked_kind kinds.CompletionData b h = h

-- what isn't posted has a completion
pub non_posted : (b : List ℕ) (t : TlpView) → classes.becomes b ≡ received.NonPosted t → IsNonPosted t.kind
non_posted b t e = asked_kind t.kind t.body (asked_of t (subst Asks e (becomes_asked b)))

-- nor is what is poisoned so
pub poisoned_non_posted : (b : List ℕ) (t : TlpView) → classes.becomes b ≡ received.PoisonedNonPosted t → IsNonPosted t.kind
poisoned_non_posted b t e = poison_of t (subst Asks e (becomes_asked b))
