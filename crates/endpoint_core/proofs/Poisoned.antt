-- A TLP with poisoned data asks nothing of the memory, and writes no register.
use Rattle.std.proofs.Common.{◌≡◌, ◌∙◌, ℕ, Bool, true, false, List, [], ◌∷◌, ◌++◌, cond, refl, ap, subst, sym}
use Rattle.std.specs.Prelude.{◌-◌, ◌==◌, ◌||◌, not, nat_lt, length, slice_index, flat_map, Result, Ok, Err}
use Rattle.std.proofs.lemmas.Grind.{flat_map-append}
use Rattle.std.proofs.lemmas.List.{append-nil}
use Rattle.tlp_core.specs.declared.fault.TlpFault.{TlpFault}
use Rattle.tlp_core.specs.declared.fault.TlpFault.TheVariants as faults
use Rattle.tlp_core.specs.declared.packet.Kind.{Kind}
use Rattle.tlp_core.specs.declared.packet.Kind.TheVariants as kinds
use Rattle.tlp_core.specs.TlpView.{TlpView}
use Rattle.tlp_core.specs.Layout.{dw_count}
use Rattle.tlp_core.specs.Faults.{reading}
use Rattle.config_core.specs.declared.request.CfgRequest.{CfgRequest}
use Rattle.config_core.specs.declared.fault.CfgFault.{CfgFault}
use Rattle.config_core.specs.Layout as configuration
use Rattle.config_core.specs.declared.registers.Noted.{Noted}
use Rattle.config_core.specs.declared.registers.Noted.TheVariants as noted
use Rattle.endpoint_core.specs.DescriptorView.{DescriptorView}
use Rattle.endpoint_core.specs.declared.received.Malformed.{Malformed}
use Rattle.endpoint_core.specs.declared.received.Malformed.TheVariants as faulty
use Rattle.endpoint_core.specs.declared.received.Received.{Received}
use Rattle.endpoint_core.specs.declared.received.Received.TheVariants as received
use Rattle.endpoint_core.specs.Classes as classes
use Rattle.endpoint_core.specs.declared.waiting.Waiting.{Waiting}
use Rattle.endpoint_core.specs.declared.waiting.Waiting.TheVariants as waits
use Rattle.endpoint_core.specs.EndpointView.{EndpointView}
use Rattle.endpoint_core.specs.Steps.{taken, taken_as}
use Rattle.endpoint_core.specs.Runs.{blocks_by, blocks_waiting}

-- no request that acts
IsIdle : Received → Type 0
IsIdle (received.Posted t) = ⊥
IsIdle (received.NonPosted t) = ⊥
IsIdle (received.Configuration r) = ⊥
IsIdle _ = Unit {0}

malformed : (f : Malformed) → IsIdle (received.Malformed f)
unfolding IsIdle
malformed f = tt

refused : (d : DescriptorView) (n : Noted) → IsIdle (received.Refused d n)
unfolding IsIdle
refused d n = tt

unsupported : (n : Noted) → IsIdle (received.Unsupported n)
unfolding IsIdle
unsupported n = tt

no_configuration : (r : CfgRequest) → IsIdle (received.Configuration r) → ⊥
unfolding IsIdle
no_configuration r idle = idle

either : (b : Bool) (r s : Received) → IsIdle r → IsIdle s → IsIdle (cond b r s)
either true r s p q = p
either false r s p q = q

of_kind : (t : TlpView) (k : Kind) → IsIdle (classes.poisoned_by_kind k t)
unfolding IsIdle
of_kind t kinds.MemoryRead = tt
of_kind t kinds.MemoryWrite = tt
of_kind t kinds.FetchAdd = tt
of_kind t kinds.Swap = tt
of_kind t kinds.Cas = tt
of_kind t kinds.Completion = tt
of_kind t kinds.CompletionData = tt

of_packet : (r : Result TlpView TlpFault) → IsIdle (classes.of_packet true r)
of_packet (Err f) = malformed _
of_packet (Ok t) = either (classes.crosses t) _ _ (malformed _) (of_kind t t.kind)

of_configuration : (r : Result CfgRequest CfgFault) → IsIdle (classes.of_configuration true r)
of_configuration (Err f) = malformed _
of_configuration (Ok r) = refused _ _

of_io : (b : List ℕ) → IsIdle (classes.of_io b)
of_io b =
    either (nat_lt (length b) 12) _ _ (malformed (faulty.Packet faults.Short))
    (either (not (length b == classes.io_size (slice_index b 0)) || not (dw_count b == 1)) _ _ (malformed (faulty.Packet faults.LengthMismatch)) (refused (classes.descriptor_at b) noted.Refused))

of_message : (b : List ℕ) → IsIdle (classes.of_message true b)
of_message b =
    either (nat_lt (length b) 16) _ _ (malformed (faulty.Packet faults.Short))
    (either (not (length b - 16 == classes.message_data b)) _ _ (malformed (faulty.Packet faults.LengthMismatch))
    (either (nat_lt 128 (classes.message_data b)) _ _ (malformed (faulty.Packet faults.PayloadTooLong))
    (either (not (classes.is_ignored (slice_index b 7))) _ _ (unsupported noted.Unclaimed) (unsupported noted.Dropped))))

of_plain : (b : List ℕ) → IsIdle (classes.of_plain true b)
of_plain b =
    either (configuration.is_kind (slice_index b 0)) _ _ (of_configuration (configuration.reading b))
    (either (classes.is_io (slice_index b 0)) _ _ (of_io b)
    (either (classes.is_message (slice_index b 0)) _ _ (of_message b) (of_packet (reading b))))

idle : (b : List ℕ) → classes.is_poisoned b ≡ true → IsIdle (classes.becomes b)
idle b p =
    either (nat_lt classes.longest (length b)) _ _ (malformed (faulty.Packet faults.PayloadTooLong))
    (either (nat_lt (length b) 12) _ _ (malformed (faulty.Packet faults.Short))
    (subst (λ (x : Bool). IsIdle (classes.of_plain x (classes.plain b))) (sym p) (of_plain (classes.plain b))))

same_bytes : (e : EndpointView) (r : Received) → IsIdle r → (taken_as e r).device.bytes ≡ e.device.bytes
unfolding IsIdle
same_bytes e (received.Posted t) i = absurd i
same_bytes e (received.NonPosted t) i = absurd i
same_bytes e (received.Configuration r) i = absurd i
same_bytes e (received.PoisonedPosted t) i = refl
same_bytes e (received.PoisonedNonPosted t) i = refl
same_bytes e (received.Refused d n) i = refl
same_bytes e (received.Unsupported n) i = refl
same_bytes e received.Ignored i = refl
same_bytes e received.Unexpected i = refl
same_bytes e (received.Malformed f) i = refl

one_more : (ws : List Waiting) (w : Waiting) → blocks_by w ≡ [] → flat_map blocks_by (ws ++ w ∷ []) ≡ flat_map blocks_by ws
one_more ws w none = flat_map-append blocks_by ws (w ∷ []) ∙ ap (λ (xs : List _). flat_map blocks_by ws ++ (xs ++ [])) none ∙ append-nil (flat_map blocks_by ws)

same_blocks : (e : EndpointView) (r : Received) → IsIdle r → blocks_waiting (taken_as e r) ≡ blocks_waiting e
unfolding IsIdle
same_blocks e (received.Posted t) i = absurd i
same_blocks e (received.NonPosted t) i = absurd i
same_blocks e (received.Configuration r) i = absurd i
same_blocks e (received.PoisonedPosted t) i = refl
same_blocks e (received.PoisonedNonPosted t) i = one_more e.waiting (waits.Poisoned t) refl
same_blocks e (received.Refused d n) i = one_more e.waiting (waits.Refused d n) refl
same_blocks e (received.Unsupported n) i = refl
same_blocks e received.Ignored i = refl
same_blocks e received.Unexpected i = refl
same_blocks e (received.Malformed f) i = refl

pub bytes_stay : (e : EndpointView) (b : List ℕ) → classes.is_poisoned b ≡ true → (taken e b).device.bytes ≡ e.device.bytes
bytes_stay e b p = same_bytes e (classes.becomes b) (idle b p)

pub blocks_stay : (e : EndpointView) (b : List ℕ) → classes.is_poisoned b ≡ true → blocks_waiting (taken e b) ≡ blocks_waiting e
blocks_stay e b p = same_blocks e (classes.becomes b) (idle b p)

pub none_configures : (b : List ℕ) (r : CfgRequest) → classes.is_poisoned b ≡ true → classes.becomes b ≡ received.Configuration r → ⊥
none_configures b r p is = no_configuration r (subst IsIdle is (idle b p))
