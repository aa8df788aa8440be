-- What bytes spell is a packet, each number in its field.
use Rattle.std.proofs.Common.{◌≡◌, ℕ, ◌+◌, ◌*◌, ◌/◌, ◌^◌, ◌<◌, Bool, true, false, List, length, drop, refl, sym, subst, arith}
use Rattle.std.specs.Prelude.{◌==◌, if◌then◌else◌, Result, Ok, Err}
use Rattle.byteorder.specs.Endian.{big_number}
use Rattle.byteorder.specs.Numbers.{big_from-lt}
use Rattle.tlp_core.specs.declared.packet.Kind.{Kind}
use Rattle.tlp_core.specs.declared.packet.Kind.TheVariants as kinds
use Rattle.tlp_core.specs.declared.fault.TlpFault.{TlpFault}
use Rattle.tlp_core.specs.Bits.{IsBytes, has_bit}
use Rattle.tlp_core.specs.TlpView as tlp
use Rattle.tlp_core.specs.Layout as tlp_layout
use Rattle.tlp_core.specs.Faults as tlp_faults
use Rattle.tlp_core.specs.declared.fault.TlpFault.TheVariants as tlp_fault
use Rattle.config_core.specs.declared.request.CfgRequest.{CfgRequest}
use Rattle.config_core.specs.declared.fault.CfgFault.{CfgFault}
use Rattle.config_core.specs.Layout as configuration
use Rattle.config_core.specs.Canonical as configuration_bytes
use Rattle.dllp_core.specs.declared.packet.Dllp.{Dllp}
use Rattle.dllp_core.specs.declared.packet.Dllp.TheVariants as dllps
use Rattle.dllp_core.specs.declared.fault.DllpFault.{DllpFault}
use Rattle.dllp_core.specs.Layout as dllp_layout
use Rattle.dllp_core.specs.Faults as dllp_faults
use Rattle.packet_text.specs.declared.packet.Packet.{Packet}
use Rattle.packet_text.specs.declared.packet.Packet.TheVariants as packets
use Rattle.packet_text.specs.declared.fault.BytesFault.{BytesFault}
use Rattle.packet_text.specs.Packets.{IsTlp, IsPacket, of_other, of_tlp_fault, of_tlp, of_dllp, reading}
use Rattle.packet_text.proofs.NumberLemmas.{bytes-drop}

-- what is known of the bytes of TLPs and DLLPs
pub record Spellings : Type 0 where
  pub of_tlps : (b : List ℕ) (t : tlp.TlpView) → IsBytes b → tlp_faults.reading b ≡ Ok t → tlp_layout.Spells b t
  pub of_requests : (b : List ℕ) (r : CfgRequest) → IsBytes b → configuration.reading b ≡ Ok r → configuration_bytes.FitsFields r
  pub of_dllps : (b : List ℕ) (d : Dllp) → dllp_faults.reading b ≡ Ok d → dllp_layout.Spells b d

address-range : (b : List ℕ) → IsBytes b → tlp_layout.address_of b < 2 ^ 64
address-range b are = by (has_bit b 0 5) (big_from-lt 0 8 (drop 8 b) (bytes-drop 8 b are)) (big_from-lt 0 4 (drop 8 b) (bytes-drop 8 b are))
  where
    by : (long : Bool) → big_number 8 (drop 8 b) < 256 ^ 8 → big_number 4 (drop 8 b) < 256 ^ 4
        → (if long then big_number 8 (drop 8 b) / 4 * 4 else big_number 4 (drop 8 b) / 4 * 4) < 2 ^ 64
    by true h k = omega arith
    by false h k = omega arith

body-range : (k : Kind) (b : List ℕ) → IsBytes b → tlp.IsBodyInRange (tlp_layout.body_at k b)
body-range kinds.MemoryRead b are = address-range b are
body-range kinds.MemoryWrite b are = address-range b are
body-range kinds.FetchAdd b are = address-range b are
body-range kinds.Swap b are = address-range b are
body-range kinds.Cas b are = address-range b are
body-range kinds.Completion b are = big_from-lt 0 2 (drop 4 b) (bytes-drop 4 b are)
body-range kinds.CompletionData b are = big_from-lt 0 2 (drop 4 b) (bytes-drop 4 b are)

tlp-is : (b : List ℕ) (t : tlp.TlpView) → IsBytes b → tlp_layout.Spells b t → IsTlp t
tlp-is b t are h =
    let place = tlp_layout.requester_place t.kind in
    record {
      grammar = h.grammar;
      requester = subst (λ (n : ℕ). n < 2 ^ 16) (sym h.requester) (big_from-lt 0 2 (drop place b) (bytes-drop place b are));
      tag = subst (λ (n : ℕ). n < 2 ^ 8) (sym h.tag) (are (place + 2));
      body = subst tlp.IsBodyInRange (sym h.body) (body-range t.kind b are);
      payload = subst IsBytes (sym h.payload) (bytes-drop (tlp_layout.header_length b) b are);
    }

low_twelve-range : (b : List ℕ) → IsBytes b → dllp_layout.low_twelve b < 4096
low_twelve-range b are = let r = are 3 in omega arith

dllp-is : (b : List ℕ) (d : Dllp) → IsBytes b → dllp_layout.Spells b d → dllp_layout.FitsFields d
dllp-is b (dllps.Ack n) are h = subst (λ (n : ℕ). n < 4096) (sym h.has_number) (low_twelve-range b are)
dllp-is b (dllps.Nak n) are h = subst (λ (n : ℕ). n < 4096) (sym h.has_number) (low_twelve-range b are)
dllp-is b (dllps.Update c header units) are h = (
  subst (λ (n : ℕ). n < 256) (sym h.has_header) (let r = are 2 in omega arith),
  subst (λ (n : ℕ). n < 4096) (sym h.has_units) (low_twelve-range b are),
)

of-ok : (p q : Packet) → ◌≡◌ {A = Result Packet BytesFault} (Ok p) (Ok q) → p ≡ q
of-ok p q e = cc e

request-is : (S : Spellings) (b : List ℕ) → IsBytes b → (r : Result CfgRequest CfgFault) → configuration.reading b ≡ r → (p : Packet) → of_other r ≡ Ok p → IsPacket p
request-is S b are (Ok r) is p e = subst IsPacket (of-ok (packets.Configuration r) p e) (S.of_requests b r are is)
request-is S b are (Err f) is p e = absurd (cc e)

fault-is : (S : Spellings) (b : List ℕ) → IsBytes b → (f : TlpFault) (p : Packet) → of_tlp_fault b f ≡ Ok p → IsPacket p
fault-is S b are tlp_fault.Kind p e = request-is S b are (configuration.reading b) refl p e
fault-is S b are tlp_fault.Short p e = absurd (cc e)
fault-is S b are tlp_fault.Prefix p e = absurd (cc e)
fault-is S b are tlp_fault.TenBitTag p e = absurd (cc e)
fault-is S b are tlp_fault.Hints p e = absurd (cc e)
fault-is S b are tlp_fault.Digest p e = absurd (cc e)
fault-is S b are tlp_fault.Poisoned p e = absurd (cc e)
fault-is S b are tlp_fault.Translated p e = absurd (cc e)
fault-is S b are tlp_fault.LengthMismatch p e = absurd (cc e)
fault-is S b are tlp_fault.PayloadTooLong p e = absurd (cc e)
fault-is S b are tlp_fault.ByteEnables p e = absurd (cc e)
fault-is S b are tlp_fault.OperandSize p e = absurd (cc e)
fault-is S b are tlp_fault.Unaligned p e = absurd (cc e)

by-tlp : (S : Spellings) (b : List ℕ) → IsBytes b → (r : Result tlp.TlpView TlpFault) → tlp_faults.reading b ≡ r → (p : Packet) → of_tlp b r ≡ Ok p → IsPacket p
by-tlp S b are (Ok t) is p e = subst IsPacket (of-ok (packets.Tlp t) p e) (tlp-is b t are (S.of_tlps b t are is))
by-tlp S b are (Err f) is p e = fault-is S b are f p e

same-dllp : (r : Result Dllp DllpFault) (p : Packet) → of_dllp r ≡ Ok p → (d : Dllp) × (r ≡ Ok d) × (p ≡ packets.Dllp d)
same-dllp (Ok d) p e = (d, refl, sym (of-ok (packets.Dllp d) p e))
same-dllp (Err f) p e = absurd (cc e)

pub packet-is : (S : Spellings) (b : List ℕ) (p : Packet) → IsBytes b → reading b ≡ Ok p → IsPacket p
packet-is S b p are h = by (length b == 4) h
  where
    by : (four : Bool) → (if four then of_dllp (dllp_faults.reading b) else of_tlp b (tlp_faults.reading b)) ≡ Ok p → IsPacket p
    by true e = let s = same-dllp (dllp_faults.reading b) p e in subst IsPacket (sym s.2) (dllp-is b s.0 are (S.of_dllps b s.0 s.1))
    by false e = by-tlp S b are (tlp_faults.reading b) refl p e
