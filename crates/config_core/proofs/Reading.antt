-- What is read is what the bytes spell.
use Rattle.std.proofs.Common.{◌≡◌, ◌∙◌, ℕ, List, Option, Some, None, Ok, IfOk, IfErr, refl, sym, ap, subst}
use Rattle.config_core.specs.declared.request.CfgRequest.{CfgRequest}
use Rattle.config_core.specs.declared.fault.CfgFault.{CfgFault}
use Rattle.config_core.specs.Layout.{Spells, first_fault, read_as, reading, request_at}

spelled_by : (b : List ℕ) (o : Option CfgFault) → first_fault b ≡ o → IfOk (read_as o b) (λ r. Spells b r)
spelled_by b None e = record { faultless = e; writes = refl; type_1 = refl; requester = refl; tag = refl; bus = refl; device = refl; function = refl; register = refl; enables = refl; value = refl }
spelled_by b (Some f) e = tt

fault_by : (b : List ℕ) (o : Option CfgFault) → first_fault b ≡ o → IfErr (read_as o b) (λ f. first_fault b ≡ Some f)
fault_by b None e = tt
fault_by b (Some f) e = e

pub spelled : (b : List ℕ) → IfOk (reading b) (λ r. Spells b r)
spelled b = spelled_by b (first_fault b) refl

pub fault : (b : List ℕ) → IfErr (reading b) (λ f. first_fault b ≡ Some f)
fault b = fault_by b (first_fault b) refl

pub same : (b : List ℕ) (r : CfgRequest) → Spells b r → request_at b ≡ r
same b r s = rw (← s.value, ← s.writes, ← s.type_1, ← s.requester, ← s.tag, ← s.bus, ← s.device, ← s.function, ← s.register, ← s.enables) refl

pub only : (b : List ℕ) (r : CfgRequest) → Spells b r → reading b ≡ Ok r
only b r s = ap (λ o. read_as o b) s.faultless ∙ ap Ok (same b r s)

-- what is read is what the bytes spell
spells_by : (b : List ℕ) (o : Option CfgFault) (r : CfgRequest) → IfOk (read_as o b) (λ s. Spells b s) → read_as o b ≡ Ok r → Spells b r
spells_by b None r s e = subst (λ (x : CfgRequest). Spells b x) (cc e) s
spells_by b (Some f) r s e = absurd (cc e)

pub read_spells : (b : List ℕ) (r : CfgRequest) → reading b ≡ Ok r → Spells b r
read_spells b r e = spells_by b (first_fault b) r (spelled b) e

pub one_request : (b : List ℕ) (r s : CfgRequest) → Spells b r → Spells b s → r ≡ s
one_request b r s x y = sym (same b r x) ∙ same b s y
