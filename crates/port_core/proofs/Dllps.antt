-- What a DLLP of any bytes leaves of a port.
use Rattle.std.proofs.Common.{◌≡◌, ℕ, ◌<◌, Bool, true, false, List, length, Option, Some, None, Result, Ok, Err, refl, sym, subst, arith}
use Rattle.std.specs.Prelude.{◌||◌, ◌==◌, not, slice_index, if◌then◌else◌}
use Rattle.dllp_core.specs.declared.packet.Class.{Class}
use Rattle.dllp_core.specs.declared.packet.Dllp.{Dllp}
use Rattle.dllp_core.specs.declared.packet.Dllp.TheVariants.{Ack, Nak, Update}
use Rattle.dllp_core.specs.declared.fault.DllpFault.{DllpFault}
use Rattle.dllp_core.specs.Layout.{Spells, low_twelve}
use Rattle.dllp_core.specs.Faults.{reading}
use Rattle.link_replay.specs.CargoView.{CargoView}
use Rattle.link_replay.specs.Runs as sent
use Rattle.link_crc.specs.declared.check.Check.{Check}
use Rattle.link_crc.specs.Checks.{passed}
use Rattle.port_core.specs.declared.init.LinkState.{LinkState}
use Rattle.port_core.specs.declared.init.LinkState.TheVariants.{Inactive, Init1, Init2, Active}
use Rattle.port_core.specs.declared.init.Advertised.{Advertised}
use Rattle.port_core.specs.declared.init.FirstCredits.{FirstCredits}
use Rattle.port_core.specs.declared.dllp.InitStage.{InitStage}
use Rattle.port_core.specs.declared.dllp.InitStage.TheVariants.{First, Second}
use Rattle.port_core.specs.declared.dllp.LinkDllp.{LinkDllp}
use Rattle.port_core.specs.declared.dllp.LinkDllp.TheVariants.{Init, Other}
use Rattle.port_core.specs.Init.{fi1, is_allowed, is_up, activated, advertised_with}
use Rattle.port_core.specs.Dllps.{init_kind_of, credits_in, with_kind, other_read, read_by, link_reading}
use Rattle.port_core.specs.Outgoing.{may_learn}
use Rattle.port_core.specs.Port.{PortView, is_given, recorded_as, after_init_in, after_up, after_other, after_read, is_inactive, after_dllp_received}
use Rattle.port_core.specs.Runs.{AreBytes}
use Rattle.port_core.proofs.Longer.{Sends, sends-on}

abbrev pub is_active : LinkState → Bool
is_active Inactive = false
is_active Init1 = false
is_active Init2 = false
is_active Active = true

-- the credits and what was accepted stay, the state only rises, and nothing enters
pub record Keeps (p q : PortView) : Type 0 where
  pub ours : q.ours ≡ p.ours
  pub incoming : q.incoming ≡ p.incoming
  pub up : is_up q.state ≡ false → is_up p.state ≡ false
  pub active : is_active q.state ≡ false → is_active p.state ≡ false
  pub sends : (entered : List CargoView) → Sends p.sender.sending entered → Sends q.sender.sending entered

pub keeps-self : (p : PortView) → Keeps p p
keeps-self p = record { ours = refl; incoming = refl; up = λ e. e; active = λ e. e; sends = λ entered k. k }

keeps-if : (b : Bool) (p q r : PortView) → Keeps p q → Keeps p r → Keeps p (if b then q else r)
keeps-if true p q r k l = k
keeps-if false p q r k l = l

-- ---- InitFCs

in-init1 : (p : PortView) → p.state ≡ Init1 → (is_up p.state ≡ false) × (is_active p.state ≡ false)
in-init1 p e = (rw e refl, rw e refl)

keeps-recorded : (p : PortView) (peer : Advertised) → p.state ≡ Init1 → Keeps p (recorded_as p peer)
keeps-recorded p peer e =
    keeps-if (fi1 peer) p _ _
    (record { ours = refl; incoming = refl; up = λ h. (in-init1 p e).0; active = λ h. (in-init1 p e).1; sends = λ entered k. k })
    (record { ours = refl; incoming = refl; up = λ h. (in-init1 p e).0; active = λ h. (in-init1 p e).1; sends = λ entered k. k })

keeps-init : (state : LinkState) (p : PortView) (stage : InitStage) (class : Class) (first : FirstCredits) → p.state ≡ state → Keeps p (after_init_in state p stage class first)
keeps-init Inactive p stage class first e = keeps-self p
keeps-init Init1 p stage class first e =
    keeps-if (is_allowed first) p _ p (keeps-recorded p (advertised_with p.peer class first) e) (keeps-self p)
keeps-init Init2 p First class first e = keeps-self p
keeps-init Init2 p Second class first e =
    record { ours = refl; incoming = refl; up = λ h. cc; active = λ h. cc; sends = λ entered k. k }
keeps-init Active p stage class first e = keeps-self p

-- ---- Acks, Naks and UpdateFCs

up-activated : (state : LinkState) → is_up (activated state) ≡ false → is_up state ≡ false
up-activated Inactive h = refl
up-activated Init1 h = refl
up-activated Init2 h = cc
up-activated Active h = cc

active-activated : (state : LinkState) → is_active (activated state) ≡ false → is_active state ≡ false
active-activated Inactive h = refl
active-activated Init1 h = refl
active-activated Init2 h = refl
active-activated Active h = cc

-- an Ack or Nak has a number of 12 bits
abbrev pub HasNumber : Dllp → Type 0
HasNumber (Ack n) = n < 4096
HasNumber (Nak n) = n < 4096
HasNumber (Update class header units) = Unit {0}

keeps-up : (p : PortView) (d : Dllp) → HasNumber d → Keeps p (after_up p d)
keeps-up p (Ack n) lt =
    keeps-if (is_given p n) p _ p
    (record { ours = refl; incoming = refl; up = λ e. e; active = λ e. e; sends = λ entered k. sends-on p.sender.sending entered (sent.Ack n) lt k refl })
    (keeps-self p)
keeps-up p (Nak n) lt =
    keeps-if (is_given p n) p _ p
    (record { ours = refl; incoming = refl; up = λ e. e; active = λ e. e; sends = λ entered k. sends-on p.sender.sending entered (sent.Nak n) lt k refl })
    (keeps-self p)
keeps-up p (Update class header units) lt =
    keeps-if (may_learn p.sender.gate class header units) p _ p
    (record { ours = refl; incoming = refl; up = up-activated p.state; active = active-activated p.state; sends = λ entered k. k })
    (keeps-self p)

keeps-other : (p : PortView) (d : Dllp) → HasNumber d → Keeps p (after_other p d)
keeps-other p d lt = keeps-if (is_up p.state) p _ p (keeps-up p d lt) (keeps-self p)

-- ---- any bytes

keeps-read : (p : PortView) (d : Result LinkDllp DllpFault) → ((other : Dllp) → d ≡ Ok (Other other) → HasNumber other) → Keeps p (after_read p d)
keeps-read p (Ok (Init stage class first)) h = keeps-init p.state p stage class first refl
keeps-read p (Ok (Other d)) h = keeps-other p d (h d refl)
keeps-read p (Err fault) h = keeps-self p

no-init : (stage : InitStage) (class : Class) (first : Result FirstCredits DllpFault) (d : Dllp) → with_kind stage class first ≡ Ok (Other d) → ⊥
no-init stage class (Ok first) d e = cc
no-init stage class (Err fault) d e = cc

read-other : (r : Result Dllp DllpFault) (d : Dllp) → other_read r ≡ Ok (Other d) → r ≡ Ok d
read-other (Ok x) d e = cc
read-other (Err fault) d e = cc

by-kind : (kind : Option (InitStage × Class)) (bytes : List ℕ) (d : Dllp) → read_by kind bytes ≡ Ok (Other d) → reading bytes ≡ Ok d
by-kind (Some kind) bytes d e = absurd (no-init kind.0 kind.1 (credits_in bytes) d e)
by-kind None bytes d e = read-other (reading bytes) d e

by-length : (b : Bool) (r : Result LinkDllp DllpFault) (fault : DllpFault) (d : Dllp) → (if b then r else Err fault) ≡ Ok (Other d) → r ≡ Ok (Other d)
by-length true r fault d e = e
by-length false r fault d e = cc

pub is-read : (bytes : List ℕ) (d : Dllp) → link_reading bytes ≡ Ok (Other d) → reading bytes ≡ Ok d
is-read bytes d e = by-kind (init_kind_of (slice_index bytes 0)) bytes d (by-length (length bytes == 4) (read_by (init_kind_of (slice_index bytes 0)) bytes) _ d e)

twelve : (bytes : List ℕ) → AreBytes bytes → low_twelve bytes < 4096
twelve bytes h = omega (arith, h 3)

has-number : (bytes : List ℕ) (d : Dllp) → AreBytes bytes → Spells bytes d → HasNumber d
has-number bytes (Ack n) h s = subst (λ (m : ℕ). m < 4096) (sym s.has_number) (twelve bytes h)
has-number bytes (Nak n) h s = subst (λ (m : ℕ). m < 4096) (sym s.has_number) (twelve bytes h)
has-number bytes (Update class header units) h s = tt

-- what is read is spelled: a law of the DLLPs' crate
abbrev pub IsSpelled : Type 0
IsSpelled = (bytes : List ℕ) (d : Dllp) → reading bytes ≡ Ok d → Spells bytes d

pub keeps-dllp : IsSpelled → (p : PortView) (bytes : List ℕ) (check : Check) → AreBytes bytes → Keeps p (after_dllp_received p bytes check)
keeps-dllp spelled p bytes check h =
    keeps-if (not (passed check) || is_inactive p.state) p p _ (keeps-self p)
    (keeps-read p (link_reading bytes) (λ d e. has-number bytes d h (spelled bytes d (is-read bytes d e))))
