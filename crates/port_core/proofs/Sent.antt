-- What a port sends: before initialization, and packets.
use Rattle.std.proofs.Common.{◌≡◌, ℕ, ◌+◌, ◌%◌, ◌≤◌, Bool, true, false, List, length, Option, Some, None, inl, inr, refl, ap, subst, ◌∙◌}
use Rattle.std.specs.Prelude.{slice_get, if◌then◌else◌, ◌⊎◌}
use Rattle.dllp_core.specs.declared.packet.Class.{Class}
use Rattle.link_replay.specs.CargoView.{CargoView}
use Rattle.link_replay.specs.SenderView.{SenderView, fresh, sent_from}
use Rattle.link_replay.specs.Runs as sent
use Rattle.port_core.specs.declared.init.LinkState.{LinkState}
use Rattle.port_core.specs.declared.init.LinkState.TheVariants.{Inactive, Init1, Init2, Active}
use Rattle.port_core.specs.declared.dllp.InitStage.TheVariants.{First}
use Rattle.port_core.specs.declared.dllp.LinkDllp.TheVariants.{Init}
use Rattle.port_core.specs.declared.port.Outgoing.TheVariants as sends
use Rattle.port_core.specs.declared.port.Choice.{Choice}
use Rattle.port_core.specs.declared.port.Choice.TheVariants as choices
use Rattle.port_core.specs.Init.{first_of}
use Rattle.port_core.specs.Dues.{first_flag}
use Rattle.port_core.specs.Outgoing.{number_sent, bytes_sent}
use Rattle.port_core.specs.Port.{PortView, outgoing_number, outgoing_by, bytes_by, or_else, choice_in}
use Rattle.port_core.specs.Runs.{IsEntered}
use Rattle.port_core.proofs.Longer.{Sends}

-- what a sender sends is one of the last packets that it took: a law of the sender's crate
abbrev pub IsLast : Type 0
IsLast =
    (calls : List sent.Call) → sent.AreCalls calls → (number : ℕ) (cargo : CargoView) → sent_from (sent.after_calls fresh calls) ≡ Some (number, cargo)
    → (i : ℕ) × (slice_get (sent.accepted_in fresh calls) i ≡ Some cargo) × (number ≡ i % 4096) × (length (sent.accepted_in fresh calls) ≤ i + 2047)

found : (o : Option (ℕ × CargoView)) (n : ℕ) → outgoing_number (number_sent o) ≡ sends.Packet n → (cargo : CargoView) × (o ≡ Some (n, cargo))
found None n e = cc
found (Some packet) n e =
    let same : packet.0 ≡ n = cc in
    (packet.1, ap (λ (m : ℕ). Some (m, packet.1)) same)

sent-entered : IsLast → (s : SenderView) (entered : List CargoView) (n : ℕ) → Sends s entered → outgoing_number (number_sent (sent_from s)) ≡ sends.Packet n
    → IsEntered entered n (bytes_sent (sent_from s))
sent-entered last s entered n k e =
    let packet = found (sent_from s) n e in
    let place = last k.calls k.are n packet.0 (ap sent_from k.leads ∙ packet.1) in
    record {
      place = place.0;
      cargo = packet.0;
      is_there = subst (λ (xs : List CargoView). slice_get xs place.0 ≡ Some packet.0) k.taken place.1;
      number_is = place.2;
      is_late = subst (λ (xs : List CargoView). length xs ≤ place.0 + 2047) k.taken place.3;
      bytes_are = ap bytes_sent packet.1;
    }

pub chosen-entered : IsLast → (choice : Choice) (p : PortView) (entered : List CargoView) (n : ℕ) → Sends p.sender.sending entered → outgoing_by p choice ≡ sends.Packet n
    → IsEntered entered n (bytes_by p choice)
chosen-entered last choices.Nothing p entered n k e = cc
chosen-entered last choices.Answer p entered n k e = cc
chosen-entered last (choices.Init class) p entered n k e = cc
chosen-entered last (choices.Update class) p entered n k e = cc
chosen-entered last choices.Packet p entered n k e = sent-entered last p.sender.sending entered n k e

-- ---- before initialization

no-packet : (o : Option Class) (p : PortView) (n : ℕ) → outgoing_by p (or_else choices.Init o choices.Nothing) ≡ sends.Packet n → ⊥
no-packet (Some class) p n e = cc
no-packet None p n e = cc

no-packet-or : (b : Bool) (o : Option Class) (p : PortView) (n : ℕ) → outgoing_by p (if b then choices.Answer else or_else choices.Init o choices.Nothing) ≡ sends.Packet n → ⊥
no-packet-or true o p n e = cc
no-packet-or false o p n e = no-packet o p n e

pub sends-when-active : (state : LinkState) (p : PortView) (n : ℕ) → outgoing_by p (choice_in state p) ≡ sends.Packet n → state ≡ Active
sends-when-active Inactive p n e = cc
sends-when-active Init1 p n e = absurd (no-packet (first_flag p.due.init) p n e)
sends-when-active Init2 p n e = absurd (no-packet-or _ (first_flag p.due.init) p n e)
sends-when-active Active p n e = refl

pub nothing-inactive : (state : LinkState) (p : PortView) → state ≡ Inactive → outgoing_by p (choice_in state p) ≡ sends.Nothing
nothing-inactive Inactive p e = refl
nothing-inactive Init1 p e = cc
nothing-inactive Init2 p e = cc
nothing-inactive Active p e = cc

only-init : (o : Option Class) (p : PortView) → p.state ≡ Init1
    → (outgoing_by p (or_else choices.Init o choices.Nothing) ≡ sends.Nothing) ⊎ ((class : Class) × (outgoing_by p (or_else choices.Init o choices.Nothing) ≡ sends.Dllp (Init First class (first_of p.ours class))))
only-init (Some class) p e = inr (class, rw e refl)
only-init None p e = inl refl

pub initfc1-alone : (state : LinkState) (p : PortView) → p.state ≡ Init1 → state ≡ Init1
    → (outgoing_by p (choice_in state p) ≡ sends.Nothing) ⊎ ((class : Class) × (outgoing_by p (choice_in state p) ≡ sends.Dllp (Init First class (first_of p.ours class))))
initfc1-alone Inactive p h e = cc
initfc1-alone Init1 p h e = only-init (first_flag p.due.init) p h
initfc1-alone Init2 p h e = cc
initfc1-alone Active p h e = cc
