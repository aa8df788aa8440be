-- The port that a packet goes to (PCI Express Base 4.0, section 2.2.4).
use Rattle.std.specs.Prelude.{ℕ, ◌/◌, Bool, ◌&&◌, ◌==◌, not, nat_le, if◌then◌else◌, Result, Ok, Err}
use Rattle.tlp_core.specs.Limits.{most_requesters}
use Rattle.tlp_core.specs.TlpView.{TlpView}
use Rattle.tlp_core.specs.Operation.{is_completion}
use Rattle.switch_core.specs.declared.route_fault.RouteFault.{RouteFault}
use Rattle.switch_core.specs.declared.route_fault.RouteFault.TheVariants.{NoPort}

-- the port of the packet's Requester ID
abbrev pub port_of : TlpView → ℕ
port_of t = t.requester / 256

-- a port from 1 to 7
abbrev pub is_requester : ℕ → Bool
is_requester port = nat_le 1 port && nat_le port most_requesters

-- requests of requesters go to the memory, at port 0, and completions of the memory to their requester
abbrev pub route : TlpView → ℕ → Result ℕ RouteFault
route t from =
    if is_completion t.kind then (if (from == 0) && is_requester (port_of t) then Ok (port_of t) else Err NoPort)
    else (if not (from == 0) then Ok 0 else Err NoPort)
