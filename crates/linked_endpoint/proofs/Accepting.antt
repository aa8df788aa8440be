-- A TLP goes to the device, in parts.
use Rattle.std.proofs.Common.{◌≡◌, ℕ, Bool, false, List, [], ◌∷◌, ◌++◌, Option, sym, ap, ap₂, ◌∙◌}
use Rattle.std.specs.Prelude.{if◌then◌else◌}
use Rattle.tlp_core.specs.TlpView.{TlpView}
use Rattle.flow_control.specs.declared.needs.Need.{Need}
use Rattle.link_crc.specs.declared.check.Check.{Check}
use Rattle.port_core.specs.declared.incoming.Received.{Received}
use Rattle.port_core.specs.declared.incoming.Received.TheVariants as arrivals
use Rattle.port_core.specs.Incoming.{tlp_in}
use Rattle.port_core.specs.Port as port
use Rattle.port_core.specs.Port.{PortView}
use Rattle.port_core.specs.declared.port.Judged.{Judged}
use Rattle.endpoint_core.specs.declared.endpoint.Handled.{Handled}
use Rattle.endpoint_core.specs.EndpointView.{EndpointView}
use Rattle.endpoint_core.specs.Steps as device
use Rattle.linked_endpoint.specs.LinkedView.{LinkedView}
use Rattle.linked_endpoint.specs.Linked.{freed, is_waiting, need_in, taken_if, taken, after_arrival, after_receive}

abbrev pub made : PortView → EndpointView → List (Option Need) → Option TlpView → LinkedView
made p e needs held = record { port = p; endpoint = e; needs = needs; held = held }

parts : (b : Bool) (l : LinkedView) (q r : PortView) (e : EndpointView) (ms ns : List (Option Need)) (need : Option Need) (tlp : List ℕ)
    → e ≡ device.taken l.endpoint tlp → ms ≡ l.needs → ns ≡ (if b then ms ++ need ∷ [] else ms) → r ≡ (if b then q else freed q need)
    → made r e ns l.held ≡ taken_if b l q need tlp
parts b l q r e ms ns need tlp is_taken is_old is_new is_freed =
    ap₂ (λ (p : PortView) (n : List (Option Need)). made p e n l.held) is_freed (is_new ∙ ap (λ (m : List (Option Need)). if b then m ++ need ∷ [] else m) is_old)
    ∙ ap (λ (x : EndpointView). made (if b then q else freed q need) x (if b then l.needs ++ need ∷ [] else l.needs) l.held) is_taken

pub accepted : (l old : LinkedView) (q r : PortView) (e : EndpointView) (ms ns : List (Option Need)) (b : Bool) (h : Handled) (need : Option Need) (packet tlp : List ℕ) (judged : Judged)
    → l ≡ old → tlp ≡ tlp_in packet → q ≡ port.noted l.port judged → h ≡ device.handled l.endpoint tlp → b ≡ is_waiting h
    → e ≡ device.taken l.endpoint tlp → ms ≡ l.needs → ns ≡ (if b then ms ++ need ∷ [] else ms) → r ≡ (if b then q else freed q need)
    → made r e ns l.held ≡ taken old (port.noted old.port judged) need (tlp_in packet)
accepted l old q r e ms ns b h need packet tlp judged is_view is_tlp is_received is_handled is_waits is_taken is_old is_new is_freed =
    parts b l q r e ms ns need tlp is_taken is_old is_new is_freed
    ∙ ap (λ (w : Bool). taken_if w l q need tlp) (is_waits ∙ ap is_waiting is_handled)
    ∙ ap₂ (λ (p : PortView) (bytes : List ℕ). taken l p need bytes) is_received is_tlp
    ∙ ap (λ (x : LinkedView). taken x (port.noted x.port judged) need (tlp_in packet)) is_view

pub answered : (l old : LinkedView) (h : Handled) (packet tlp : List ℕ) → l ≡ old → tlp ≡ tlp_in packet → h ≡ device.handled l.endpoint tlp → h ≡ device.handled old.endpoint (tlp_in packet)
answered l old h packet tlp is_view is_tlp is_handled =
    is_handled ∙ ap₂ (λ (x : LinkedView) (bytes : List ℕ). device.handled x.endpoint bytes) is_view is_tlp

-- a packet that is accepted within its credits
pub takes : (l : LinkedView) (packet : List ℕ) (check : Check) (r : Received) (q : PortView) (need : Option Need) (new : LinkedView) → r ≡ port.received l.port packet check → q ≡ port.after_receive l.port packet check
    → r ≡ arrivals.Accepted need false → new ≡ taken l q (need_in r) (tlp_in packet) → new ≡ after_receive l packet check
takes l packet check r q need new is_received is_noted is_accepted is_taken =
    is_taken ∙ ap (λ (x : Received). taken l q (need_in x) (tlp_in packet)) is_accepted
    ∙ ap (λ (p : PortView). taken l p need (tlp_in packet)) is_noted
    ∙ sym (ap (λ (x : Received). after_arrival x l (port.after_receive l.port packet check) (tlp_in packet)) (sym is_received ∙ is_accepted))
