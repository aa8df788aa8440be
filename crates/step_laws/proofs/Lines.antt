-- What a line of a script submits, words spell.
use Rattle.std.proofs.Common.{◌≡◌, ℕ, List, [], ◌∷◌, Option, Some, None, refl, subst}
use Rattle.std.specs.Prelude.{IfSome, option_map, bytes_eq, codes}
use Rattle.tlp_core.specs.Ops.{Op}
use Rattle.fabric_steps.specs.Event.{Event}
use Rattle.fabric_steps.specs.declared.event.EventOf.TheVariants as events
use Rattle.operation_text.specs.Words.{then_with}
use Rattle.operation_text.specs.Operations.{address, op_spelled, IsSpelledOp}
use Rattle.script_text.specs.declared.line.Line.{Line}
use Rattle.script_text.specs.declared.line.Line.TheVariants as lines
use Rattle.script_text.specs.Forms.{octet, count, lane, fate, kind, credits_of, block_of, fabric_of, settle_of, submit_of, transmit_of, deliver_of, dllp_of, deliver_dllp_of, timer_of, retrained_of, forward_of, serve_of, collect_of, event_by, line_of}
use Rattle.step_laws.proofs.Spelled.{if_both, if_ended, if_field, Any, any}

abbrev pub IsSaid : Event → Type 0
IsSaid (events.Submit port op) = IsSpelledOp op
IsSaid (events.Transmit lane) = Unit {0}
IsSaid (events.Deliver lane fate) = Unit {0}
IsSaid (events.SendDllp lane kind) = Unit {0}
IsSaid (events.DeliverDllp lane fate) = Unit {0}
IsSaid (events.Timer lane) = Unit {0}
IsSaid (events.Retrained lane) = Unit {0}
IsSaid (events.Forward lane place) = Unit {0}
IsSaid (events.Serve place) = Unit {0}
IsSaid (events.Collect port) = Unit {0}

submit-said : (ws : List (List ℕ)) → IfSome (submit_of ws) IsSaid
submit-said ws = if_field Any IsSaid octet _ (any octet) (λ i t rest. by i rest (op_spelled rest) refl) ws
  where
    by : (i : ℕ) (rest : List (List ℕ)) (o : Option Op) → op_spelled rest ≡ o → IfSome (then_with o (λ op. Some (events.Submit i op))) IsSaid
    by i rest None e = tt
    by i rest (Some op) e = (rest, e)

event-said : (k : List ℕ) (ws : List (List ℕ)) → IfSome (event_by k ws) IsSaid
event-said k ws =
    if_both IsSaid (bytes_eq k (codes "submit")) (submit_of ws) _ (submit-said ws)
    (if_both IsSaid (bytes_eq k (codes "transmit")) (transmit_of ws) _ (if_field Any IsSaid lane _ (any lane) (λ l t. if_ended IsSaid (events.Transmit l) tt) ws)
    (if_both IsSaid (bytes_eq k (codes "deliver")) (deliver_of ws) _ (if_field Any IsSaid lane _ (any lane) (λ l t. if_field Any IsSaid fate _ (any fate) (λ f u. if_ended IsSaid (events.Deliver l f) tt)) ws)
    (if_both IsSaid (bytes_eq k (codes "dllp")) (dllp_of ws) _ (if_field Any IsSaid lane _ (any lane) (λ l t. if_field Any IsSaid kind _ (any kind) (λ d u. if_ended IsSaid (events.SendDllp l d) tt)) ws)
    (if_both IsSaid (bytes_eq k (codes "deliver-dllp")) (deliver_dllp_of ws) _ (if_field Any IsSaid lane _ (any lane) (λ l t. if_field Any IsSaid fate _ (any fate) (λ f u. if_ended IsSaid (events.DeliverDllp l f) tt)) ws)
    (if_both IsSaid (bytes_eq k (codes "timer")) (timer_of ws) _ (if_field Any IsSaid lane _ (any lane) (λ l t. if_ended IsSaid (events.Timer l) tt) ws)
    (if_both IsSaid (bytes_eq k (codes "retrained")) (retrained_of ws) _ (if_field Any IsSaid lane _ (any lane) (λ l t. if_ended IsSaid (events.Retrained l) tt) ws)
    (if_both IsSaid (bytes_eq k (codes "forward")) (forward_of ws) _ (if_field Any IsSaid lane _ (any lane) (λ l t. if_field Any IsSaid count _ (any count) (λ n u. if_ended IsSaid (events.Forward l n) tt)) ws)
    (if_both IsSaid (bytes_eq k (codes "serve")) (serve_of ws) _ (if_field Any IsSaid count _ (any count) (λ n t. if_ended IsSaid (events.Serve n) tt) ws)
    (if_both IsSaid (bytes_eq k (codes "collect")) (collect_of ws) None (if_field Any IsSaid octet _ (any octet) (λ i t. if_ended IsSaid (events.Collect i) tt) ws) tt)))))))))

abbrev IsSaidLine : Line → Type 0
IsSaidLine (lines.Event event) = IsSaid event
IsSaidLine (lines.Fabric c) = Unit {0}
IsSaidLine lines.Settle = Unit {0}

as-line : (o : Option Event) → IfSome o IsSaid → IfSome (option_map lines.Event o) IsSaidLine
as-line None h = tt
as-line (Some event) h = h

with-then : {X : Type 0} → (o : Option X) (f : X → Option Line) → ((x : X) → IfSome (f x) IsSaidLine) → IfSome (then_with o f) IsSaidLine
with-then None f h = tt
with-then (Some x) f h = h x

fabric-said : (ws : List (List ℕ)) → IfSome (fabric_of ws) IsSaidLine
fabric-said ws =
    if_field Any IsSaidLine octet _ (any octet) (λ requesters t. if_field Any IsSaidLine address _ (any address) (λ base u. if_field Any IsSaidLine count _ (any count) (λ size v rest.
    with-then (credits_of rest) _ (λ c. with-then (block_of c.1) _ (λ b. tt))))) ws

line-said : (words : List (List ℕ)) → IfSome (line_of words) IsSaidLine
line-said [] = tt
line-said (k ∷ ws) =
    if_both IsSaidLine (bytes_eq k (codes "fabric")) (fabric_of ws) _ (fabric-said ws)
    (if_both IsSaidLine (bytes_eq k (codes "settle")) (settle_of ws) _ (if_ended IsSaidLine lines.Settle tt ws) (as-line (event_by k ws) (event-said k ws)))

pub is-said : (words : List (List ℕ)) (event : Event) → line_of words ≡ Some (lines.Event event) → IsSaid event
is-said words event e = subst (λ (o : Option Line). IfSome o IsSaidLine) e (line-said words)
