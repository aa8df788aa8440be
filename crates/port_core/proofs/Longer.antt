-- Lists of calls of a receiver and of a sender that are one call longer.
use Rattle.std.proofs.Common.{◌≡◌, ℕ, List, [], ◌∷◌, ◌++◌, map, refl, sym, ap, ap₂, ◌∙◌}
use Rattle.std.proofs.lemmas.List.{append-nil, append_assoc, map-append}
use Rattle.link_replay.specs.ReceiverView.{ReceiverView, fresh}
use Rattle.link_replay.specs.ReceiverRuns as received
use Rattle.link_replay.specs.CargoView.{CargoView}
use Rattle.link_replay.specs.SenderView.{SenderView, fresh as fresh_sender}
use Rattle.link_replay.specs.Runs as sent

-- ---- receivers

received-longer : (v : ReceiverView) (calls : List received.Call) (call : received.Call)
    → received.after_calls v (calls ++ call ∷ []) ≡ received.after_call (received.after_calls v calls) call
received-longer v [] call = refl
received-longer v (first ∷ calls) call = received-longer (received.after_call v first) calls call

handed-longer : (v : ReceiverView) (calls : List received.Call) (call : received.Call)
    → received.handed_up_in v (calls ++ call ∷ []) ≡ received.handed_up_in v calls ++ received.handed_up_by (received.after_calls v calls) call
handed-longer v [] call = append-nil (received.handed_up_by v call)
handed-longer v (first ∷ calls) call =
    ap (λ (xs : List ℕ). received.handed_up_by v first ++ xs) (handed-longer (received.after_call v first) calls call)
    ∙ sym (append_assoc (received.handed_up_by v first) (received.handed_up_in (received.after_call v first) calls) (received.handed_up_by (received.after_calls (received.after_call v first) calls) call))

-- the numbers of packets
abbrev pub numbers_of : List (ℕ × List ℕ) → List ℕ
numbers_of packets = map (λ packet. packet.0) packets

-- the receiver has handed up these packets since it was fresh
pub record Receives (v : ReceiverView) (accepted : List (ℕ × List ℕ)) : Type 0 where
  pub calls : List received.Call
  pub leads : received.after_calls fresh calls ≡ v
  pub numbers : received.handed_up_in fresh calls ≡ numbers_of accepted

pub receives-nothing : Receives fresh []
receives-nothing = record { calls = []; leads = refl; numbers = refl }

pub receives-more : (v : ReceiverView) (accepted more : List (ℕ × List ℕ)) (call : received.Call) → Receives v accepted
    → numbers_of more ≡ received.handed_up_by v call → Receives (received.after_call v call) (accepted ++ more)
receives-more v accepted more call k e =
    record {
      calls = k.calls ++ call ∷ [];
      leads = received-longer fresh k.calls call ∙ ap (λ (w : ReceiverView). received.after_call w call) k.leads;
      numbers =
          handed-longer fresh k.calls call
          ∙ ap₂ (λ (xs : List ℕ) (w : ReceiverView). xs ++ received.handed_up_by w call) k.numbers k.leads
          ∙ ap (λ (xs : List ℕ). numbers_of accepted ++ xs) (sym e)
          ∙ sym (map-append (λ (packet : ℕ × List ℕ). packet.0) accepted more);
    }

-- ---- senders

sent-longer : (s : SenderView) (calls : List sent.Call) (call : sent.Call)
    → sent.after_calls s (calls ++ call ∷ []) ≡ sent.after_call (sent.after_calls s calls) call
sent-longer s [] call = refl
sent-longer s (first ∷ calls) call = sent-longer (sent.after_call s first) calls call

taken-longer : (s : SenderView) (calls : List sent.Call) (call : sent.Call)
    → sent.accepted_in s (calls ++ call ∷ []) ≡ sent.accepted_in s calls ++ sent.accepted_by (sent.after_calls s calls) call
taken-longer s [] call = append-nil (sent.accepted_by s call)
taken-longer s (first ∷ calls) call =
    ap (λ (xs : List CargoView). sent.accepted_by s first ++ xs) (taken-longer (sent.after_call s first) calls call)
    ∙ sym (append_assoc (sent.accepted_by s first) (sent.accepted_in (sent.after_call s first) calls) (sent.accepted_by (sent.after_calls (sent.after_call s first) calls) call))

are-longer : (calls : List sent.Call) (call : sent.Call) → sent.AreCalls calls → sent.IsCall call → sent.AreCalls (calls ++ call ∷ [])
are-longer [] call k is = (is, tt)
are-longer (first ∷ calls) call k is = (k.0, are-longer calls call k.1 is)

-- the sender has taken these packets since it was fresh
pub record Sends (s : SenderView) (entered : List CargoView) : Type 0 where
  pub calls : List sent.Call
  pub are : sent.AreCalls calls
  pub leads : sent.after_calls fresh_sender calls ≡ s
  pub taken : sent.accepted_in fresh_sender calls ≡ entered

pub sends-nothing : Sends fresh_sender []
sends-nothing = record { calls = []; are = tt; leads = refl; taken = refl }

pub sends-more : (s : SenderView) (entered more : List CargoView) (call : sent.Call) → sent.IsCall call → Sends s entered
    → sent.accepted_by s call ≡ more → Sends (sent.after_call s call) (entered ++ more)
sends-more s entered more call is k e =
    record {
      calls = k.calls ++ call ∷ [];
      are = are-longer k.calls call k.are is;
      leads = sent-longer fresh_sender k.calls call ∙ ap (λ (w : SenderView). sent.after_call w call) k.leads;
      taken =
          taken-longer fresh_sender k.calls call
          ∙ ap₂ (λ (xs : List CargoView) (w : SenderView). xs ++ sent.accepted_by w call) k.taken k.leads
          ∙ ap (λ (xs : List CargoView). entered ++ xs) e;
    }

-- a call that takes nothing
pub sends-on : (s : SenderView) (entered : List CargoView) (call : sent.Call) → sent.IsCall call → Sends s entered
    → sent.accepted_by s call ≡ [] → Sends (sent.after_call s call) entered
sends-on s entered call is k e = rw (sym (append-nil entered)) (sends-more s entered [] call is k e)
