-- What is recorded of a device, call by call.
use Rattle.std.proofs.Common.{◌≡◌, ◌∙◌, List, [], ◌∷◌, ◌++◌, refl, sym, ap, ap₂, subst, true}
use Rattle.std.proofs.lemmas.List.Sums.{fold-append}
use Rattle.config_core.specs.SetupView.{SetupView, is_size}
use Rattle.endpoint_core.specs.EndpointView.{EndpointView}
use Rattle.endpoint_core.specs.Steps.{new_endpoint}
use Rattle.endpoint_core.specs.Runs.{Call, Take, Act, Reset, after_call, after_calls}
use Rattle.endpoint_log.specs.LogView.{LogView}
use Rattle.endpoint_log.specs.Steps.{new_log}
use Rattle.endpoint_laws.specs.Runs.{logged, log_after, AreBytes}
use Rattle.endpoint_engine.specs.Recorded.{IsRecorded}

bytes_more : (cs : List Call) (c : Call) → AreBytes cs → AreBytes (c ∷ []) → AreBytes (cs ++ c ∷ [])
bytes_more [] c p q = q
bytes_more (Take b ∷ cs) c p q = (p.0, bytes_more cs c p.1 q)
bytes_more (Act ∷ cs) c p q = bytes_more cs c p q
bytes_more (Reset ∷ cs) c p q = bytes_more cs c p q

log_more : (e : EndpointView) (l : LogView) (cs : List Call) (c : Call) → log_after e l (cs ++ c ∷ []) ≡ logged (after_calls e cs) (log_after e l cs) c
unfolding log_after
log_more e l [] c = refl
log_more e l (d ∷ cs) c = log_more (after_call e d) (logged e l d) cs c

pub first : (s : SetupView) → IsRecorded s (new_endpoint s) (new_log s)
first s = record { calls = []; bytes = tt; endpoint = refl; log = unfold log_after in refl }

pub next : (s : SetupView) (e : EndpointView) (l : LogView) (c : Call) → IsRecorded s e l → AreBytes (c ∷ []) → IsRecorded s (after_call e c) (logged e l c)
next s e l c i bytes = record {
  calls = i.calls ++ c ∷ [];
  bytes = bytes_more i.calls c i.bytes bytes;
  endpoint = ap (λ (x : EndpointView). after_call x c) i.endpoint ∙ sym (fold-append after_call (new_endpoint s) i.calls (c ∷ []));
  log = ap₂ (λ (x : EndpointView) (y : LogView). logged x y c) i.endpoint i.log ∙ sym (log_more (new_endpoint s) (new_log s) i.calls c);
}

-- what holds of each log over calls holds of what is recorded
pub by_law : (P : LogView → Type 0) → ((s : SetupView) (cs : List Call) → is_size s.size ≡ true → AreBytes cs → P (log_after (new_endpoint s) (new_log s) cs))
    → (s : SetupView) (e : EndpointView) (l : LogView) → is_size s.size ≡ true → IsRecorded s e l → P l
by_law P law s e l h i = subst P (sym i.log) (law s i.calls h i.bytes)
