-- Requests act and completions enter, in turn, and what they record.
use Rattle.std.proofs.Common.{◌≡◌, false, true, List, [], ◌∷◌, ◌++◌, Result, Ok, Err, OnOk, OnErr, inl, inr, sym, ap, subst, ◌∙◌}
use Rattle.std.specs.Prelude.{◌⊎◌}
use Rattle.endpoint_log.specs.LogView.{LogView}
use Rattle.endpoint_log.specs.declared.recording.Recording.{Recording}
use Rattle.endpoint_log.specs.Recordings.{noted, IsOrLost}
use Rattle.linked_endpoint.specs.LinkedView.{LinkedView}
use Rattle.linked_endpoint.specs.Linked.{may_act, may_enter}
use Rattle.linked_endpoint.specs.Runs.{Call, after_call, after_calls}
use Rattle.linked_endpoint.specs.Settling.{logged, logged_all, settled, IsOnWay}
use Rattle.linked_endpoint.proofs.Turns.{longer, logs_longer, more, like, nothing_recorded}
use Rattle.c_linked.specs.SessionView.{SessionView, Leads, IsTurned, IsDone, GoesFar}

then_leads : (a b c : SessionView) (xs ys : List Call) → Leads a xs b → Leads b ys c → Leads a (xs ++ ys) c
then_leads a b c xs ys h k =
    record {
      linked = longer a.linked xs ys ∙ ap (λ (l : LinkedView). after_calls l ys) h.linked ∙ k.linked;
      recording =
          like (λ l. logged_all (after_calls a.linked xs) ys (logged_all a.linked xs l)) (logged_all a.linked (xs ++ ys)) a.recording c.recording (logs_longer a.linked xs ys)
          (more (logged_all a.linked xs) (logged_all (after_calls a.linked xs) ys) a.recording b.recording c.recording h.recording
          (subst (λ (l : LinkedView). IsOrLost c.recording (noted (logged_all l ys) b.recording)) (sym h.linked) k.recording));
    }

-- these calls, and then it settles
pub then_done : (a b c : SessionView) (xs : List Call) → Leads a xs b → IsDone b [] c → IsDone a xs c
then_done a b c xs h k =
    record {
      turned = record { turns = k.turned.turns; are = k.turned.are; leads = then_leads a b c xs k.turned.turns h k.turned.leads };
      rest = k.rest;
      far = subst (λ (l : LinkedView). GoesFar l c.linked) (sym h.linked) k.far;
    }

goes-far : {A B : Type 0} (o : Result A B) (old new : LinkedView) → OnOk o (new ≡ settled old) → OnErr o (may_enter new ≡ true) → GoesFar old new
goes-far (Ok x) old new is held = inl is
goes-far (Err x) old new is held = inr held

pub settles : {A B : Type 0} (o : Result A B) (old new : SessionView) → IsOnWay old.linked old.recording new.linked new.recording → may_act new.linked ≡ false
    → OnOk o (new.linked ≡ settled old.linked) → OnErr o (may_enter new.linked ≡ true) → IsDone old [] new
settles o old new way rest is held =
    record {
      turned = record { turns = way.goes.turns; are = way.goes.are; leads = record { linked = way.goes.leads; recording = way.recorded } };
      rest = rest;
      far = goes-far o old.linked new.linked is held;
    }

-- a call that records nothing
pub plain_call : (old new : SessionView) (call : Call) → new.linked ≡ after_call old.linked call → new.recording ≡ old.recording → ((l : LogView) → logged old.linked call l ≡ l) → Leads old (call ∷ []) new
plain_call old new call e f g =
    record {
      linked = sym e;
      recording =
          like (λ l. l) (logged old.linked call) old.recording new.recording (λ l. sym (g l))
          (subst (λ (r : Recording). IsOrLost r (noted (λ l. l) old.recording)) (sym f) (nothing_recorded old.recording));
    }
