-- Over every list of steps the trace so far, followed by the records of the steps, belongs to the fabric.
use Rattle.std.proofs.Common.{◌≡◌, ℕ, List, [], ◌∷◌, ◌++◌, length, refl, sym, ap, ◌∙◌, subst, append_assoc}
use Rattle.std.proofs.lemmas.List.{append-nil}
use mathlib.Core.Logic.{dite}
use native.Mathlib.Decide.{ℕ_discrete}
use Rattle.fabric_steps.specs.Lists.{Each}
use Rattle.fabric_steps.specs.Whole.{Entry, MarkedPacket, Whole, View, view, path, up_of, down_of, requester_of, entry_of, memory_of}
use Rattle.fabric_steps.specs.Sound.{Sound, IsRequestOf}
use Rattle.history_words.specs.Records.{Record}
use Rattle.history_words.specs.declared.record.RecordOf.TheVariants.{Sub, Ans}
use Rattle.history_words.specs.Trace.{submissions, Explains}
use Rattle.fabric_steps.specs.Trace.{Belongs}
use Rattle.fabric_steps.specs.Steps.{IsForward, IsServe, IsReturn, Step, submits, forwards, serves, returns, collects, links, Run, stays, goes}
use Rattle.fabric_steps.proofs.Lists.{each_remove}
use Rattle.fabric_steps.proofs.Views.{view_up, view_up_other}
use Rattle.fabric_steps.proofs.Forward.{forward_path, other_path}
use Rattle.fabric_steps.proofs.Serve.{serve_path}
use Rattle.fabric_steps.proofs.Keeps.{run_keeps}
use Rattle.fabric_steps.proofs.Legal.{legal}
use Rattle.fabric_steps.proofs.Belongs.{Silent, silent_belongs, submit_belongs, collect_belongs}

pub forward_silent : (p : Whole) (i : ℕ) (p' : Whole) → Sound p → IsForward p i p' → Silent p p'
forward_silent p i p' s e = subst (Silent p) (sym e.now) (record {
  same_extent = refl;
  new = [];
  grows = sym (append-nil p.history);
  requesters = λ j. refl;
  paths = λ j P f a. dite (ℕ_discrete j i)
      (λ is. subst (λ (v : View). Each P (path v)) (sym (view_up p (p.inward ++ e.item ∷ []) i j e.rest is e.has_up ∙ ap (λ (u : List MarkedPacket). record (view p j) { up = u; inward = p.inward ++ e.item ∷ [] }) e.taken.now))
      (forward_path j p.extent p.history p.inward p.outward (down_of p j) e.taken.before e.taken.behind (requester_of p j) e.item P
      (subst (λ (u : List MarkedPacket). Each P (path (record (view p j) { up = u }))) (ap (up_of p) is ∙ e.taken.was) a)))
      (λ ne. subst (λ (v : View). Each P (path v)) (sym (view_up_other p (p.inward ++ e.item ∷ []) i j e.rest ne))
      (other_path j (view p j) e.item (λ h. ne (sym h ∙ own)) P f a));
})
  where
    own : e.item.requester ≡ i
    own = (each_remove (IsRequestOf i) e.taken.before e.taken.behind e.item (subst (Each (IsRequestOf i)) e.taken.was (s i).own_requests)).0.0

pub serve_silent : (p p' : Whole) → IsServe p p' → Silent p p'
serve_silent p p' e = subst (Silent p) (sym e.now) (record {
  same_extent = refl;
  new = entry_of e.item ∷ [];
  grows = refl;
  requesters = λ j. refl;
  paths = λ j P f a. subst (λ (w : List MarkedPacket). Each P (path (record (view p j) { history = p.history ++ entry_of e.item ∷ []; inward = w }))) (sym e.taken.now)
      (serve_path j p.extent p.history p.outward (up_of p j) (down_of p j) e.taken.before e.taken.behind (requester_of p j) e.item P
      (subst (λ (w : List MarkedPacket). Each P (path (record (view p j) { inward = w }))) e.taken.was a));
})

pub return_silent : (p p' : Whole) → IsReturn p p' → Silent p p'
return_silent p p' e = subst (Silent p) (sym e.now) (record {
  same_extent = refl;
  new = [];
  grows = sym (append-nil p.history);
  requesters = λ j. refl;
  paths = λ j P f a. a;
})

with_none : (p : Whole) (rs ss : List Record) → ss ≡ [] → Belongs p rs → Belongs p (rs ++ ss)
with_none p rs ss none b = subst (Belongs p) (sym (ap (λ (l : List Record). rs ++ l) none ∙ append-nil rs)) b

pub step_belongs : (p p' : Whole) (rs ss : List Record) → Sound p → Belongs p rs → Step p p' ss → Belongs p' (rs ++ ss)
step_belongs p p' rs ss s b (submits i op e said) = subst (λ (l : List Record). Belongs p' (rs ++ l)) (sym said)
    (subst (λ (q : Whole). Belongs q (rs ++ Sub i (requester_of p i).next op (length p.history) ∷ [])) (sym e.now) (submit_belongs p i e.tag op e.requester rs s b e.opened e.has_up e.known))
step_belongs p p' rs ss s b (forwards i e said) = with_none p' rs ss said (silent_belongs p p' rs (forward_silent p i p' s e) b)
step_belongs p p' rs ss s b (serves e said) = with_none p' rs ss said (silent_belongs p p' rs (serve_silent p p' e) b)
step_belongs p p' rs ss s b (returns e said) = with_none p' rs ss said (silent_belongs p p' rs (return_silent p p' e) b)
step_belongs p p' rs ss s b (collects i number reply e said) = subst (λ (l : List Record). Belongs p' (rs ++ l)) (sym said)
    (subst (λ (q : Whole). Belongs q (rs ++ Ans i number reply (length p.history) ∷ [])) (sym e.now) (collect_belongs p i number reply e.rest e.item e.requester rs s b e.first e.closed e.replied e.has_down e.known))
step_belongs p p' rs ss s b (links e said) = with_none p' rs ss said (subst (λ (q : Whole). Belongs q rs) (sym e) b)

pub run_belongs : {p p' : Whole} {ss : List Record} → (rs : List Record) → Sound p → Belongs p rs → Run p p' ss → Belongs p' (rs ++ ss)
run_belongs {p} tr s b stays = with_none p tr [] refl b
run_belongs {p} tr s b (goes {q} {r} {rs} {ss} a e) = subst (Belongs r) (append_assoc tr rs ss) (step_belongs q r (tr ++ rs) ss (run_keeps s a) (run_belongs tr s b a) e)

-- the history explains the records
pub belongs_explains : (p : Whole) (rs : List Record) → Sound p → Belongs p rs → Explains (record { memory = memory_of p; records = rs })
belongs_explains p rs s b = record { numbered = b.numbered; legal = legal p (submissions rs) s b.made; linear = b.linear }

-- the history only grows

pub step_begins : (p p' : Whole) (rs : List Record) → Sound p → Step p p' rs → (new : List Entry) × (p'.history ≡ p.history ++ new)
step_begins p p' rs s (submits i op e said) = ([], ap (λ (q : Whole). q.history) e.now ∙ sym (append-nil p.history))
step_begins p p' rs s (forwards i e said) = ([], ap (λ (q : Whole). q.history) e.now ∙ sym (append-nil p.history))
step_begins p p' rs s (serves e said) = (entry_of e.item ∷ [], ap (λ (q : Whole). q.history) e.now)
step_begins p p' rs s (returns e said) = ([], ap (λ (q : Whole). q.history) e.now ∙ sym (append-nil p.history))
step_begins p p' rs s (collects i number reply e said) = ([], ap (λ (q : Whole). q.history) e.now ∙ sym (append-nil p.history))
step_begins p p' rs s (links e said) = ([], ap (λ (q : Whole). q.history) e ∙ sym (append-nil p.history))

pub run_begins : {p p' : Whole} {rs : List Record} → Sound p → Run p p' rs → (new : List Entry) × (p'.history ≡ p.history ++ new)
run_begins {p} s stays = ([], sym (append-nil p.history))
run_begins {p} s (goes {q} {r} {rs} {ss} a e) =
    let (xs, f) = run_begins s a in
    let (ys, g) = step_begins q r ss (run_keeps s a) e in
    (xs ++ ys, g ∙ (ap (λ (l : List Entry). l ++ ys) f ∙ append_assoc p.history xs ys))
