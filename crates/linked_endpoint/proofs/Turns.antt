-- Requests act and completions enter, in turn, and what they record.
use Rattle.std.proofs.Common.{◌≡◌, ℕ, zero, suc, ◌<◌, ◌≤◌, Bool, true, false, cond, List, [], ◌∷◌, ◌++◌, Option, Some, None, inl, inr, refl, sym, subst, ap, ◌∙◌, append_assoc, arith}
use Rattle.std.specs.Prelude.{◌&&◌, is_some, is_none}
use Rattle.std.proofs.lemmas.List.{append-nil}
use Rattle.tlp_core.specs.TlpView.{TlpView}
use Rattle.link_crc.specs.declared.check.Check.{Check}
use Rattle.port_core.specs.declared.fault.EnterRefusal.{EnterRefusal}
use Rattle.port_core.specs.Incoming.{tlp_in}
use Rattle.port_core.specs.Port.{received}
use Rattle.endpoint_core.specs.Classes.{becomes}
use Rattle.endpoint_log.specs.LogView.{LogView}
use Rattle.endpoint_log.specs.Steps as log
use Rattle.endpoint_log.specs.declared.recording.Recording.{Recording}
use Rattle.endpoint_log.specs.declared.recording.Recording.TheVariants.{Off, On, Lost}
use Rattle.endpoint_log.specs.Recordings as recordings
use Rattle.endpoint_log.specs.Recordings.{noted, IsOrLost}
use Rattle.linked_endpoint.specs.LinkedView.{LinkedView}
use Rattle.linked_endpoint.specs.Linked.{is_taken, acted, after_act, refusal_for, refusal_of, may_act, may_enter, turns_left, entered_with, IsHeldOrEntered}
use Rattle.linked_endpoint.specs.Runs.{Call, Receive, Act, Enter, after_call, after_calls, AreTurns, entered_unless}
use Rattle.linked_endpoint.specs.Settling.{logged, logged_all, turned, turns, all_turns, settling, settled, IsOnWay}
use Rattle.linked_endpoint.proofs.Settling.{acted_less, unless_as_many, once_enters, entered_enters, held_rests}

-- ---- one turn, and more

none : (n : ℕ) (l : LinkedView) → may_act l ≡ false → turns n l ≡ []
unfolding turns
none zero l h = refl
none (suc n) l h = ap (λ (b : Bool). cond b (Act ∷ Enter ∷ turns n (turned l)) []) h

one : (n : ℕ) (l : LinkedView) → may_act l ≡ true → turns (suc n) l ≡ Act ∷ Enter ∷ turns n (turned l)
unfolding turns
one n l h = ap (λ (b : Bool). cond b (Act ∷ Enter ∷ turns n (turned l)) []) h

no-turns : (l : LinkedView) → turns zero l ≡ []
unfolding turns
no-turns l = refl

acts : (l : LinkedView) → may_act l ≡ true → after_call l Act ≡ acted l
acts l h = ap (λ (b : Bool). cond b (acted l) l) h

-- each turn leaves fewer
turned_less : (l : LinkedView) → may_act l ≡ true → turns_left (turned l) < turns_left l
turned_less l h =
    subst (λ (x : LinkedView). turns_left (after_call x Enter) < turns_left l) (sym (acts l h))
    (subst (λ (n : ℕ). n < turns_left l) (sym (unless_as_many (acted l) (refusal_of (acted l)))) (acted_less l h))

pub fewer : (old new : LinkedView) → may_act old ≡ true → new ≡ turned old → turns_left new < turns_left old
fewer old new may e = subst (λ (l : LinkedView). turns_left l < turns_left old) (sym e) (turned_less old may)

-- as many as are left are enough
enough : (b : Bool) (n m : ℕ) (l : LinkedView) → may_act l ≡ b → turns_left l ≤ n → turns_left l ≤ m → turns n l ≡ turns m l
enough false n m l h le me = none n l h ∙ sym (none m l h)
enough true zero m l h le me = absurd (let less = turned_less l h in omega (arith, less, le))
enough true (suc n) zero l h le me = absurd (let less = turned_less l h in omega (arith, less, me))
enough true (suc n) (suc m) l h le me =
    let less = turned_less l h in
    one n l h ∙ ap (λ (ts : List Call). Act ∷ Enter ∷ ts) (enough (may_act (turned l)) n m (turned l) refl (omega (arith, less, le)) (omega (arith, less, me))) ∙ sym (one m l h)

next : (l : LinkedView) → may_act l ≡ true → all_turns l ≡ Act ∷ Enter ∷ all_turns (turned l)
next l h =
    let less = turned_less l h in
    enough true (turns_left l) (suc (turns_left l)) l h (omega arith) (omega arith)
    ∙ one (turns_left l) l h
    ∙ ap (λ (ts : List Call). Act ∷ Enter ∷ ts) (enough (may_act (turned l)) (turns_left l) (turns_left (turned l)) (turned l) refl (omega (arith, less)) (omega arith))

-- ---- nothing that may act or enter is left

rested : (b : Bool) (n : ℕ) (l : LinkedView) → may_act l ≡ b → turns_left l ≤ n → may_act (after_calls l (turns n l)) ≡ false
rested false n l h le = ap (λ (ts : List Call). may_act (after_calls l ts)) (none n l h) ∙ h
rested true zero l h le = absurd (let less = turned_less l h in omega (arith, less, le))
rested true (suc n) l h le =
    let less = turned_less l h in
    ap (λ (ts : List Call). may_act (after_calls l ts)) (one n l h) ∙ rested (may_act (turned l)) n (turned l) refl (omega (arith, less, le))

all-enter : (b : Bool) (n : ℕ) (l : LinkedView) → may_act l ≡ b → may_enter l ≡ false → may_enter (after_calls l (turns n l)) ≡ false
all-enter false n l h e = ap (λ (ts : List Call). may_enter (after_calls l ts)) (none n l h) ∙ e
all-enter true zero l h e = ap (λ (ts : List Call). may_enter (after_calls l ts)) (no-turns l) ∙ e
all-enter true (suc n) l h e =
    ap (λ (ts : List Call). may_enter (after_calls l ts)) (one n l h)
    ∙ all-enter (may_act (turned l)) n (turned l) refl (once_enters (after_act l) (refusal_of (after_act l)) refl)

pub settled_rests : (l : LinkedView) → may_act (settled l) ≡ false
settled_rests l = rested (may_act (after_call l Enter)) (turns_left (after_call l Enter)) (after_call l Enter) refl (omega arith)

pub settled_enters : (l : LinkedView) → may_enter (settled l) ≡ false
settled_enters l = all-enter (may_act (after_call l Enter)) (turns_left (after_call l Enter)) (after_call l Enter) refl (once_enters l (refusal_of l) refl)

-- ---- lists of calls

are-turns : (b : Bool) (n : ℕ) (l : LinkedView) → may_act l ≡ b → AreTurns (turns n l)
are-turns b zero l h = subst AreTurns (sym (no-turns l)) tt
are-turns true (suc n) l h = subst AreTurns (sym (one n l h)) (tt, (tt, are-turns (may_act (turned l)) n (turned l) refl))
are-turns false (suc n) l h = subst AreTurns (sym (none (suc n) l h)) tt

pub settling_turns : (l : LinkedView) → AreTurns (settling l)
settling_turns l = (tt, are-turns (may_act (after_call l Enter)) (turns_left (after_call l Enter)) (after_call l Enter) refl)

pub longer : (l : LinkedView) (xs ys : List Call) → after_calls l (xs ++ ys) ≡ after_calls (after_calls l xs) ys
longer l [] ys = refl
longer l (x ∷ xs) ys = longer (after_call l x) xs ys

pub logs_longer : (l : LinkedView) (xs ys : List Call) (r : LogView) → logged_all (after_calls l xs) ys (logged_all l xs r) ≡ logged_all l (xs ++ ys) r
logs_longer l [] ys r = refl
logs_longer l (x ∷ xs) ys r = logs_longer (after_call l x) xs ys (logged l x r)

are-more : (xs ys : List Call) → AreTurns xs → AreTurns ys → AreTurns (xs ++ ys)
are-more [] ys h k = k
are-more (x ∷ xs) ys h k = (h.0, are-more xs ys h.1 k)

-- ---- what is recorded

-- after more calls that record this
pub more : (f g : LogView → LogView) (old mid new : Recording) → IsOrLost mid (noted f old) → IsOrLost new (noted g mid) → IsOrLost new (noted (λ l. g (f l)) old)
more f g (Off s) mid new h k = subst (λ (m : Recording). IsOrLost new (noted g m)) h k
more f g (On l) mid new (inl h) k = subst (λ (m : Recording). IsOrLost new (noted g m)) h k
more f g (On l) mid new (inr h) k = inr (subst (λ (m : Recording). IsOrLost new (noted g m)) h k)
more f g Lost mid new h k = subst (λ (m : Recording). IsOrLost new (noted g m)) h k

-- what records the same
pub like : (f g : LogView → LogView) (old new : Recording) → ((l : LogView) → f l ≡ g l) → IsOrLost new (noted f old) → IsOrLost new (noted g old)
like f g (Off s) new e h = h
like f g (On l) new e h = subst (λ (k : LogView). IsOrLost new (On k)) (e l) h
like f g Lost new e h = h

pub nothing_recorded : (r : Recording) → IsOrLost r (noted (λ l. l) r)
nothing_recorded (Off s) = refl
nothing_recorded (On l) = inl refl
nothing_recorded Lost = refl

-- a packet's TLP goes to the device, or doesn't
pub taken_logged : (l : LinkedView) (packet : List ℕ) (check : Check) (old new : Recording) → is_taken (received l.port packet check) ≡ true
    → IsOrLost new (recordings.came l.endpoint (tlp_in packet) old) → IsOrLost new (noted (logged l (Receive packet check)) old)
taken_logged l packet check old new taken told =
    like (log.came l.endpoint.device (becomes (tlp_in packet))) (logged l (Receive packet check)) old new
    (λ r. sym (ap (λ (b : Bool). cond b (log.came l.endpoint.device (becomes (tlp_in packet)) r) r) taken)) told

pub not_logged : (l : LinkedView) (packet : List ℕ) (check : Check) (old : Recording) → is_taken (received l.port packet check) ≡ false → IsOrLost old (noted (logged l (Receive packet check)) old)
not_logged l packet check old taken =
    like (λ r. r) (logged l (Receive packet check)) old old
    (λ r. sym (ap (λ (b : Bool). cond b (log.came l.endpoint.device (becomes (tlp_in packet)) r) r) taken)) (nothing_recorded old)

-- ---- on the way

-- before the first call
pub at_first : (old new : LinkedView) (r : Recording) → new ≡ old → IsOnWay old r new r
at_first old new r e =
    record { goes = record { turns = []; are = tt; leads = sym e }; recorded = nothing_recorded r; rest = settling old; part = refl }

-- as far as that, and what is left are turns
abbrev pub IsAt : LinkedView → Recording → LinkedView → Recording → Type 0
IsAt old r new r' = (way : IsOnWay old r new r') × (way.rest ≡ all_turns new)

-- the completion that was held has entered
pub entered_first : (old new : LinkedView) (r : Recording) → new ≡ after_call old Enter → IsAt old r new r
entered_first old new r e = (
  record {
    goes = record { turns = Enter ∷ []; are = (tt, tt); leads = sym e };
    recorded = nothing_recorded r;
    rest = all_turns (after_call old Enter);
    part = refl;
  },
  ap (λ (l : LinkedView). all_turns l) (sym e),
)

-- some calls more, which record this
then-calls : (old mid new : LinkedView) (r s t : Recording) (way : IsOnWay old r mid s) (ts rest : List Call) → AreTurns ts → way.rest ≡ ts ++ rest → new ≡ after_calls mid ts
    → IsOrLost t (noted (logged_all mid ts) s) → IsOnWay old r new t
then-calls old mid new r s t way ts rest are e led told =
    let goes = way.goes in
    record {
      goes = record {
        turns = goes.turns ++ ts;
        are = are-more goes.turns ts goes.are are;
        leads = longer old goes.turns ts ∙ ap (λ (l : LinkedView). after_calls l ts) goes.leads ∙ sym led;
      };
      recorded =
          like (λ l. logged_all (after_calls old goes.turns) ts (logged_all old goes.turns l)) (logged_all old (goes.turns ++ ts)) r t (logs_longer old goes.turns ts)
          (more (logged_all old goes.turns) (logged_all (after_calls old goes.turns) ts) r s t way.recorded
          (subst (λ (l : LinkedView). IsOrLost t (noted (logged_all l ts) s)) (sym goes.leads) told));
      rest = rest;
      part = append_assoc goes.turns ts rest ∙ ap (λ (xs : List Call). goes.turns ++ xs) (sym e) ∙ way.part;
    }

acts-logged : (l : LinkedView) (ts : List Call) (s t : Recording) → may_act l ≡ true → ((x : LogView) → logged_all l ts x ≡ logged l Act x) → IsOrLost t (recordings.acted l.endpoint s) → IsOrLost t (noted (logged_all l ts) s)
acts-logged l ts s t may same told =
    like (log.acted l.endpoint) (logged_all l ts) s t (λ x. sym (same x ∙ ap (λ (b : Bool). cond b (log.acted l.endpoint x) x) may)) told

-- a request acted, and its completion entered
pub then_turn : (old mid new : LinkedView) (r s t : Recording) → IsAt old r mid s → may_act mid ≡ true → new ≡ turned mid → IsOrLost t (recordings.acted mid.endpoint s) → IsAt old r new t
unfolding then-calls
then_turn old mid new r s t way may e told = (
  then-calls old mid new r s t way.0 (Act ∷ Enter ∷ []) (all_turns (turned mid)) (tt, (tt, tt)) (way.1 ∙ next mid may) e (acts-logged mid (Act ∷ Enter ∷ []) s t may (λ x. refl) told),
  ap (λ (l : LinkedView). all_turns l) (sym e),
)

-- a request acted, and its completion is held
pub then_act : (old mid new : LinkedView) (r s t : Recording) → IsAt old r mid s → may_act mid ≡ true → new ≡ after_call mid Act → IsOrLost t (recordings.acted mid.endpoint s) → IsOnWay old r new t
then_act old mid new r s t way may e told =
    then-calls old mid new r s t way.0 (Act ∷ []) (Enter ∷ all_turns (turned mid)) (tt, tt) (way.1 ∙ next mid may) e (acts-logged mid (Act ∷ []) s t may (λ x. refl) told)

-- no request may act
all-done : (old new : LinkedView) (r s : Recording) → IsAt old r new s → may_act new ≡ false → (way : IsOnWay old r new s) × (way.goes.turns ≡ settling old)
all-done old new r s here rest =
    let way = here.0 in
    (way, sym (append-nil way.goes.turns) ∙ ap (λ (xs : List Call). way.goes.turns ++ xs) (sym (here.1 ∙ none (turns_left new) new rest)) ∙ way.part)

pub done_linked : (old new : LinkedView) (r s : Recording) → IsAt old r new s → may_act new ≡ false → new ≡ settled old
done_linked old new r s here rest =
    let all = all-done old new r s here rest in
    sym all.0.goes.leads ∙ ap (λ (xs : List Call). after_calls old xs) all.1

pub done_recorded : (old new : LinkedView) (r s : Recording) → IsAt old r new s → may_act new ≡ false → IsOrLost s (noted (logged_all old (settling old)) r)
done_recorded old new r s here rest =
    let all = all-done old new r s here rest in
    subst (λ (xs : List Call). IsOrLost s (noted (logged_all old xs) r)) all.1 all.0.recorded

pub done_enters : (old new : LinkedView) (r s : Recording) → IsAt old r new s → may_act new ≡ false → may_enter new ≡ false
done_enters old new r s here rest = ap may_enter (done_linked old new r s here rest) ∙ settled_enters old

is-held : (b c : Bool) → (b && c) ≡ true → b ≡ true
is-held true c e = refl
is-held false c e = absurd (cc e)

-- a completion that may enter is held: no request may act
pub enters_rests : (l new : LinkedView) → may_enter l ≡ true → new ≡ l → may_act new ≡ false
enters_rests l new e is = ap may_act is ∙ held_rests l (is-held (is_some l.held) (is_none (refusal_of l)) e)

-- ---- the completion of a request that acted, which was held or has entered, enters

once : (l : LinkedView) (h : Option TlpView) → l.held ≡ h → after_call (entered_with l h) Enter ≡ entered_with l h
once l None e = ap (λ (o : Option TlpView). entered_unless (refusal_for l.port o) l) e ∙ ap (entered_with l) e
once l (Some t) e = refl

-- the second time nothing is held
pub entered_at_last : (l between new : LinkedView) → may_act l ≡ true → IsHeldOrEntered (acted l) between → new ≡ after_call between Enter → new ≡ turned l
entered_at_last l between new may (inl e) f = f ∙ ap (λ (x : LinkedView). after_call x Enter) (e ∙ sym (acts l may))
entered_at_last l between new may (inr h) f =
    f ∙ ap (λ (x : LinkedView). after_call x Enter) h.1 ∙ once (acted l) (acted l).held refl
    ∙ sym (ap (λ (o : Option EnterRefusal). entered_unless o (acted l)) h.0)
    ∙ ap (λ (x : LinkedView). after_call x Enter) (sym (acts l may))

-- it may enter, so it is held
pub still_held : (l between new : LinkedView) → may_act l ≡ true → IsHeldOrEntered (acted l) between → may_enter between ≡ true → new ≡ between → new ≡ after_call l Act
still_held l between new may (inl e) enters f = f ∙ e ∙ sym (acts l may)
still_held l between new may (inr h) enters f = absurd (let wrong : true ≡ false = sym enters ∙ ap may_enter h.1 ∙ entered_enters (acted l) in cc wrong)
