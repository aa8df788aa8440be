use Rattle.std.proofs.Common.{◌≡◌, ◌∙◌, ℕ, Option, List, [], ◌∷◌, ◌++◌, length, ap, sym, subst}
use Rattle.std.specs.Prelude.{IfSome}
use Rattle.std.proofs.lemmas.List.Elements.{All-cons, All-nil}
use Rattle.log_runs.specs.Runs.{State, Dead, next}
use Rattle.search_run.specs.StackView.{FrameView}
use Rattle.search_run.specs.Frames.{PathFrom, LeadsNowhere}
use Rattle.search_run.proofs.FrameLemmas.{noted, turned, not_nil, as_many}
use Rattle.search_run.proofs.walk.try_step.Goals as goal

pub go_on-requires-clause-step : goal.go_on-requires-clause-step
go_on-requires-clause-step c =
    let log = c.args.log.now in
    let walk = c.args.walk.now in
    let t = walk.here.state in
    let x = c.args.step in
    let notes = c.in_ok-note.ensures in
    let ready = c.requires.at.ready in
    let path = subst (λ (fs : List FrameView). PathFrom log fs (λ (m : State) (P : Type 0). (m ≡ t) × P)) notes.old ready.path in
    record {
      allowed = c.requires.allowed;
      path = subst (λ (fs : List FrameView). PathFrom log fs (λ (m : State) (P : Type 0). (m ≡ t) × (Dead log (next log t x) → P))) (sym notes.new)
          (noted log notes.before notes.frame t path x);
      none = notes.done ∙ ready.none;
      place = ready.place;
      known = ready.known;
    }

pub rewind-requires : goal.rewind-requires
rewind-requires c =
    let log = c.args.log.now in
    let walk = c.go_on.new.walk in
    let at = c.in_ok-go_on.ensures.at in
    let dead : Dead log walk.here.state = subst (λ (o : Option ℕ). IfSome o (λ at. Dead log walk.here.state)) c.in-Some.is c.lost_at.ensures in
    record {
      path = turned log walk.stack.frames walk.stack.done walk.here.state at.path dead;
      place = at.place;
      known = at.known;
    }

pub returns-clause-lost : goal.returns-clause-lost
returns-clause-lost c = λ so.
    let log = c.args.log.now in
    let s = c.args.walk.now.here.state in
    let x = c.args.step in
    let notes = c.in_ok-note.ensures in
    let u = c.go_on.new.walk.here.state in
    let dead : Dead log u = subst (λ (o : Option ℕ). IfSome o (λ at. Dead log u)) c.in-Some.is c.lost_at.ensures in
    let there : Dead log (next log s x) = subst (Dead log) (sym c.in_ok-go_on.ensures.next) dead in
    let frames = c.in_ok-rewind.ensures.frames ∙ c.in_ok-go_on.ensures.frames ∙ notes.new in
    record {
      at = record {
        ready = c.in_ok-rewind.ensures.ready;
        some = λ none. not_nil notes.before (record { done = notes.frame.done; noted = notes.frame.noted ++ x ∷ [] }) (sym frames ∙ none);
      };
      state = sym (c.in_ok-rewind.ensures.state s c.in_ok-go_on.ensures.led);
      dead = All-cons (LeadsNowhere log s) x [] (λ a. there) (All-nil (LeadsNowhere log s));
      same = ap length frames ∙ as_many notes.before (record { done = notes.frame.done; noted = notes.frame.noted ++ x ∷ [] }) notes.frame ∙ sym (ap length notes.old);
    }
