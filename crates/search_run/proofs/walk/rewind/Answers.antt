use Rattle.std.proofs.Common.{◌≡◌, List, [], ◌∙◌, sym, subst}
use Rattle.std.proofs.lemmas.List.{append-nil}
use Rattle.log_runs.specs.Runs.{State}
use Rattle.search_places.specs.declared.steps.Done.{Done}
use Rattle.search_run.specs.StackView.{FrameView}
use Rattle.search_places.specs.Undo.{LeadsBy}
use Rattle.search_run.specs.Frames.{PathFrom, Back}
use Rattle.search_run.proofs.FrameLemmas.{came, rewound, led_back}
use Rattle.search_run.proofs.walk.rewind.Goals as goal

pub take_back-requires-clause-came : goal.take_back-requires-clause-came
take_back-requires-clause-came c =
    let log = c.args.log.now in
    let walk = c.loop-done.walk in
    came log walk.stack.frames c.pop.new.self.done c.in-Some.done walk.here.state
    (subst (λ (ds : List Done). PathFrom log walk.stack.frames (Back log ds walk.here.state)) c.in-Some.ensures.done c.loop-done.invariant.back.path)

pub loop-done-preserved : goal.loop-done-preserved
loop-done-preserved c =
    let log = c.args.log.now in
    let walk = c.loop-done.walk in
    let stack = c.pop.new.self in
    let path =
    rewound log walk.stack.frames stack.done c.in-Some.done walk.here.state c.take_back.new.self.state
    (subst (λ (ds : List Done). PathFrom log walk.stack.frames (Back log ds walk.here.state)) c.in-Some.ensures.done c.loop-done.invariant.back.path)
    c.in_ok-take_back.ensures.state in
    record {
      back = record {
        path = subst (λ (fs : List FrameView). PathFrom log fs (Back log stack.done c.take_back.new.self.state)) (sym c.in-Some.ensures.frames) path;
        place = c.in_ok-take_back.ensures.place;
        known = c.loop-done.invariant.back.known;
      };
      same = c.in-Some.ensures.frames ∙ c.loop-done.invariant.same;
      led = λ s leads.
          led_back log s walk.here.state c.take_back.new.self.state stack.done c.in-Some.done
          (subst (λ (ds : List Done). LeadsBy log s ds walk.here.state) c.in-Some.ensures.done (c.loop-done.invariant.led s leads)) c.in_ok-take_back.ensures.state;
      work = c.loop-done.invariant.work;
    }

pub returns-clause-ready : goal.returns-clause-ready
returns-clause-ready c =
    let log = c.args.log.now in
    let walk = c.loop-done.walk in
    let path =
    subst (λ (ds : List Done). PathFrom log walk.stack.frames (Back log ds walk.here.state)) c.in_default.ensures.none c.loop-done.invariant.back.path in
    record {
      path = subst (λ (fs : List FrameView). PathFrom log fs (Back log [] walk.here.state)) (sym c.in_default.ensures.frames) path;
      none = sym (append-nil c.pop.new.self.done) ∙ sym c.in_default.ensures.done ∙ c.in_default.ensures.none;
      place = c.loop-done.invariant.back.place;
      known = c.loop-done.invariant.back.known;
    }

pub returns-clause-state : goal.returns-clause-state
returns-clause-state c = λ s leads.
    let there : LeadsBy c.args.log.now s [] c.loop-done.walk.here.state =
    subst (λ (ds : List Done). LeadsBy c.args.log.now s ds c.loop-done.walk.here.state) c.in_default.ensures.none (c.loop-done.invariant.led s leads) in
    there
