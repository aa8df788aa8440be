use Rattle.std.proofs.Common.{sym, ◌∙◌}
use Rattle.linked_endpoint.proofs.Turns.{at_first, entered_first, then_turn, then_act, done_linked, done_recorded, done_enters}
use Rattle.linked_endpoint.proofs.linked.LinkedEndpoint.settle.Goals as goal

pub returns-in_err-enter_unless_refused-clause-way : goal.returns-in_err-enter_unless_refused-clause-way
returns-in_err-enter_unless_refused-clause-way c =
    at_first c.args.self.now c.enter_unless_refused.new.self c.args.recording.now c.in_err-enter_unless_refused.ensures.err

pub loop-self-init : goal.loop-self-init
loop-self-init c = entered_first c.args.self.now c.enter_unless_refused.new.self c.args.recording.now c.in_ok-enter_unless_refused.ensures.ok

pub loop-self-preserved : goal.loop-self-preserved
loop-self-preserved c =
    then_turn c.args.self.now c.loop-self.self c.turn.new.self c.args.recording.now c.loop-self.recording c.turn.new.recording
    c.loop-self.invariant (sym c.may_act.ensures ∙ c.loop-self-test.true) c.in_ok-turn.ensures.ok c.turn.ensures.recorded

pub returns-in_err-turn-clause-way : goal.returns-in_err-turn-clause-way
returns-in_err-turn-clause-way c =
    then_act c.args.self.now c.loop-self.self c.turn.new.self c.args.recording.now c.loop-self.recording c.turn.new.recording
    c.loop-self.invariant (sym c.may_act.ensures ∙ c.loop-self-test.true) c.in_err-turn.ensures.err c.turn.ensures.recorded

pub returns-clause-linked : goal.returns-clause-linked
returns-clause-linked c =
    done_linked c.args.self.now c.loop-self.self c.args.recording.now c.loop-self.recording c.loop-self.invariant (sym c.may_act.ensures ∙ c.loop-self-test.false)

pub returns-clause-recorded : goal.returns-clause-recorded
returns-clause-recorded c =
    done_recorded c.args.self.now c.loop-self.self c.args.recording.now c.loop-self.recording c.loop-self.invariant (sym c.may_act.ensures ∙ c.loop-self-test.false)

pub returns-clause-entered : goal.returns-clause-entered
returns-clause-entered c =
    done_enters c.args.self.now c.loop-self.self c.args.recording.now c.loop-self.recording c.loop-self.invariant (sym c.may_act.ensures ∙ c.loop-self-test.false)
