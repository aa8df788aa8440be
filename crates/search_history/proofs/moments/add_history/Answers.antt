use Rattle.std.proofs.Common.{take}
use Rattle.log_runs.specs.Histories.{history_of}
use Rattle.search_history.proofs.Runs.{seen_same, seen_replied, run_alike, run_explains, run_clocked}
use Rattle.search_history.proofs.moments.add_history.Goals as goal
use Rattle.trace_store.specs.Changes.{seen_by}

pub returns-in_err-act_all-clause-alike : goal.returns-in_err-act_all-clause-alike
returns-in_err-act_all-clause-alike c = seen_same (seen_by c.args.store.now) (seen_by c.act_all.new.store) c.act_all.ensures.seen

pub returns-in_err-complete-clause-alike : goal.returns-in_err-complete-clause-alike
returns-in_err-complete-clause-alike c =
    let some = c.in_err-complete.ensures.err in
    seen_replied (seen_by c.args.store.now) (seen_by c.act_all.new.store) (seen_by c.complete.new.store) (history_of c.act_all.new.store.records (take some.0 c.args.steps.now)) c.act_all.ensures.seen some.1

pub returns-clause-alike : goal.returns-clause-alike
returns-clause-alike c =
    run_alike c.args.store.now c.act_all.new.store c.complete.new.store c.set_moments.new.store c.args.steps.now c.requires.run c.requires.empty c.act_all.ensures.seen c.in_ok-act_all.ensures.entries c.complete.ensures.memory c.in_ok-complete.ensures.ok
    c.set_moments.ensures (c.a_run_is_a_history.ensures.alike (seen_by c.args.store.now))

pub returns-clause-explained : goal.returns-clause-explained
returns-clause-explained c = (
  run_explains c.args.store.now c.act_all.new.store c.complete.new.store c.set_moments.new.store c.args.steps.now c.requires.run c.requires.empty c.act_all.ensures.seen c.in_ok-act_all.ensures.entries c.complete.ensures.memory c.in_ok-complete.ensures.ok
      c.set_moments.ensures (c.a_run_is_a_history.ensures.explains (seen_by c.args.store.now)),
  run_clocked c.args.store.now c.act_all.new.store c.complete.new.store c.set_moments.new.store c.args.steps.now c.requires.run c.requires.empty c.act_all.ensures.seen c.in_ok-act_all.ensures.entries c.complete.ensures.memory c.in_ok-complete.ensures.ok
      c.set_moments.ensures (c.a_run_is_a_history.ensures.clocked (seen_by c.args.store.now)),
)
