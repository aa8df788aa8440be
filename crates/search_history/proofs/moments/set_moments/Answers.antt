use Rattle.std.proofs.Common.{◌∙◌, ◌+◌, ◌-◌, refl, sym, ap, subst}
use Rattle.history_words.specs.Claim.{Claim}
use Rattle.log_runs.specs.declared.Step.TheVariants as steps
use Rattle.search_history.proofs.Runs.{IsTimed, timed_pass, timed_act, timed_memory, other_default}
use Rattle.search_history.proofs.moments.set_moments.Goals as goal
use Rattle.search_history.proofs.moments.set_moments.Goals.{in-Pass, in_default}

pub loop-at-preserved : goal.loop-at-preserved
loop-at-preserved c =
    let xs = c.args.steps.now in
    let rs = c.args.store.now.records in
    let i = c.loop-at.at in
    let now = c.loop-at.store.records in
    let event = c.loop-at.event in
    let after = c.match-steps-at.store in
    elim c.match-steps-at.branch [
      | in-Pass w ↦ (
        ap (λ (k : Claim). k.memory) w.store-is ∙ timed_memory c.loop-at.store w.set_moment.new.self event (i - event) w.set_moment.ensures.some w.set_moment.ensures.none ∙ c.loop-at.invariant.0,
        subst (λ n. IsTimed xs rs after.records n (i + 1)) (sym w.event-is)
            (subst (λ (k : Claim). IsTimed xs rs k.records (event + 1) (i + 1)) (sym w.store-is)
            (timed_pass xs rs now event i steps.Pass c.loop-at.invariant.1 c.loop-at-test.true (sym w.in-Pass.is) refl w.set_moment.new.self.records (λ r at. ap (λ (k : Claim). k.records) (w.set_moment.ensures.some r at)) (λ none. ap (λ (k : Claim). k.records) (w.set_moment.ensures.none none)))),
      )
      | in_default w ↦
          let x = steps.Act w.in_default.field-0 in (
            ap (λ (k : Claim). k.memory) w.store-is ∙ c.loop-at.invariant.0,
            subst (λ n. IsTimed xs rs after.records n (i + 1)) (sym w.event-is)
                (subst (λ (k : Claim). IsTimed xs rs k.records event (i + 1)) (sym w.store-is)
                (timed_act xs rs now event i x c.loop-at.invariant.1 c.loop-at-test.true (sym w.in_default.is ∙ other_default xs i steps.Pass x c.loop-at-test.true) w.in_default.field-0 refl)),
          )
    ]
