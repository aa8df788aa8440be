use Rattle.std.proofs.Common.{◌≡◌, ◌∙◌, ◌%◌, ◌*◌, ◌^◌, List, [], sym, ap, subst}
use Rattle.tlp_core.specs.Ops.{Op}
use Rattle.tlp_core.specs.declared.operation.OpOf.TheVariants as ops
use Rattle.tlp_core.specs.Operation.{size_of}
use Rattle.history_words.specs.Trace.{submissions}
use Rattle.fabric_steps.specs.Fabric.{whole_of}
use Rattle.fabric_steps.specs.Lists.{Each}
use Rattle.fabric_steps.specs.Trace.{submitted_by}
use Rattle.fabric_core.proofs.Counted.{runs_sound, all_one, none_more}
use Rattle.fabric_core.proofs.Runs.{Each as EachEvent, run_of}
use Rattle.fabric_core.proofs.laws.a_run_of_additions_counts_its_submissions.Goals as goal

pub returns : goal.returns
returns c = λ f f' events rs a w s fresh ran quiet served all.
    let each : EachEvent = record { step = c.each_event_keeps_it_sound.ensures.step; sound = c.each_event_keeps_it_sound.ensures.sound } in
    let sound = runs_sound each f f' events rs s ran in
    let belongs = c.the_trace_belongs.ensures.run (whole_of f) (whole_of f') [] rs s.sound fresh (run_of each f f' events rs s ran) in
    c.a_quiet_counter_is_the_number_of_submissions.ensures f' a w sound quiet served
    (λ i made is. subst (λ (xs : List Op). Each (λ x. x ≡ ops.FetchAdd a w 1) xs)
    (sym (c.the_history_is_legal_for_what_was_submitted.ensures.one f' i made (submissions rs i) sound is (belongs.made i)))
    (all_one (ops.FetchAdd a w 1) f f' events rs all ran i))
    ∙ ap (λ n. n % 2 ^ (8 * size_of w)) (sym (c.the_trace_belongs.ensures.counted (whole_of f') rs belongs ∙ none_more (submitted_by f'.requesters)))
