use Rattle.std.proofs.Common.{◌≡◌, ◌∙◌, ◌%◌, ◌*◌, ◌^◌, [], ap}
use Rattle.tlp_core.specs.Operation.{size_of}
use Rattle.seq_memory.specs.History.{extent_of}
use Rattle.fabric_counter_laws.proofs.Totals.{EachEvent, all_acted}
use Rattle.fabric_counter_laws.proofs.Counting.{counted, fit_entries}
use Rattle.fabric_counter_laws.proofs.a_counter_of_a_fabric_counts_beside_other_traffic.Goals as goal

pub returns : goal.returns
returns c = λ config f g events rs a w new ran quiet served fit.
    let each : EachEvent = record { step = c.each_event_keeps_it_sound.ensures.step; sound = c.each_event_keeps_it_sound.ensures.sound } in
    let first = c.a_new_fabric_is_sound.ensures in
    let sound = first.sound config f new in
    let x = c.a_run_keeps_its_trace.ensures.explained f g events rs [] sound ran (first.belongs config f new) in
    c.a_counter_counts_beside_other_traffic.ensures.number (extent_of g.memory) a w g.memory.entries served (fit_entries (extent_of g.memory) a w rs g.memory.entries fit x.legal)
    ∙ ap (λ n. n % 2 ^ (8 * size_of w)) (counted a w g.memory.entries ∙ all_acted each a w f g events rs sound (first.empty config f new) (first.quiet config f new) quiet ran)
