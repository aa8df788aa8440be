use Rattle.worker_report.proofs.Ends.{closed, no_flaw_ends}
use Rattle.worker_report.proofs.report.report_of.Goals as goal

pub returns-in-Ok-explained-clause-ran : goal.returns-in-Ok-explained-clause-ran
returns-in-Ok-explained-clause-ran c =
    let t = c.trace_of-trace in
    let all = closed c.what_seats_recorded_is_one_run.ensures c.args.hall c.args.gathered c.in-Ok.fabric t.result c.requires c.in-Ok.ensures.closed c.in-Ok.ensures.ran t.ensures.records t.ensures.base t.ensures.size t.ensures.block in
    all.ran

pub returns-in-Ok-explained-clause-memory : goal.returns-in-Ok-explained-clause-memory
returns-in-Ok-explained-clause-memory c =
    let t = c.trace_of-trace in
    let all = closed c.what_seats_recorded_is_one_run.ensures c.args.hall c.args.gathered c.in-Ok.fabric t.result c.requires c.in-Ok.ensures.closed c.in-Ok.ensures.ran t.ensures.records t.ensures.base t.ensures.size t.ensures.block in
    all.memory

pub returns-in-Ok-explained-clause-config : goal.returns-in-Ok-explained-clause-config
returns-in-Ok-explained-clause-config c =
    let t = c.trace_of-trace in
    let all = closed c.what_seats_recorded_is_one_run.ensures c.args.hall c.args.gathered c.in-Ok.fabric t.result c.requires c.in-Ok.ensures.closed c.in-Ok.ensures.ran t.ensures.records t.ensures.base t.ensures.size t.ensures.block in
    all.config

pub returns-in-Err-explained-clause-halt : goal.returns-in-Err-explained-clause-halt
returns-in-Err-explained-clause-halt c =
    let t = c.trace_of-trace in
    let all = closed c.what_seats_recorded_is_one_run.ensures c.args.hall c.args.gathered c.in-Ok.fabric t.result c.requires c.in-Ok.ensures.closed c.in-Ok.ensures.ran t.ensures.records t.ensures.base t.ensures.size t.ensures.block in
    no_flaw_ends _ c.in-Err-explained.halt (c.the_records_of_one_run_are_explained.ensures.flawless c.args.hall.config c.args.hall.opened c.in-Ok.fabric t.result all.ran all.config all.memory) c.in-Err-explained.ensures.flaw
