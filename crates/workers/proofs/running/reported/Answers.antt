use Rattle.std.proofs.Common.{map, refl, subst}
use Rattle.workers.specs.Running.{AreDone}
use Rattle.workers.proofs.Beginning.{ran, remembered, configured, ends, all_done}
use Rattle.workers.proofs.running.reported.Goals as goal

pub returns-clause-ran : goal.returns-clause-ran
returns-clause-ran c = λ p by. ran p c.args.run.hall.opened c.args.run.hall.opened c.report_of.result by.opened refl c.report_of.ensures.ran

pub returns-clause-done : goal.returns-clause-done
returns-clause-done c = λ p by. all_done (map (λ s. s.items) p.scripts.items) c.args.gathered.records.items c.report_of.result
    (subst (λ q. AreDone c.args.gathered.records.items 1 (map (λ s. s.items) q.scripts.items)) by.same c.requires.done) c.report_of.ensures.records

pub returns-clause-memory : goal.returns-clause-memory
returns-clause-memory c = λ p by. remembered p c.args.run.hall.config c.args.run.hall.opened c.report_of.result by.opened by.config c.report_of.ensures.memory

pub returns-clause-config : goal.returns-clause-config
returns-clause-config c = λ p by. configured p c.args.run.hall.config c.args.run.hall.opened c.report_of.result by.can by.opened by.config c.report_of.ensures.config

pub returns-clause-halt : goal.returns-clause-halt
returns-clause-halt c = λ p by. ends p c.report_of.result by.can c.report_of.ensures.halt
