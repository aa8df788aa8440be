use Rattle.fabric_steps.proofs.laws.the_trace_belongs.Goals as goal
use Rattle.fabric_steps.proofs.Clocked.{belongs_clocked}
use Rattle.fabric_steps.proofs.Totals.{belongs_counted}
use Rattle.fabric_steps.proofs.New.{new_belongs}
use Rattle.fabric_steps.proofs.Headline.{run_belongs, belongs_explains, run_begins}
use Rattle.fabric_steps.proofs.Keeps.{run_keeps}

pub returns : goal.returns
returns c = record { new = new_belongs; run = λ p q rs ss s b r. run_belongs rs s b r; sound = λ p q rs s r. run_keeps s r; begins = λ p q rs s r. run_begins s r; explained = belongs_explains; clocked = belongs_clocked; counted = belongs_counted }
