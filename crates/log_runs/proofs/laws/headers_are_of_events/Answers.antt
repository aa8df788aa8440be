use Rattle.log_runs.proofs.Headed.{due_headed, free_headed, sub_headed}
use Rattle.log_runs.proofs.laws.headers_are_of_events.Goals as goal

pub returns-clause-submission : goal.returns-clause-submission
returns-clause-submission c = λ o i a size posted answered is. sub_headed o i posted answered a size is

pub returns-clause-due : goal.returns-clause-due
returns-clause-due c = due_headed

pub returns-clause-free : goal.returns-clause-free
returns-clause-free c = free_headed
