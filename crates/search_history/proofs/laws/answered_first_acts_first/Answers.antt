use Rattle.history_words.specs.Claim.{Claim}
use Rattle.history_words.specs.Clocks.{IsClocked, KeepsRealTimeOrder}
use Rattle.history_words.specs.Trace.{Explains}
use Rattle.search_history.specs.Answers.{IsFound, IsInOrder}
use Rattle.search_history.specs.declared.searching.Sought.{Sought}
use Rattle.search_history.specs.declared.searching.Sought.TheVariants as answers
use Rattle.search_history.proofs.laws.answered_first_acts_first.Goals as goal

in_order : ((x : Claim) → Explains x → IsClocked x → KeepsRealTimeOrder x) → (x : Claim) (s : Sought) → IsFound x s → IsInOrder x s
in_order law x answers.Found found = law x found.0 found.1
in_order law x (answers.None prefix) found = tt
in_order law x (answers.Limit bound) found = tt

pub returns : goal.returns
returns c = in_order c.answered_first_acts_first.ensures
