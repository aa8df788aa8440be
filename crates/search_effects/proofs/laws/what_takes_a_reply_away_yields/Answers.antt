use Rattle.search_effects.proofs.Yielding.{brings_broken, ends_broken}
use Rattle.search_effects.proofs.laws.what_takes_a_reply_away_yields.Goals as goal

pub returns-clause-brings : goal.returns-clause-brings
returns-clause-brings c = λ base block m one other reply takes e. brings_broken c.refused_and_read_change_nothing.ensures.refused base block m one other reply takes e

pub returns-clause-order : goal.returns-clause-order
returns-clause-order c = λ base block m one other told reply takes agrees e.
    ends_broken c.only_the_place_changes.ensures.size c.refused_and_read_change_nothing.ensures.refused base block m one other told reply takes agrees e
