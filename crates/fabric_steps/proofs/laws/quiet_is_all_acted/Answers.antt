use Rattle.fabric_steps.proofs.laws.quiet_is_all_acted.Goals as goal
use Rattle.fabric_steps.specs.Whole.{view}
use Rattle.fabric_steps.proofs.Legal.{quiet_acted, quiet_open}

pub returns : goal.returns
returns c = record {
  acted = λ p i k s a b. quiet_acted i (view p i) (s i) a b k;
  answered = λ p i t k s a b d e. quiet_open i (view p i) (s i) a b d e t k;
}
