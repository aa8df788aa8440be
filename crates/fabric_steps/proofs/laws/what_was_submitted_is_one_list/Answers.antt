use Rattle.fabric_steps.specs.Whole.{view}
use Rattle.fabric_steps.proofs.Submitted.{read_off, only_one, step_adds}
use Rattle.fabric_steps.proofs.laws.what_was_submitted_is_one_list.Goals as goal

pub returns : goal.returns
returns c =
    record {
      there = λ p i s. read_off i (view p i) (s i);
      one = λ p i ops others s m n. only_one i (view p i) ops others (s i) m n;
      grows = step_adds;
    }
