use Rattle.draw_engine.proofs.Verdicts.{same}
use Rattle.draw_engine.proofs.laws.draw_says_what_check_says.Goals as goal

pub returns : goal.returns
returns c = same
