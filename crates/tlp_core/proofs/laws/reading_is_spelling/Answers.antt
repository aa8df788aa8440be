use Rattle.tlp_core.proofs.Grammar.{spelled_reading}
use Rattle.tlp_core.proofs.laws.reading_is_spelling.Goals as goal

pub returns-clause-spelled : goal.returns-clause-spelled
returns-clause-spelled c = λ b t fits e. spelled_reading b t fits e
