use Rattle.config_core.proofs.Reading.{read_spells}
use Rattle.config_core.proofs.Canon.{read_fits}
use Rattle.config_core.proofs.packet_laws.reading_is_spelling.Goals as goal

pub returns-clause-spelled : goal.returns-clause-spelled
returns-clause-spelled c = λ b r e. read_spells b r e

pub returns-clause-fits : goal.returns-clause-fits
returns-clause-fits c = λ b r h e. read_fits b r h e
