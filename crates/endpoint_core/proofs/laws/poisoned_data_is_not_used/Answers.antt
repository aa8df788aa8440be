use Rattle.endpoint_core.proofs.Poisoned.{bytes_stay, blocks_stay, none_configures}
use Rattle.endpoint_core.proofs.laws.poisoned_data_is_not_used.Goals as goal

pub returns-clause-bytes : goal.returns-clause-bytes
returns-clause-bytes c = bytes_stay

pub returns-clause-waits : goal.returns-clause-waits
returns-clause-waits c = blocks_stay

pub returns-clause-registers : goal.returns-clause-registers
returns-clause-registers c = none_configures
