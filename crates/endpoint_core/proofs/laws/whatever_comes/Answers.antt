use Rattle.endpoint_core.proofs.Queue.{what_comes_goes}
use Rattle.endpoint_core.proofs.Effects.{bytes_made}
use Rattle.endpoint_core.proofs.Completing.{each_completes}
use Rattle.endpoint_core.proofs.Reports.{registers_made}
use Rattle.endpoint_core.proofs.laws.whatever_comes.Goals as goal

pub returns-clause-requests : goal.returns-clause-requests
returns-clause-requests c = what_comes_goes

pub returns-clause-bytes : goal.returns-clause-bytes
returns-clause-bytes c = bytes_made

pub returns-clause-completions : goal.returns-clause-completions
returns-clause-completions c = each_completes

pub returns-clause-registers : goal.returns-clause-registers
returns-clause-registers c = registers_made
