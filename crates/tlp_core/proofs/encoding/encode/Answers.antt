use Rattle.std.proofs.Common.{subst}
use Rattle.tlp_core.specs.TlpView.{TlpView}
use Rattle.tlp_core.specs.Layout.{canonical, Spells}
use Rattle.tlp_core.proofs.encoding.encode.Goals as goal

pub returns-clause-spelled : goal.returns-clause-spelled
returns-clause-spelled c = subst (λ (t : TlpView). Spells (canonical t) t) c.lend.ensures c.header_bytes-header.ensures.spelled
