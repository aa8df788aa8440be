use Rattle.std.proofs.Common.{ap, ◌∙◌}
use Rattle.port_core.specs.declared.init.Advertised.{Advertised}
use Rattle.port_core.specs.Init.{fi1}
use Rattle.port_core.specs.Port.{new_port}
use Rattle.port_core.specs.Runs.{story_of}
use Rattle.port_core.proofs.Sent.{sends-when-active, initfc1-alone, nothing-inactive}
use Rattle.port_core.proofs.Known.{Believes, new-known, calls-known}
use Rattle.port_core.proofs.laws.initialization_comes_first.Goals as goal

pub returns-clause-up : goal.returns-clause-up
returns-clause-up c = λ ours calls are packets.
    let believes : Believes = record { spelled = c.bytes_spell_one_dllp.ensures.spelled; header = c.limits_let_each_packet_go.ensures.header } in
    let k = calls-known believes (story_of (new_port ours)) calls are packets (new-known ours) in
    k.up ∙ ap (λ (a : Advertised). fi1 a) k.peer_is

pub returns-clause-active : goal.returns-clause-active
returns-clause-active c = λ p number e. sends-when-active p.state p number e

pub returns-clause-init1 : goal.returns-clause-init1
returns-clause-init1 c = λ p e. initfc1-alone p.state p e e

pub returns-clause-inactive : goal.returns-clause-inactive
returns-clause-inactive c = λ p e. nothing-inactive p.state p e
