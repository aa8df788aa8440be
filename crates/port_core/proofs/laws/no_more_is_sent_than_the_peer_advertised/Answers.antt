use Rattle.port_core.specs.Port.{new_port}
use Rattle.port_core.specs.Runs.{story_of, story_in}
use Rattle.port_core.proofs.Known.{Believes, new-known, calls-known, told}
use Rattle.port_core.proofs.laws.no_more_is_sent_than_the_peer_advertised.Goals as goal

pub returns-clause-headers : goal.returns-clause-headers
returns-clause-headers c = λ ours calls class are packets up.
    let believes : Believes = record { spelled = c.bytes_spell_one_dllp.ensures.spelled; header = c.limits_let_each_packet_go.ensures.header } in
    (told (story_in ours calls) (calls-known believes (story_of (new_port ours)) calls are packets (new-known ours)) up class).0

pub returns-clause-units : goal.returns-clause-units
returns-clause-units c = λ ours calls class are packets up.
    let believes : Believes = record { spelled = c.bytes_spell_one_dllp.ensures.spelled; header = c.limits_let_each_packet_go.ensures.header } in
    (told (story_in ours calls) (calls-known believes (story_of (new_port ours)) calls are packets (new-known ours)) up class).1
