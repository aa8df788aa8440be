use Rattle.std.proofs.Common.{arith}
use Rattle.port_core.specs.Port.{new_port}
use Rattle.port_core.specs.Runs.{story_of}
use Rattle.port_core.proofs.Held.{new-ledger, calls-ledger}
use Rattle.port_core.proofs.laws.no_more_is_held_than_was_advertised.Goals as goal

pub returns-clause-headers : goal.returns-clause-headers
returns-clause-headers c = λ ours calls class limits are pos. ((calls-ledger c.bytes_spell_one_dllp.ensures.spelled ours (story_of (new_port ours)) calls limits are (new-ledger ours)).counts class).0.fits pos

pub returns-clause-units : goal.returns-clause-units
returns-clause-units c = λ ours calls class limits are pos. ((calls-ledger c.bytes_spell_one_dllp.ensures.spelled ours (story_of (new_port ours)) calls limits are (new-ledger ours)).counts class).1.fits pos

pub returns-clause-allocated_headers : goal.returns-clause-allocated_headers
returns-clause-allocated_headers c = λ ours calls class limits are.
    let k = ((calls-ledger c.bytes_spell_one_dllp.ensures.spelled ours (story_of (new_port ours)) calls limits are (new-ledger ours)).counts class).0 in
    omega (arith, k.start_is, k.back_is)

pub returns-clause-allocated_units : goal.returns-clause-allocated_units
returns-clause-allocated_units c = λ ours calls class limits are.
    let k = ((calls-ledger c.bytes_spell_one_dllp.ensures.spelled ours (story_of (new_port ours)) calls limits are (new-ledger ours)).counts class).1 in
    omega (arith, k.start_is, k.back_is)

pub returns-clause-received_headers : goal.returns-clause-received_headers
returns-clause-received_headers c = λ ours calls class limits are. ((calls-ledger c.bytes_spell_one_dllp.ensures.spelled ours (story_of (new_port ours)) calls limits are (new-ledger ours)).counts class).0.received_is

pub returns-clause-received_units : goal.returns-clause-received_units
returns-clause-received_units c = λ ours calls class limits are. ((calls-ledger c.bytes_spell_one_dllp.ensures.spelled ours (story_of (new_port ours)) calls limits are (new-ledger ours)).counts class).1.received_is
