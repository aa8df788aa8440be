use Rattle.completer_core.proofs.Spelled.{completion_spelled}
use Rattle.completer_core.proofs.laws.a_completion_is_spelled.Goals as goal

pub returns : goal.returns
returns c = completion_spelled c.canonical_bytes_spell_their_packet.ensures.spelled c.canonical_bytes_spell_their_packet.ensures.requester
