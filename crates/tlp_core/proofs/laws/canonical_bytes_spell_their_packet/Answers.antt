use Rattle.tlp_core.proofs.Canon.{canon_spells}
use Rattle.tlp_core.proofs.laws.canonical_bytes_spell_their_packet.Goals as goal

pub returns-clause-spelled : goal.returns-clause-spelled
returns-clause-spelled c = λ t requester body packet. canon_spells t requester body packet
