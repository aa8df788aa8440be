use Rattle.link_replay.proofs.RunLemmas.{one_nak}
use Rattle.link_replay.proofs.receiver_laws.one_nak_until_a_packet_is_accepted.Goals as goal

pub returns : goal.returns
returns c = one_nak
