use Rattle.hall_laws.proofs.Events.{put_back_seen_releases}
use Rattle.hall_laws.proofs.laws.put_back_seen.Goals as goal

pub release-requires-clause-rule : goal.release-requires-clause-rule
release-requires-clause-rule c = put_back_seen_releases _ _ _ c.requires.token.2 c.requires.token.0 c.requires.held.0 c.requires.held.1
