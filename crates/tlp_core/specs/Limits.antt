-- Limits of this profile, by the constants of the code.
use Rattle.std.specs.Prelude.{ℕ}
use Rattle.tlp_core.specs.declared.packet.TheConstants.{MAX_PAYLOAD, REQUESTERS}

-- Max_Payload_Size, in bytes
abbrev pub max_payload : ℕ
max_payload = MAX_PAYLOAD

-- how many requesters there can be; they are numbered from 1 on
abbrev pub most_requesters : ℕ
most_requesters = REQUESTERS
