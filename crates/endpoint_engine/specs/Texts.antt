-- What the answers of `endpoint` say.
use Rattle.std.specs.Prelude.{ℕ, List, ◌++◌, codes, Option, Some, None}
use Rattle.hex.specs.Hex.{encode_upper}
use Rattle.tlp_core.specs.TlpView.{TlpView}
use Rattle.tlp_core.specs.Layout.{canonical}
use Rattle.tlp_core.specs.Fault as packet
use Rattle.config_core.specs.Fault as configuration
use Rattle.endpoint_core.specs.declared.received.Malformed.{Malformed}
use Rattle.endpoint_core.specs.declared.received.Malformed.TheVariants as malformed
use Rattle.endpoint_core.specs.declared.endpoint.Handled.{Handled}
use Rattle.endpoint_core.specs.declared.endpoint.Handled.TheVariants as handles
use Rattle.hex_text.specs.Line.{spaced}

abbrev pub malformed_name : Malformed → List ℕ
malformed_name (malformed.Packet f) = packet.name_of f
malformed_name (malformed.Configuration f) = configuration.name_of f
malformed_name malformed.Boundary = codes "Boundary"

-- what became of a TLP; the device takes each
abbrev pub handled_text : Handled → List ℕ
handled_text handles.Waits = codes "accept"
handled_text handles.Done = codes "accept"
handled_text handles.Ignored = codes "accept Ignored"
handled_text handles.Unsupported = codes "accept Unsupported"
handled_text handles.Unexpected = codes "accept Unexpected"
handled_text (handles.Malformed m) = codes "accept Malformed " ++ malformed_name m

-- the bytes of a completion, in capitals in groups of four bytes
abbrev pub completion_text : Option TlpView → List ℕ
completion_text None = codes "-"
completion_text (Some t) = codes "tlp " ++ spaced (encode_upper (canonical t))
