-- Which packet may pass which (section 2.4.1).
use Rattle.std.specs.Prelude.{Bool, true, false, not, ◌&&◌, ◌==◌}
use Rattle.dllp_core.specs.declared.packet.Class.{Class}
use Rattle.dllp_core.specs.declared.packet.Class.TheVariants.{Posted, NonPosted, Completion}
use Rattle.tlp_core.specs.TlpView.{TlpView}
use Rattle.flow_control.specs.Needs.{class_of}

-- the same Requester ID and Tag: completions of one request
abbrev pub is_same_request : TlpView → TlpView → Bool
is_same_request t u = (t.requester == u.requester) && (t.tag == u.tag)

-- the ordering table: the class of the later packet, that of the earlier, and whether both are of one request
abbrev pub passes : Class → Class → Bool → Bool
passes later Posted same = false
passes later NonPosted same = true
passes Posted Completion same = true
passes NonPosted Completion same = true
passes Completion Completion same = not same

-- the later packet may pass the earlier
abbrev pub may_pass : TlpView → TlpView → Bool
may_pass later earlier = passes (class_of later.kind) (class_of earlier.kind) (is_same_request later earlier)
