-- The text of what was recorded.
use Rattle.std.specs.Prelude.{ℕ, List, []}
use Rattle.endpoint_log.specs.Steps.{no_claim}
use Rattle.trace_text.specs.Texts.{trace_text}
use Rattle.endpoint_log.specs.declared.recording.Recording.{Recording}
use Rattle.endpoint_log.specs.declared.recording.Recording.TheVariants.{Off, On, Lost}

-- of an endpoint of which nothing is recorded that of no records
abbrev pub text : Recording → List ℕ
text (Off s) = trace_text (no_claim s)
text (On l) = trace_text l.claim
text Lost = []
