use Rattle.std.specs.Prelude.{string_bytes}
use Rattle.trace_text.proofs.TextLemmas.{trace_text-by}
use Rattle.trace_text.proofs.writing.write_trace.Goals as goal

pub returns : goal.returns
returns g c =
    trace_text-by (g.C.AsClaim.claim c.args.claim.now) (string_bytes c.in_ok-text.text) (string_bytes c.put_entries.new.text) (string_bytes c.push_str.new.self)
    c.in_ok-text.ensures c.in_ok-put_entries.ensures c.in_ok-push_str.ensures.bytes
