use Rattle.std.proofs.Common.{◌∙◌, ◌++◌, ◌∷◌, [], ap}
use Rattle.std.specs.Prelude.{string_bytes}
use Rattle.seq_memory.specs.Limits.{Extent}
use Rattle.trace_text.specs.Texts.{memory_line}
use Rattle.trace_text.proofs.TextLemmas.{records_text-by}
use Rattle.trace_text.proofs.writing.write_records.Goals as goal

pub returns : goal.returns
returns g c =
    records_text-by (g.C.AsClaim.claim c.args.claim.now) (string_bytes c.new-text.result) (string_bytes c.push_str.new.self) c.as_str.result.now (string_bytes c.push_str-2.new.self)
    (string_bytes c.put_records.new.text) (string_bytes c.push_str-3.new.self)
    c.new-text.ensures.bytes c.in_ok-push_str.ensures.bytes (c.as_str.ensures.value ∙ c.write_memory.ensures ∙ ap (λ (x : Extent). memory_line (record { base = x.base; size = x.size; block = x.block; entries = [] }) ++ 10 ∷ []) c.extent.ensures) c.in_ok-push_str-2.ensures.bytes
    c.in_ok-put_records.ensures c.in_ok-push_str-3.ensures.bytes
