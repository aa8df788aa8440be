use Rattle.std.proofs.Common.{◌∙◌, ap, sym}
use Rattle.std.specs.Prelude.{string_bytes}
use Rattle.trace_text.specs.Texts.{entry_line}
use Rattle.trace_text.proofs.TextLemmas.{text-next, text-past, text-there}
use Rattle.trace_text.proofs.writing.put_entries.Goals.{in-Some+in_ok-push_str, in_default}
use Rattle.trace_text.proofs.writing.put_entries.Goals as goal

pub loop-index-preserved : goal.loop-index-preserved
loop-index-preserved g c =
    let xs = (g.C.AsClaim.claim c.args.claim.now).memory.entries in
    elim c.match-entry.branch [
      | in-Some+in_ok-push_str w ↦
          text-next entry_line xs c.loop-index.index w.in-Some.entry (string_bytes c.loop-index.text) w.as_str.result.now (string_bytes c.match-entry.text) (sym c.entry.ensures ∙ w.in-Some.is)
          (w.as_str.ensures.value ∙ w.write_entry.ensures) (ap string_bytes w.text-is ∙ w.in_ok-push_str.ensures.bytes)
          ∙ c.loop-index.invariant
      | in_default w ↦ absurd (text-there xs c.loop-index.index _ c.entries-index-end.ensures c.loop-index-test.true (sym c.entry.ensures ∙ w.in_default.is))
    ]

pub returns : goal.returns
returns g c =
    let xs = (g.C.AsClaim.claim c.args.claim.now).memory.entries in
    text-past entry_line xs c.loop-index.index (string_bytes c.loop-index.text) (rw (← c.entries-index-end.ensures) c.loop-index-test.false) ∙ c.loop-index.invariant
