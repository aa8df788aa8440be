use Rattle.std.proofs.Common.{◌∙◌, ap, sym}
use Rattle.std.specs.Prelude.{string_bytes}
use Rattle.trace_text.specs.Texts.{record_line}
use Rattle.trace_text.proofs.TextLemmas.{text-next, text-past, text-there}
use Rattle.trace_text.proofs.writing.put_records.Goals.{in-Some+in_ok-push_str, in_default}
use Rattle.trace_text.proofs.writing.put_records.Goals as goal

pub loop-place-preserved : goal.loop-place-preserved
loop-place-preserved g c =
    let xs = (g.C.AsClaim.claim c.args.claim.now).records in
    elim c.match-record.branch [
      | in-Some+in_ok-push_str w ↦
          text-next record_line xs c.loop-place.place w.in-Some.record (string_bytes c.loop-place.text) w.as_str.result.now (string_bytes c.match-record.text) (sym c.record.ensures ∙ w.in-Some.is)
          (w.as_str.ensures.value ∙ w.write_record.ensures) (ap string_bytes w.text-is ∙ w.in_ok-push_str.ensures.bytes)
          ∙ c.loop-place.invariant
      | in_default w ↦ absurd (text-there xs c.loop-place.place _ c.records-place-end.ensures c.loop-place-test.true (sym c.record.ensures ∙ w.in_default.is))
    ]

pub returns : goal.returns
returns g c =
    let xs = (g.C.AsClaim.claim c.args.claim.now).records in
    text-past record_line xs c.loop-place.place (string_bytes c.loop-place.text) (rw (← c.records-place-end.ensures) c.loop-place-test.false) ∙ c.loop-place.invariant
