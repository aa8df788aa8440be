use Rattle.std.proofs.Common.{◌∙◌, ◌+◌, ◌/◌, Some, ap, arith, sym}
use Rattle.std.specs.Prelude.{slice_get}
use Rattle.seq_memory.specs.Limits.{Extent}
use Rattle.search_words.proofs.NearLemmas.{named_by, own_words}
use Rattle.search_words.proofs.near.span_of.Goals as goal

pub returns-clause-all : goal.returns-clause-all
returns-clause-all c = λ b.
    let log = c.args.log.now in
    let x = c.in-Some-Sub in
    let (op, told, at, posted, answered, address, size) =
    c.headers_are_of_events.ensures.submission (slice_get log.events c.args.q) x.field-0-0 x.address x.size x.field-0-1 x.field-0-2 (sym x.ensures ∙ ap Some x.field-0-is) in
    named_by log b c.args.q x.field-0-0 (c.in_ok-offset.offset / 4) ((c.in_ok-end.end + 3) / 4) c.base.result op told at
    (c.base.ensures.value ∙ ap (λ (e : Extent). e.base) c.extent-extent.ensures)
    (omega (arith, address, size)) (omega (arith, address, size)) (omega (arith, address, size)) (omega (arith, address, size))

pub returns-clause-own : goal.returns-clause-own
returns-clause-own c = λ w names.
    let log = c.args.log.now in
    let x = c.in-Some-Sub in
    let (op, told, at, posted, answered, address, size) =
    c.headers_are_of_events.ensures.submission (slice_get log.events c.args.q) x.field-0-0 x.address x.size x.field-0-1 x.field-0-2 (sym x.ensures ∙ ap Some x.field-0-is) in
    own_words log c.args.q x.field-0-0 (c.in_ok-offset.offset / 4) ((c.in_ok-end.end + 3) / 4) c.base.result op told at
    (c.base.ensures.value ∙ ap (λ (e : Extent). e.base) c.extent-extent.ensures)
    (omega (arith, address, size)) (omega (arith, address, size)) (omega (arith, address, size)) w names
