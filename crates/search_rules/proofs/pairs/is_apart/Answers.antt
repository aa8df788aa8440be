use Rattle.std.proofs.Common.{◌∙◌, Some, ap, sym}
use Rattle.std.specs.Prelude.{slice_get}
use Rattle.search_rules.proofs.PairLemmas.{brings_apart, idle_brings, not_due, not_free}
use Rattle.search_rules.proofs.pairs.is_apart.Goals as goal

pub returns-in-Some : goal.returns-in-Some
returns-in-Some c = λ yes.
    let x = c.in-Some-Sub in
    let (op, told, at_b, posted, answered, address, size) =
    c.headers_are_of_events.ensures.submission (slice_get c.args.log.now.events c.args.b) x.field-0-0 x.address x.size x.field-0-1 x.field-0-2
    (sym x.ensures ∙ ap Some x.field-0-is) in
    let (j, other, asked, at_q, from, count) = c.in-Some.ensures in
    brings_apart c.apart_requests_commute.ensures.answer c.args.log.now c.args.b c.args.q x.field-0-0 j op other told asked at_b at_q
    (c.lie_apart.ensures yes op other address size from count)

pub returns-in-Some-Due : goal.returns-in-Some-Due
returns-in-Some-Due c = λ yes.
    let x = c.in-Some-Due in
    let there = slice_get c.args.log.now.events c.args.b in
    let due = c.headers_are_of_events.ensures.due there x.field-0-0 (sym x.ensures ∙ ap Some x.field-0-is) in
    idle_brings c.args.log.now c.args.b c.args.q (λ i op told. not_due there x.field-0-0 i op told due)

pub returns-in-Some-Free : goal.returns-in-Some-Free
returns-in-Some-Free c = λ yes.
    let x = c.in-Some-Free in
    let there = slice_get c.args.log.now.events c.args.b in
    let free = c.headers_are_of_events.ensures.free there (sym x.ensures ∙ ap Some x.field-0-is) in
    idle_brings c.args.log.now c.args.b c.args.q (λ i op told. not_free there i op told free)
