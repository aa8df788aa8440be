use Rattle.std.proofs.Common.{length, true, false, sym, ap, ◌≡◌, ◌∙◌, arith}
use Rattle.std.specs.Prelude.{nat_lt, slice_get}
use Rattle.std.proofs.lemmas.Bool.{le-ltb}
use Rattle.history_words.specs.declared.flaws.FlawKind.TheVariants as flaws
use Rattle.history_words.specs.declared.claim.RecordHeader.{RecordHeader}
use Rattle.history_words.specs.Flaws.{clock_at}
use Rattle.history_words.specs.Headers.{header_of, moment_of, unclocked_in}
use Rattle.history_check.proofs.Firsts.{first_at-none, first_at-more, first_at-found}
use Rattle.history_check.proofs.Moments.{clock_is, last_next, not_fallen, moment_is}
use Rattle.history_check.proofs.Parts.{header_read, none_read}
use Rattle.history_check.proofs.clocks.first_unclocked.Goals as goal

pub loop-a-init : goal.loop-a-init
loop-a-init g c =
    let x = g.C.AsClaim.claim c.args.claim.now in
    record {
      clean = first_at-none (clock_at x.records x.memory.entries);
      last = λ n. sym (le-ltb n 0 (omega arith));
    }

pub returns-in_default : goal.returns-in_default
returns-in_default g c =
    absurd (none_read (g.C.AsClaim.claim c.args.claim.now).records c.loop-a.a c.records-a-end.result c.records-a-end.ensures c.loop-a-test.true (sym c.header.ensures ∙ c.in_default.is))

pub returns-then-is_unclocked : goal.returns-then-is_unclocked
returns-then-is_unclocked g c =
    let x = g.C.AsClaim.claim c.args.claim.now in
    let rs = x.records in
    let h = x.memory.entries in
    let (r, at, is) = header_read (slice_get rs c.loop-a.a) c.in-Some.header (sym c.header.ensures ∙ c.in-Some.is) in
    let tested : c.is_unclocked.result ≡ unclocked_in (header_of r) c.loop-a.last (length h) c.get.result =
    c.is_unclocked.ensures ∙ ap (λ most. unclocked_in c.in-Some.header c.loop-a.last most c.get.result) c.entries.ensures ∙ ap (λ (header : RecordHeader). unclocked_in header c.loop-a.last (length h) c.get.result) is in
    first_at-found (clock_at rs h) c.loop-a.a (length rs) flaws.Clock c.loop-a.invariant.clean
    (clock_is c.args.points.now rs h c.loop-a.a c.loop-a.last r c.get.result c.is_unclocked.result true c.requires.numbered c.requires.points at c.loop-a.invariant.last c.get.ensures.value tested c.if-is_unclocked.true)
    (omega (arith, c.records-a-end.ensures, c.loop-a-test.true))

pub loop-a-preserved : goal.loop-a-preserved
loop-a-preserved g c =
    let x = g.C.AsClaim.claim c.args.claim.now in
    let rs = x.records in
    let h = x.memory.entries in
    let (r, at, is) = header_read (slice_get rs c.loop-a.a) c.in-Some.header (sym c.header.ensures ∙ c.in-Some.is) in
    let tested : c.is_unclocked.result ≡ unclocked_in (header_of r) c.loop-a.last (length h) c.get.result =
    c.is_unclocked.ensures ∙ ap (λ most. unclocked_in c.in-Some.header c.loop-a.last most c.get.result) c.entries.ensures ∙ ap (λ (header : RecordHeader). unclocked_in header c.loop-a.last (length h) c.get.result) is in
    let up = not_fallen r c.loop-a.last (length h) c.get.result (sym tested ∙ c.if-is_unclocked.false) in
    record {
      clean = first_at-more (clock_at rs h) c.loop-a.a c.loop-a.invariant.clean
          (clock_is c.args.points.now rs h c.loop-a.a c.loop-a.last r c.get.result c.is_unclocked.result false c.requires.numbered c.requires.points at c.loop-a.invariant.last c.get.ensures.value tested c.if-is_unclocked.false);
      last = λ n. last_next rs c.loop-a.a c.loop-a.last r at up c.loop-a.invariant.last n
          ∙ ap (nat_lt n) (sym (c.moment-last.ensures ∙ ap (λ (header : RecordHeader). moment_of header) is ∙ moment_is r));
    }
