use Rattle.std.proofs.Common.{◌∙◌, ◌+◌, ◌<◌, true, get_or, set, sym, ap, subst}
use Rattle.std.specs.Prelude.{Some, slice_get}
use Rattle.history_words.specs.declared.record.RecordOf.TheVariants as records
use Rattle.log_runs.specs.Tasks.{IsMisformed}
use Rattle.log_events.specs.Formed.{IsOpen}
use Rattle.log_events.proofs.CountLemmas.{counted_sub, counted_answer, same_counted, is_within, never_past}
use Rattle.log_events.proofs.Heading.{ans_there, none_there, sub_there}
use Rattle.log_events.proofs.JoinLemmas.{joined_sub, joined_answer, same_joined}
use Rattle.log_events.proofs.form.Tables.add.Goals as goal

pub returns-in_default-clause-wrong : goal.returns-in_default-clause-wrong
returns-in_default-clause-wrong c = λ e.
    let (reply, at) = ans_there (slice_get c.args.records.now c.args.at) c.in-Some-Ans.requester c.in-Some-Ans.number c.in-Some-Ans.field-0-2 (sym c.header.ensures ∙ c.in-Some-Ans.is ∙ ap Some c.in-Some-Ans.field-0-is) in (
      records.Ans c.in-Some-Ans.requester c.in-Some-Ans.number reply c.in-Some-Ans.field-0-2,
      at,
      subst (λ rs. IsMisformed rs (records.Ans c.in-Some-Ans.requester c.in-Some-Ans.number reply c.in-Some-Ans.field-0-2)) c.first.ensures (c.in_default.ensures.none reply c.in-Some-Ans.field-0-2),
    )

pub answer-requires : goal.answer-requires
answer-requires c =
    let rs = c.args.records.now in
    let (reply, at) = ans_there (slice_get rs c.args.at) c.in-Some-Ans.requester c.in-Some-Ans.number c.in-Some-Ans.field-0-2 (sym c.header.ensures ∙ c.in-Some-Ans.is ∙ ap Some c.in-Some-Ans.field-0-is) in
    is_within c.numbers_name_submissions.ensures.unique c.args.self.now.answered.items rs c.args.at c.in-Some-Ans.requester c.in-Some-Ans.number c.in-Some-Ans.field-0-2 c.in-Some.submission reply at
    c.requires.known.numbered (subst (λ rs. IsOpen rs c.in-Some-Ans.requester c.in-Some-Ans.number c.in-Some.submission) c.first.ensures c.in-Some.ensures.some) c.requires.known.len c.requires.known.marked

pub returns-in_ok-submit-in-Some-Sub-clause-right : goal.returns-in_ok-submit-in-Some-Sub-clause-right
returns-in_ok-submit-in-Some-Sub-clause-right c = λ e.
    let rs = c.args.records.now in
    let counts = c.args.self.now.counts in
    let marks = c.args.self.now.answered.items in
    let i = c.in-Some-Sub.requester in
    let (op, at) = sub_there (slice_get rs c.args.at) i c.in-Some-Sub.number c.in-Some-Sub.field-0-2 c.in-Some-Sub.field-0-3 (sym c.header.ensures ∙ c.in-Some-Sub.is ∙ ap Some c.in-Some-Sub.field-0-is) in
    let small : c.in-Some-Sub.requester < 256 = c.submit.ensures.requester in
    let grow = c.submissions_grow_by_records.ensures in
    same_counted c.submit.new.self.counts (set counts i (get_or counts i 0 + 1)) c.submit.new.self.answered.items marks rs (c.args.at + 1)
    c.in_ok-submit-in-Some-Sub.ensures.counts c.in_ok-submit-in-Some-Sub.ensures.answered
    (counted_sub grow.own grow.other grow.numbered c.numbers_name_submissions.ensures.unique counts marks rs c.args.at i c.in-Some-Sub.number c.in-Some-Sub.field-0-3 op at c.requires.known small (sym c.if-of-number.false ∙ c.of.ensures))

pub returns-in-Some-clause-right : goal.returns-in-Some-clause-right
returns-in-Some-clause-right c = λ e.
    let rs = c.args.records.now in
    let counts = c.args.self.now.counts in
    let marks = c.args.self.now.answered.items in
    let b = c.in-Some.submission in
    let (reply, at) = ans_there (slice_get rs c.args.at) c.in-Some-Ans.requester c.in-Some-Ans.number c.in-Some-Ans.field-0-2 (sym c.header.ensures ∙ c.in-Some-Ans.is ∙ ap Some c.in-Some-Ans.field-0-is) in
    let grow = c.submissions_grow_by_records.ensures in
    let name = c.numbers_name_submissions.ensures in
    same_counted c.answer.new.self.counts counts c.answer.new.self.answered.items (set marks b true) rs (c.args.at + 1) c.answer.ensures.counts c.answer.ensures.answered
    (counted_answer grow.answer grow.numbered_answer name.below name.unique counts marks rs c.args.at c.in-Some-Ans.requester c.in-Some-Ans.number c.in-Some-Ans.field-0-2 b reply at (subst (λ rs. IsOpen rs c.in-Some-Ans.requester c.in-Some-Ans.number c.in-Some.submission) c.first.ensures c.in-Some.ensures.some) c.requires.known)

pub returns-in_ok-submit-in-Some-Sub-clause-joined : goal.returns-in_ok-submit-in-Some-Sub-clause-joined
returns-in_ok-submit-in-Some-Sub-clause-joined c = λ e.
    let rs = c.args.records.now in
    let places = c.args.self.now.partners in
    let i = c.in-Some-Sub.requester in
    let (op, at) = sub_there (slice_get rs c.args.at) i c.in-Some-Sub.number c.in-Some-Sub.field-0-2 c.in-Some-Sub.field-0-3 (sym c.header.ensures ∙ c.in-Some-Sub.is ∙ ap Some c.in-Some-Sub.field-0-is) in
    let small : c.in-Some-Sub.requester < 256 = c.submit.ensures.requester in
    let numbered = c.submissions_grow_by_records.ensures.numbered rs c.args.at i c.in-Some-Sub.number c.in-Some-Sub.field-0-3 op c.requires.known.numbered at
    (sym c.if-of-number.false ∙ c.of.ensures ∙ c.requires.known.counts.at i small) in
    same_joined c.submit.new.self.partners places rs (c.args.at + 1) c.in_ok-submit-in-Some-Sub.ensures.partners
    (joined_sub c.numbers_name_submissions.ensures.unique places rs c.args.at i c.in-Some-Sub.number c.in-Some-Sub.field-0-3 op at numbered c.requires.joined)

pub returns-in-Some-clause-joined : goal.returns-in-Some-clause-joined
returns-in-Some-clause-joined c = λ e.
    let rs = c.args.records.now in
    let places = c.args.self.now.partners in
    let b = c.in-Some.submission in
    let (reply, at) = ans_there (slice_get rs c.args.at) c.in-Some-Ans.requester c.in-Some-Ans.number c.in-Some-Ans.field-0-2 (sym c.header.ensures ∙ c.in-Some-Ans.is ∙ ap Some c.in-Some-Ans.field-0-is) in
    same_joined c.answer.new.self.partners (set (set places b c.args.at) c.args.at b) rs (c.args.at + 1) c.answer.ensures.partners
    (joined_answer c.numbers_name_submissions.ensures.unique places rs c.args.at c.in-Some-Ans.requester c.in-Some-Ans.number c.in-Some-Ans.field-0-2 b reply at c.requires.known.numbered (subst (λ rs. IsOpen rs c.in-Some-Ans.requester c.in-Some-Ans.number c.in-Some.submission) c.first.ensures c.in-Some.ensures.some) c.requires.joined)

pub returns-in-None-clause-right : goal.returns-in-None-clause-right
returns-in-None-clause-right c = λ e. absurd (never_past c.args.records.now c.args.at c.requires.within (none_there (slice_get c.args.records.now c.args.at) (sym c.header.ensures ∙ c.in-None.is)))

pub returns-in-None-clause-joined : goal.returns-in-None-clause-joined
returns-in-None-clause-joined c = λ e. absurd (never_past c.args.records.now c.args.at c.requires.within (none_there (slice_get c.args.records.now c.args.at) (sym c.header.ensures ∙ c.in-None.is)))
