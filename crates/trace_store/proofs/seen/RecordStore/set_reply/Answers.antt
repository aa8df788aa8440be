use Rattle.std.proofs.Common.{◌∙◌, ap, sym, refl}
use Rattle.std.specs.Prelude.{slice_get}
use Rattle.history_words.specs.Records.{Record}
use Rattle.trace_store.specs.Changes.{with_reply}
use Rattle.trace_store.specs.Stored.{record_by}
use Rattle.trace_store.specs.declared.stored.RecordKind.{RecordKind}
use Rattle.trace_store.proofs.Growth.{seen_still, replaced_there, replaced, not_missing, answered_again, no_reply, on_err}
use Rattle.trace_store.proofs.seen.RecordStore.set_reply.Goals as goal

pub returns-in_default-kind-clause-some : goal.returns-in_default-kind-clause-some
returns-in_default-kind-clause-some c =
    let i = c.self.inside in
    no_reply i.extent i.bytes.items i.records.items c.args.place c.in-Some.stored c.in_default-kind.field-0 c.args.self.now c.args.reply.now (ap (λ rs. slice_get rs c.args.place) (sym c.deref.ensures.value) ∙ sym c.stored_at.ensures.value ∙ c.in-Some.is) c.in_default-kind.is c.self.view_is

pub returns-in_err-kind-clause-none : goal.returns-in_err-kind-clause-none
returns-in_err-kind-clause-none c = λ none.
    let i = c.self.inside in
    seen_still i.extent i.bytes.items c.keep_reply.new.bytes.items i.records.items _ _ c.keep_reply.ensures.grows c.self.invariant refl c.self.view_is

pub returns-in_err-kind-clause-err : goal.returns-in_err-kind-clause-err
returns-in_err-kind-clause-err c =
    let i = c.self.inside in
    on_err _ (seen_still i.extent i.bytes.items c.keep_reply.new.bytes.items i.records.items _ _ c.keep_reply.ensures.grows c.self.invariant refl c.self.view_is)

pub invariant_of-self-2 : goal.invariant_of-self-2
invariant_of-self-2 c =
    let i = c.self.inside in
    replaced_there i.bytes.items c.keep_reply.new.bytes.items i.records.items c.put_at.new.records.items c.args.place _ c.keep_reply.ensures.grows c.self.invariant c.in_ok-kind.ensures.fits c.put_at.ensures

pub returns-clause-some : goal.returns-clause-some
returns-clause-some c =
    let i = c.self.inside in
    let old = i.bytes.items in
    let new = c.keep_reply.new.bytes.items in
    let stored = c.in-Some.stored in
    let made = c.args.reply.now in
    let again = answered_again old new stored c.keep_reply.new.fields c.in_ok-kind.kind made c.in-Ans.field-0 c.in_ok-kind.ensures.kept
    ∙ ap (λ (k : RecordKind). with_reply (record_by old stored k) made) (sym c.in-Ans.is) in
    replaced i.extent old new i.records.items c.put_at.new.records.items c.args.place stored _ (λ (r : Record). with_reply r made) c.args.self.now
    c.keep_reply.ensures.grows c.self.invariant (ap (λ rs. slice_get rs c.args.place) (sym c.deref.ensures.value) ∙ sym c.stored_at.ensures.value ∙ c.in-Some.is) c.put_at.ensures again c.self.view_is

pub returns-clause-none : goal.returns-clause-none
returns-clause-none c = λ none.
    let i = c.self.inside in
    not_missing i.extent i.bytes.items i.records.items c.args.place c.in-Some.stored c.args.self.now (ap (λ rs. slice_get rs c.args.place) (sym c.deref.ensures.value) ∙ sym c.stored_at.ensures.value ∙ c.in-Some.is) c.self.view_is none
