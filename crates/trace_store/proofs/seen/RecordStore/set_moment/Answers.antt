use Rattle.std.proofs.Common.{◌∙◌, ap, sym}
use Rattle.std.specs.Prelude.{slice_get}
use Rattle.trace_store.specs.Changes.{with_n}
use Rattle.trace_store.proofs.Growth.{replaced_there, replaced, not_missing, stored_there, none_added, moved}
use Rattle.trace_store.proofs.seen.RecordStore.set_moment.Goals as goal

pub invariant_of-self : goal.invariant_of-self
invariant_of-self c =
    let i = c.self.inside in
    let b = i.bytes.items in
    replaced_there b b i.records.items c.put_at.new.records.items c.args.place _ (none_added b) c.self.invariant (stored_there b i.records.items c.args.place c.in-Some.stored c.self.invariant (ap (λ rs. slice_get rs c.args.place) (sym c.deref.ensures.value) ∙ sym c.stored_at.ensures.value ∙ c.in-Some.is)) c.put_at.ensures

pub returns-clause-some : goal.returns-clause-some
returns-clause-some c =
    let i = c.self.inside in
    let b = i.bytes.items in
    replaced i.extent b b i.records.items c.put_at.new.records.items c.args.place c.in-Some.stored _ (with_n c.args.n) c.args.self.now
    (none_added b) c.self.invariant (ap (λ rs. slice_get rs c.args.place) (sym c.deref.ensures.value) ∙ sym c.stored_at.ensures.value ∙ c.in-Some.is) c.put_at.ensures (moved b c.in-Some.stored c.args.n c.in-Some.stored.kind) c.self.view_is

pub returns-clause-none : goal.returns-clause-none
returns-clause-none c = λ none.
    let i = c.self.inside in
    not_missing i.extent i.bytes.items i.records.items c.args.place c.in-Some.stored c.args.self.now (ap (λ rs. slice_get rs c.args.place) (sym c.deref.ensures.value) ∙ sym c.stored_at.ensures.value ∙ c.in-Some.is) c.self.view_is none
