use Rattle.std.proofs.Common.{refl, ap}
use Rattle.tlp_core.specs.Ops.{Op}
use Rattle.history_words.specs.declared.record.RecordOf.TheVariants as records
use Rattle.trace_store.proofs.Growth.{records_still, seen_still, record_there, record_added, on_err}
use Rattle.trace_store.proofs.seen.RecordStore.submitted.Goals as goal

pub returns-in_err-kind-clause-err : goal.returns-in_err-kind-clause-err
returns-in_err-kind-clause-err c =
    let i = c.self.inside in
    on_err _ (seen_still i.extent i.bytes.items c.keep_op.new.bytes.items i.records.items _ _ c.keep_op.ensures.grows c.self.invariant refl c.self.view_is)

pub invariant_of-self-in_err-push : goal.invariant_of-self-in_err-push
invariant_of-self-in_err-push c =
    let i = c.self.inside in
    records_still i.bytes.items c.keep_op.new.bytes.items i.records.items c.push.new.self.items c.keep_op.ensures.grows c.self.invariant c.in_err-push.ensures.items

pub returns-in_err-push-clause-err : goal.returns-in_err-push-clause-err
returns-in_err-push-clause-err c =
    let i = c.self.inside in
    on_err _ (seen_still i.extent i.bytes.items c.keep_op.new.bytes.items i.records.items c.push.new.self.items _ c.keep_op.ensures.grows c.self.invariant c.in_err-push.ensures.items c.self.view_is)

pub invariant_of-self-2 : goal.invariant_of-self-2
invariant_of-self-2 c =
    let i = c.self.inside in
    record_there i.bytes.items c.keep_op.new.bytes.items i.records.items c.push.new.self.items _ c.keep_op.ensures.grows c.self.invariant c.in_ok-kind.ensures.fits c.in_ok-push.ensures.items

pub returns-clause-ok : goal.returns-clause-ok
returns-clause-ok c =
    let i = c.self.inside in
    record_added i.extent i.bytes.items c.keep_op.new.bytes.items i.records.items c.push.new.self.items _ (records.Sub c.args.requester c.args.number c.args.op.now c.args.n) c.args.self.now
    c.keep_op.ensures.grows c.self.invariant c.in_ok-push.ensures.items
    (ap (λ (x : Op). records.Sub c.args.requester c.args.number x c.args.n) c.in_ok-kind.ensures.kept) c.self.view_is
