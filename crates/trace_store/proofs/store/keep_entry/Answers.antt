use Rattle.std.proofs.Common.{refl, ap}
use Rattle.tlp_core.specs.Ops.{Op}
use Rattle.trace_store.proofs.Growth.{same_still, entry_there, entry_added, on_err}
use Rattle.trace_store.proofs.store.keep_entry.Goals as goal

pub returns-in_err-kind-clause-err : goal.returns-in_err-kind-clause-err
returns-in_err-kind-clause-err c =
    on_err _ (same_still c.args.bytes.now.items c.keep_op.new.bytes.items c.args.entries.now.items _ c.keep_op.ensures.grows c.requires refl)

pub returns-in_err-push-clause-err : goal.returns-in_err-push-clause-err
returns-in_err-push-clause-err c =
    on_err _ (same_still c.args.bytes.now.items c.keep_op.new.bytes.items c.args.entries.now.items c.push.new.self.items c.keep_op.ensures.grows c.requires c.in_err-push.ensures.items)

pub returns-clause-ok : goal.returns-clause-ok
returns-clause-ok c =
    entry_added c.args.bytes.now.items c.keep_op.new.bytes.items c.args.entries.now.items c.push.new.self.items _
    (record { requester = c.args.requester; number = c.args.number; op = c.args.op.now }) c.keep_op.ensures.grows c.requires c.in_ok-push.ensures.items
    (ap (λ (x : Op). record { requester = c.args.requester; number = c.args.number; op = x }) c.in_ok-kind.ensures.kept)

pub returns-clause-there : goal.returns-clause-there
returns-clause-there c =
    entry_there c.args.bytes.now.items c.keep_op.new.bytes.items c.args.entries.now.items c.push.new.self.items _ c.keep_op.ensures.grows c.requires c.in_ok-kind.ensures.fits c.in_ok-push.ensures.items
