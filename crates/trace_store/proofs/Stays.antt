-- Operations and replies in a list of bytes that grows.
use Rattle.std.proofs.Common.{◌≡◌, ap, refl, ℕ, ◌+◌, List}
use Rattle.tlp_core.specs.declared.operation.OpOf.TheVariants as ops
use Rattle.tlp_core.specs.Operands.{number_of}
use Rattle.seq_memory.specs.Step.{data_of}
use Rattle.trace_store.specs.declared.kept.OpKind.{OpKind}
use Rattle.trace_store.specs.declared.kept.OpKind.TheVariants as op_kinds
use Rattle.trace_store.specs.declared.kept.ReplyKind.{ReplyKind}
use Rattle.trace_store.specs.declared.kept.ReplyKind.TheVariants as reply_kinds
use Rattle.trace_store.specs.declared.kept.Fields.{Fields}
use Rattle.trace_store.specs.Kept.{cas_of, op_in, reply_in, HasOp, HasReply, Grows}
use Rattle.trace_store.proofs.Parts.{held_stays, holds_still}

-- what is kept stays as it is
pub op_stays : (old new : List ℕ) (k : OpKind) (f : Fields) → Grows old new → HasOp old k f → op_in new k f ≡ op_in old k f
op_stays old new op_kinds.Read f g h = refl
op_stays old new op_kinds.Write f g h = ap (λ (v : List ℕ). ops.Write f.address f.first f.last (record { items = v })) (held_stays old new f.room f.count g h.1)
op_stays old new (op_kinds.FetchAdd w) f g h = ap (λ (v : List ℕ). ops.FetchAdd f.address w (number_of v)) (held_stays old new f.room f.count g h.1)
op_stays old new (op_kinds.Swap w) f g h = ap (λ (v : List ℕ). ops.Swap f.address w (number_of v)) (held_stays old new f.room f.count g h.1)
op_stays old new (op_kinds.Cas w) f g h = ap (cas_of f.address w f.count) (held_stays old new f.room (f.count + f.count) g h.1)

pub reply_stays : (old new : List ℕ) (k : ReplyKind) (f : Fields) → Grows old new → HasReply old k f → reply_in new k f ≡ reply_in old k f
reply_stays old new reply_kinds.Done f g h = refl
reply_stays old new reply_kinds.Data f g h = ap data_of (held_stays old new f.room f.count g h.1)
reply_stays old new reply_kinds.Unsupported f g h = refl
reply_stays old new reply_kinds.Aborted f g h = refl

pub op_remains : (old new : List ℕ) (k : OpKind) (f : Fields) → Grows old new → HasOp old k f → HasOp new k f
op_remains old new op_kinds.Read f g h = tt
op_remains old new op_kinds.Write f g h = (h.0, holds_still old new f.room f.count g h.1)
op_remains old new (op_kinds.FetchAdd w) f g h = (h.0, holds_still old new f.room f.count g h.1)
op_remains old new (op_kinds.Swap w) f g h = (h.0, holds_still old new f.room f.count g h.1)
op_remains old new (op_kinds.Cas w) f g h = (h.0, holds_still old new f.room (f.count + f.count) g h.1)

pub reply_remains : (old new : List ℕ) (k : ReplyKind) (f : Fields) → Grows old new → HasReply old k f → HasReply new k f
reply_remains old new reply_kinds.Done f g h = tt
reply_remains old new reply_kinds.Data f g h = (h.0, holds_still old new f.room f.count g h.1)
reply_remains old new reply_kinds.Unsupported f g h = tt
reply_remains old new reply_kinds.Aborted f g h = tt
