use Rattle.std.proofs.Common.{◌∙◌}
use Rattle.seq_memory.specs.declared.reply.ReplyOf.TheVariants as replies
use Rattle.search_effects.proofs.Yielding.{refused_kept, never_unsupported, never_aborted}
use Rattle.search_effects.proofs.puts.is_kept_by.Goals as goal

pub returns-in-Data : goal.returns-in-Data
returns-in-Data c = λ yes base m e. c.is_kept.ensures yes base m (e ∙ c.in-Data.is)

pub returns-in-Unsupported : goal.returns-in-Unsupported
returns-in-Unsupported c = λ yes base m e.
    refused_kept c.refused_and_read_change_nothing.ensures.refused base c.args.block m c.args.op.now replies.Unsupported (never_unsupported c.args.op.now) (e ∙ c.in-Unsupported.is)

pub returns-in-Aborted : goal.returns-in-Aborted
returns-in-Aborted c = λ yes base m e.
    refused_kept c.refused_and_read_change_nothing.ensures.refused base c.args.block m c.args.op.now replies.Aborted (never_aborted c.args.op.now) (e ∙ c.in-Aborted.is)
