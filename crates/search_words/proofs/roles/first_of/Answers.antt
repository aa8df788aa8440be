use Rattle.std.proofs.Common.{Some, refl}
use Rattle.std.specs.Prelude.{slice_get}
use Rattle.search_words.proofs.RoleLemmas.{zeros_first}
use Rattle.search_words.proofs.roles.first_of.Goals as goal

pub returns-then-changes_zeros-clause-first : goal.returns-then-changes_zeros-clause-first
returns-then-changes_zeros-clause-first c = λ here.
    absurd (zeros_first c.args.log.now.extent (slice_get c.args.log.now.events c.args.found.request) c.requires.0 c.args.found.op.now (Some c.args.found.reply.now) c.requires.1
    (λ base block n agrees. c.changes_zeros.ensures c.if-changes_zeros.true base block n (agrees c.args.found.reply.now refl)) here)
