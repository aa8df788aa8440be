use Rattle.std.proofs.Common.{◌≡◌, ◌∙◌, List, ℕ, sym, subst, refl}
use Rattle.seq_memory.specs.declared.reply.ReplyOf.TheVariants as replies
use Rattle.seq_memory.specs.Step.{answer, after}
use Rattle.search_effects.proofs.Yielding.{brings_broken}
use Rattle.search_effects.proofs.pairs.never_brings.Goals as goal

pub returns-then-are_apart : goal.returns-then-are_apart
returns-then-are_apart c = λ yes base m agrees e. sym (c.apart_requests_commute.ensures.answer base c.args.block m c.args.one.now c.args.other.now (c.are_apart.ensures c.if-are_apart.true)) ∙ e

pub returns-then-is_quiet : goal.returns-then-is_quiet
returns-then-is_quiet c = λ yes base m agrees e.
    subst (λ (n : List ℕ). answer base c.args.block n c.args.other.now ≡ c.args.reply.now) (c.is_quiet.ensures c.if-is_quiet.true base m agrees) e

pub returns-in-Some : goal.returns-in-Some
returns-in-Some c = λ yes base m agrees e.
    c.atomic_never_brings.ensures yes base m (agrees (replies.Data c.in-Some.old.now) c.in-Some.ensures.told) e

pub returns : goal.returns
returns c = λ yes base m agrees e.
    brings_broken c.refused_and_read_change_nothing.ensures.refused base c.args.block m c.args.one.now c.args.other.now c.args.reply.now
    (λ served. c.breaks.ensures yes base m (after base c.args.block m c.args.one.now) served agrees (λ k front back. refl)) e
