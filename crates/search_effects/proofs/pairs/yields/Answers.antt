use Rattle.std.proofs.Common.{◌∙◌, sym, refl}
use Rattle.seq_memory.specs.Step.{after}
use Rattle.search_effects.specs.Effects.{told_of}
use Rattle.search_effects.proofs.Yielding.{brings_broken, brings_refused, kept_by_read, ends_apart, ends_read, ends_refused, ends_broken}
use Rattle.search_effects.proofs.pairs.yields.Goals as goal

pub returns-then-are_apart-clause-brings : goal.returns-then-are_apart-clause-brings
returns-then-are_apart-clause-brings c = λ yes base m agrees e. sym (c.apart_requests_commute.ensures.answer base c.args.block m c.args.one.now c.args.other.now (c.are_apart.ensures c.if-are_apart.true)) ∙ e

pub returns-then-are_apart-clause-order : goal.returns-then-are_apart-clause-order
returns-then-are_apart-clause-order c = λ yes base m agrees e.
    ends_apart base c.args.block m c.args.one.now c.args.other.now (told_of c.args.told) c.args.reply.now
    (c.apart_requests_commute.ensures.answer base c.args.block) (c.apart_requests_commute.ensures.after base c.args.block) (c.are_apart.ensures c.if-are_apart.true) agrees e

pub returns-then-was_refused-clause-brings : goal.returns-then-was_refused-clause-brings
returns-then-was_refused-clause-brings c = λ yes base m agrees e.
    brings_refused c.refused_and_read_change_nothing.ensures.refused base c.args.block m c.args.one.now c.args.other.now (told_of c.args.told) c.args.reply.now (c.was_refused.ensures c.if-was_refused.true) agrees e

pub returns-then-was_refused-clause-order : goal.returns-then-was_refused-clause-order
returns-then-was_refused-clause-order c = λ yes base m agrees e.
    ends_refused c.only_the_place_changes.ensures.size c.refused_and_read_change_nothing.ensures.refused base c.args.block m c.args.one.now c.args.other.now (told_of c.args.told) c.args.reply.now
    (c.was_refused.ensures c.if-was_refused.true) agrees e

pub returns-then-is_read-clause-brings : goal.returns-then-is_read-clause-brings
returns-then-is_read-clause-brings c = λ yes base m agrees e.
    kept_by_read base c.args.block m c.args.one.now c.args.other.now c.args.reply.now (c.refused_and_read_change_nothing.ensures.reads base c.args.block) (c.is_read.ensures c.if-is_read.true) e

pub returns-then-is_read-clause-order : goal.returns-then-is_read-clause-order
returns-then-is_read-clause-order c = λ yes base m agrees e.
    ends_read base c.args.block m c.args.one.now c.args.other.now (told_of c.args.told) c.args.reply.now
    (c.refused_and_read_change_nothing.ensures.reads base c.args.block) (c.is_read.ensures c.if-is_read.true) (c.read_yields.ensures yes) agrees e

pub returns-clause-brings : goal.returns-clause-brings
returns-clause-brings c = λ yes base m agrees e.
    brings_broken c.refused_and_read_change_nothing.ensures.refused base c.args.block m c.args.one.now c.args.other.now c.args.reply.now
    (λ served. c.breaks.ensures yes base m (after base c.args.block m c.args.one.now) served agrees (λ k front back. refl)) e

pub returns-clause-order : goal.returns-clause-order
returns-clause-order c = λ yes base m agrees e.
    ends_broken c.only_the_place_changes.ensures.size c.refused_and_read_change_nothing.ensures.refused base c.args.block m c.args.one.now c.args.other.now (told_of c.args.told) c.args.reply.now
    (λ served. c.breaks.ensures yes base m (after base c.args.block m c.args.one.now) served agrees (λ k front back. refl)) agrees e
