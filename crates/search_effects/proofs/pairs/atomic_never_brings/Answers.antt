use Rattle.std.proofs.Common.{◌≡◌, ◌∙◌, sym, ap, subst, refl, List, ℕ, Some}
use Rattle.std.proofs.lemmas.Slice.Eq.{bytes_eq-Decides}
use Rattle.std.proofs.lemmas.Option.{same_Some}
use Rattle.tlp_core.specs.Operation.{address_of}
use Rattle.seq_memory.specs.declared.reply.ReplyOf.TheVariants as replies
use Rattle.seq_memory.specs.Step.{answer, after}
use Rattle.search_effects.proofs.Leaving.{atomic_left, atomic_quiet}
use Rattle.search_effects.proofs.Yielding.{brings_broken, broken_by}
use Rattle.search_effects.proofs.pairs.atomic_never_brings.Goals as goal

pub returns-then-eq : goal.returns-then-eq
returns-then-eq c = λ yes base m answered e.
    let kept = atomic_quiet c.only_the_place_changes.ensures.size c.only_the_place_changes.ensures.place c.args.block c.args.one.now c.args.old.now c.changed-new.result.items c.requires.atomic
    (c.changed-new.ensures ∙ ap (λ (xs : List ℕ). after (address_of c.args.one.now) c.args.block xs c.args.one.now) c.as_slice.ensures.value)
    (sym c.as_slice-2.ensures.value ∙ (bytes_eq-Decides c.as_slice-2.result.now c.as_slice-3.result.now).0 (sym c.eq.ensures ∙ c.if-eq.true) ∙ c.as_slice-3.ensures.value)
    base m answered in
    subst (λ (n : List ℕ). answer base c.args.block n c.args.other.now ≡ c.args.reply.now) kept e

pub returns : goal.returns
returns c = λ yes base m answered e.
    brings_broken c.refused_and_read_change_nothing.ensures.refused base c.args.block m c.args.one.now c.args.other.now c.args.reply.now
    (λ served. broken_by c.what_is_needed_is_there.ensures base c.args.block m (after base c.args.block m c.args.one.now) c.args.one.now c.args.other.now (Some (replies.Data c.args.old.now))
    c.changed-new.result.items c.as_slice-4.result.now c.in-Data.need c.as_slice-5.result.now c.args.reply.now
    (λ at n l put fits agrees. atomic_left c.only_the_place_changes.ensures.size c.only_the_place_changes.ensures.place c.args.block c.args.one.now c.args.old.now c.changed-new.result.items c.requires.atomic
    (c.changed-new.ensures ∙ ap (λ (xs : List ℕ). after (address_of c.args.one.now) c.args.block xs c.args.one.now) c.as_slice.ensures.value)
    base at n l fits (agrees (replies.Data c.args.old.now) refl))
    c.as_slice-4.ensures.value c.as_slice-5.ensures.value c.in-Data.is (c.some_put_other.ensures yes) served
    (λ r told. answered ∙ same_Some (replies.Data c.args.old.now) r told) (λ k front back. refl)) e
