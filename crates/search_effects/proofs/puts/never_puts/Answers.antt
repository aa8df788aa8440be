use Rattle.std.proofs.Common.{◌≡◌, ◌∙◌, ◌⊎◌, ◌+◌, ◌<◌, ◌≤◌, inl, inr, sym, ap, subst, arith}
use Rattle.std.specs.Prelude.{slice_index}
use Rattle.tlp_core.specs.Operation.{address_of, count_of}
use Rattle.search_effects.proofs.Staying.{kept_if}
use Rattle.search_effects.proofs.puts.never_puts.Goals as goal

pub returns-in_default : goal.returns-in_default
returns-in_default c = λ yes base k m at agrees e.
    let out : (c.args.address < address_of c.args.op.now) ⊎ (address_of c.args.op.now + count_of c.args.op.now ≤ c.args.address) = c.in_default.ensures.none in
    let there : (base + k < address_of c.args.op.now) ⊎ (address_of c.args.op.now + count_of c.args.op.now ≤ base + k) = elim out [
      | inl before ↦ inl (omega (arith, before, at))
      | inr behind ↦ inr (omega (arith, behind, at))
    ] in
    sym (c.only_the_place_changes.ensures.others base c.args.block k m c.args.op.now there) ∙ e

pub returns-then-is_quiet : goal.returns-then-is_quiet
returns-then-is_quiet c = λ yes base k m at agrees e. sym (ap (λ n. slice_index n k) (c.is_quiet.ensures c.if-is_quiet.true base m agrees)) ∙ e

pub returns-then-not-is_put : goal.returns-then-not-is_put
returns-then-not-is_put c = λ yes base k m at agrees e.
    kept_if c.refused_and_read_change_nothing.ensures.refused base c.args.block k c.in-Some.at c.args.address c.args.value m c.args.op.now at c.in-Some.ensures.some
    (λ served there. sym (c.what_is_not_put_stays.ensures base c.args.block c.in-Some.at m c.args.op.now (sym c.is_put.ensures ∙ c.if-not-is_put.true)) ∙ there) e

pub returns : goal.returns
returns c = λ yes base k m at agrees e.
    kept_if c.refused_and_read_change_nothing.ensures.refused base c.args.block k c.in-Some.at c.args.address c.args.value m c.args.op.now at c.in-Some.ensures.some
    (λ served there. absurd (c.leaves_other.ensures yes (sym c.is_put.ensures ∙ c.if-not-is_put.false) base m served agrees there)) e
