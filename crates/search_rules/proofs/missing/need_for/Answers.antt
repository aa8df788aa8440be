use Rattle.std.proofs.Common.{◌≡◌, ◌∙◌, ◌+◌, ◌-◌, ◌<◌, ℕ, List, length, true, ap, sym, arith}
use Rattle.std.specs.Prelude.{slice_index}
use Rattle.tlp_core.specs.Operation.{address_of}
use Rattle.search_effects.specs.Effects.{is_needed}
use Rattle.search_rules.proofs.missing.need_for.Goals as goal

pub returns-clause-value : goal.returns-clause-value
returns-clause-value c = λ block m answers.
    let d = c.in-Data.data in
    let there : is_needed c.args.op.now c.args.at ≡ true = sym c.is_needed.ensures ∙ c.if-not-is_needed.false in
    let place : c.in_ok-place.place ≡ address_of c.args.op.now - c.args.base + c.args.at = omega (arith, c.in_ok-place.ensures, c.address-address.ensures, c.if-address-base.false) in
    let short : c.args.at < length d.items = omega (arith, c.if-at-data.false, ap length c.as_slice-data.ensures.value) in
    ap (slice_index m) place ∙ c.what_is_needed_is_there.ensures c.args.base block c.args.at m c.args.op.now d there (answers ∙ c.in-Data.is) short
    ∙ ap (λ (xs : List ℕ). slice_index xs c.args.at) (sym c.as_slice-data.ensures.value)
