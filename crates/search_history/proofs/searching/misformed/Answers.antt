use Rattle.std.proofs.Common.{refl, sym, subst, arith}
use Rattle.search_history.specs.Prefixes.{IsUnexplained}
use Rattle.search_history.proofs.Prefixing.{misformed_inside, misformed_unexplained}
use Rattle.search_history.proofs.searching.misformed.Goals as goal

pub well_formed-requires-clause-within : goal.well_formed-requires-clause-within
well_formed-requires-clause-within g c = let inside = misformed_inside c.args.records.seen.now c.args.records.count c.requires.misformed in omega (arith, inside)

pub up_to-prefix-requires : goal.up_to-prefix-requires
up_to-prefix-requires g c = misformed_inside c.args.records.seen.now c.args.records.count c.requires.misformed

pub returns-clause-none : goal.returns-clause-none
returns-clause-none g c = (
  c.up_to-prefix.result,
  refl,
  subst (IsUnexplained c.args.records.seen.now) (sym c.up_to-prefix.ensures)
      (misformed_unexplained c.args.records.seen.now c.args.records.count c.explainable_is_well_formed.ensures c.requires.misformed),
)
