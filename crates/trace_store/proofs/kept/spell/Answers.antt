use Rattle.std.proofs.Common.{◌≡◌, ◌<◌, ◌^◌, length, subst, arith}
use Rattle.trace_store.proofs.Parts.{spelled}
use Rattle.trace_store.proofs.kept.spell.Goals as goal

pub returns-in_default : goal.returns-in_default
returns-in_default c =
    let size : length c.args.place.now ≡ 16 = grind arith in
    spelled c.args.place.now _ 16 c.args.number size (subst (λ n. c.args.number < 256 ^ n) size c.requires.fits) c.write_u128.ensures
