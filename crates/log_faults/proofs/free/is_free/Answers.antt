use Rattle.std.proofs.Common.{◌≡◌, subst, arith}
use Rattle.std.specs.Prelude.{IfSome}
use Rattle.std.proofs.lemmas.List.{take_all}
use Rattle.log_faults.specs.Free.{requester_of, IsFree}
use Rattle.log_faults.proofs.Freeing.{free_more}
use Rattle.log_faults.proofs.free.is_free.Goals as goal

pub loop-place-preserved : goal.loop-place-preserved
loop-place-preserved c =
    free_more c.args.by c.args.records.now c.loop-place.place (omega (arith, c.loop-place-test.true, c.len-place-end.ensures)) c.loop-place.invariant
    (subst (λ o. IfSome o (λ r. requester_of r ≡ c.args.by → ⊥)) c.get-item.ensures (c.is_of_others.ensures c.if-not-is_of_others.false))

pub returns : goal.returns
returns c = λ e. subst (IsFree c.args.by) (take_all c.loop-place.place c.args.records.now (omega (arith, c.loop-place-test.false, c.len-place-end.ensures))) c.loop-place.invariant
