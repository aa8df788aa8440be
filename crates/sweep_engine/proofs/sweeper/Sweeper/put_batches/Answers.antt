use Rattle.std.proofs.Common.{◌+◌, ◌-◌, ◌++◌, [], arith}
use Rattle.sweep_engine.specs.Sweep.{seeds_in}
use Rattle.sweep_engine.proofs.Sweeps.{Appends-none, Appends-then, on_err, stands_same, begins_few}
use Rattle.sweep_engine.proofs.sweeper.Sweeper.put_batches.Goals as goal

pub loop-next-init : goal.loop-next-init
loop-next-init g c =
    let o = c.args.batches.sweep.now in record {
      least = omega arith;
      most = omega (arith, c.requires.sweep.ordered, c.requires.last);
      told = ([], Appends-none _, λ s. stands_same o 0 (o.storm.seed - o.storm.seed) [] _ (omega arith) s);
    }

pub loop-next-preserved : goal.loop-next-preserved
loop-next-preserved g c =
    let o = c.args.batches.sweep.now in
    let h = c.loop-next.invariant in
    let least = h.least in
    let most = h.most in
    let room = c.loop-next-test.true in
    let k = c.in_ok-advance.ensures.ok in
    let next = c.loop-next.next in
    let size = c.args.batches.size in record {
      least = omega (arith, least);
      most = omega (arith, most, room);
      told = (
        h.told.0 ++ k.0,
        Appends-then _ _ _ h.told.0 k.0 h.told.1 k.1,
        λ s. stands_same o ((next - o.storm.seed) + size) ((next + size) - o.storm.seed) _ _ (omega (arith, least)) (k.2 (next - o.storm.seed) h.told.0 (omega (arith, least)) (h.told.2 s)),
      );
    }

pub returns-in_err-advance-clause-err : goal.returns-in_err-advance-clause-err
returns-in_err-advance-clause-err g c =
    let o = c.args.batches.sweep.now in
    let h = c.loop-next.invariant in
    let least = h.least in
    let most = h.most in
    let room = c.loop-next-test.true in
    let k = c.in_err-advance.ensures.err in
    let next = c.loop-next.next in
    let size = c.args.batches.size in
    on_err c.from_residual.result (
      h.told.0 ++ k.0,
      Appends-then _ _ _ h.told.0 k.0 h.told.1 k.1,
      λ s.
          begins_few o ((next - o.storm.seed) + size) (seeds_in o) _ (omega (arith, least, most, room, c.requires.last))
          (k.2 (next - o.storm.seed) h.told.0 (omega (arith, least)) (h.told.2 s)),
    )

pub advance-requires-clause-fits : goal.advance-requires-clause-fits
advance-requires-clause-fits g c =
    let h = c.loop-next.invariant in
    let most = h.most in
    let room = c.loop-next-test.true in λ κs lives. omega (arith, most, room)

pub overflow_add-next : goal.overflow_add-next
overflow_add-next g c =
    let h = c.loop-next.invariant in
    let most = h.most in
    let room = c.loop-next-test.true in omega (arith, most, room)
