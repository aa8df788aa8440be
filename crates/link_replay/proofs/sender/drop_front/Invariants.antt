use Rattle.std.proofs.Common.{◌≡◌, drop}
use Rattle.std.specs.VecDeque.{deque_capacity}
use Rattle.link_replay.proofs.sender.drop_front.Given as goal

abbrev pub invariant-loop-k : goal.invariant-loop-k
invariant-loop-k l = record {
  dropped : l.items.items ≡ drop l.k l.fn.items.items;
  capacity : deque_capacity l.items ≡ deque_capacity l.fn.items;
}
