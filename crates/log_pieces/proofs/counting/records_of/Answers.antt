use Rattle.std.proofs.Common.{ℕ, ◌<◌, ◌≤◌, [], length, take, sym, subst, IfOk}
use Rattle.seq_memory.specs.Limits.{Extent}
use Rattle.log_pieces.specs.Pieces.{pieces}
use Rattle.log_pieces.specs.InPieces.{split_all}
use Rattle.log_pieces.proofs.PrefixLemmas.{by_reach, reached_by, by_whole}
use Rattle.log_pieces.proofs.counting.records_of.Goals as goal

pub reach-requires : goal.reach-requires
reach-requires c = record {
  some = c.in-Some.ensures.some.0;
  few = c.in-Some.ensures.some.1;
  reached = reached_by c.args.granularity c.in-Some.bytes c.args.count c.args.log.now c.extent.result c.records.result (c.in-Some.ensures.pieces c.args.log.now)
      (sym c.extent.ensures) (sym c.records.ensures) c.requires;
}

pub returns-in-Some : goal.returns-in-Some
returns-in-Some c =
    let rs = c.records.result in
    let all = by_reach c.prefix_is_explainable.ensures c.args.granularity c.in-Some.bytes c.args.count c.args.log.now rs c.reach.result c.in-Some.ensures.pieces
    c.records.ensures c.reach.ensures.within
    (subst (λ (x : Extent). IfOk c.reach.result (λ n. c.args.count ≤ length (split_all (pieces c.in-Some.bytes x) [] (take n rs)))) c.extent.ensures c.reach.ensures.reaches)
    (subst (λ (x : Extent). IfOk c.reach.result (λ n. (m : ℕ) → m < n → length (split_all (pieces c.in-Some.bytes x) [] (take m rs)) < c.args.count)) c.extent.ensures c.reach.ensures.least) in
    record { within = all.within; reaches = all.reaches; least = all.least; unexplained = all.unexplained }

pub returns-in-None : goal.returns-in-None
returns-in-None c =
    let all = by_whole c.args.granularity c.args.count c.args.log.now c.in-None.ensures.whole c.requires in
    record { within = all.within; reaches = all.reaches; least = all.least; unexplained = all.unexplained }
