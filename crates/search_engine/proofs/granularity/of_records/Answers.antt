use Rattle.std.proofs.Common.{subst}
use Rattle.log_pieces.specs.declared.Granularity.TheVariants.{Whole}
use Rattle.log_pieces.specs.InPieces.{in_pieces}
use Rattle.search_engine.specs.declared.answering.Finding.{Finding}
use Rattle.search_engine.specs.Bounded.{bounds_of}
use Rattle.search_engine.specs.Findings.{AreUnexplained, IsFindingOf}
use Rattle.search_engine.proofs.SizeLemmas.{unexplained, of_log, searched_in_whole}
use Rattle.search_engine.proofs.granularity.of_records.Goals as goal

pub returns-in_ok-pieces-in-None : goal.returns-in_ok-pieces-in-None
returns-in_ok-pieces-in-None c =
    let t = c.args.seen in
    let size = c.args.demand.options.granularity in
    let dead : AreUnexplained Whole (in_pieces size t) c.in-None.count = subst (λ (f : Finding). IsFindingOf Whole (bounds_of c.args.demand) (in_pieces size t) f) c.in-None.is c.requires in
    record {
      within = c.in_ok-prefix-in-None.ensures.within;
      unexplained = c.in_ok-prefix-in-None.ensures.unexplained (unexplained (in_pieces size t) c.in-None.count dead);
    }

pub returns-in_ok-pieces-in-Limit : goal.returns-in_ok-pieces-in-Limit
returns-in_ok-pieces-in-Limit c =
    let t = c.args.seen in
    let size = c.args.demand.options.granularity in
    let given_up = subst (λ (f : Finding). IsFindingOf Whole (bounds_of c.args.demand) (in_pieces size t) f) c.in-Limit.is c.requires in
    (given_up.0, searched_in_whole (in_pieces size t) c.in-Limit.ending.choices given_up.1)

pub returns-in_default : goal.returns-in_default
returns-in_default c = of_log c.args.demand.options.granularity (bounds_of c.args.demand) c.args.seen c.args.finding c.requires c.in_default.not-None
