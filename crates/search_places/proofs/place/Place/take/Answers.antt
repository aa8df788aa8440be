use Rattle.std.proofs.Common.{subst, sym, ap, ◌∙◌}
use Rattle.log_runs.specs.Runs.{Allowed, next}
use Rattle.search_places.specs.Undo.{old_of}
use Rattle.search_places.proofs.Tables.{table_fresh}
use Rattle.search_places.proofs.place.Place.take.Goals as goal

pub returns-in-Act-clause-came : goal.returns-in-Act-clause-came
returns-in-Act-clause-came c = record {
  may = record {
    allowed = subst (Allowed c.args.log.now c.args.self.now.state) c.in-Act.is c.requires.allowed;
    old = c.act.ensures.old;
    fresh = table_fresh c.args.log.now c.args.self.now.state.event c.args.self.now.pending c.args.self.now.state.acted c.requires.place.table;
  };
  led = c.act.ensures.state;
}

pub returns-in_ok-pass-in-Pass-clause-came : goal.returns-in_ok-pass-in-Pass-clause-came
returns-in_ok-pass-in-Pass-clause-came c = record {
  may = record {
    allowed = c.requires.allowed;
    old = c.new.ensures ∙ sym (ap (old_of c.args.log.now c.args.self.now.state) c.in-Pass.is);
    fresh = table_fresh c.args.log.now c.args.self.now.state.event c.args.self.now.pending c.args.self.now.state.acted c.requires.place.table;
  };
  led = c.in_ok-pass-in-Pass.ensures.state ∙ sym (ap (next c.args.log.now c.args.self.now.state) c.in-Pass.is);
}
