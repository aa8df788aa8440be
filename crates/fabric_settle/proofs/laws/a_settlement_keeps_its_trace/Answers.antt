use Rattle.std.proofs.Common.{◌≡◌, ◌∙◌, ◌++◌, List, sym, subst}
use Rattle.history_words.specs.Records.{Record}
use Rattle.history_words.specs.Clocks.{KeepsRealTimeOrder}
use Rattle.history_words.specs.Trace.{Explains}
use Rattle.fabric_steps.specs.Fabric.{Fabric, whole_of}
use Rattle.fabric_steps.specs.Trace.{Belongs}
use Rattle.fabric_settle.specs.Keeping.{IsLossless, Never, events_of, with_record}
use Rattle.fabric_settle.specs.Reached.{Reached}
use Rattle.fabric_settle.proofs.TraceLemmas.{IsRun, is_run}
use Rattle.fabric_settle.proofs.laws.a_settlement_keeps_its_trace.Goals as goal

-- what is kept is the trace before, and the records of the run
kept : (f f' : Fabric) (rs rs' : List Record) (r : Reached with_record (IsLossless Never) f rs f' rs') (run : IsRun f r.happened f' rs) → rs' ≡ rs ++ run.0
kept f f' rs rs' r run = r.now (λ event lost. lost) ∙ run.2

pub returns : goal.returns
returns c =
    let law = c.a_run_keeps_its_trace.ensures in
    record {
      run = is_run;
      belongs = λ f f' rs rs' s r b.
          let run = is_run f f' r.happened rs r.led in
          subst (λ (xs : List Record). Belongs (whole_of f') xs) (sym (kept f f' rs rs' r run)) (law.belongs f f' (events_of r.happened) run.0 rs s run.1 b);
      explained = λ f f' rs rs' s r b.
          let run = is_run f f' r.happened rs r.led in
          subst (λ (xs : List Record). Explains (record { memory = f'.memory; records = xs })) (sym (kept f f' rs rs' r run)) (law.explained f f' (events_of r.happened) run.0 rs s run.1 b);
      ordered = λ f f' rs rs' s r b.
          let run = is_run f f' r.happened rs r.led in
          subst (λ (xs : List Record). KeepsRealTimeOrder (record { memory = f'.memory; records = xs })) (sym (kept f f' rs rs' r run)) (law.ordered f f' (events_of r.happened) run.0 rs s run.1 b);
    }
