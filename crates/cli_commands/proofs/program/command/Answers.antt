use Rattle.std.proofs.Common.{◌≡◌, ℕ, List, Option, Result, Ok, Err, IfOk, OnErr, sym, subst, inl, inr}
use Rattle.parameters.specs.declared.counting.Counting.{Counting}
use Rattle.line_loop.specs.declared.fault.EngineFault.{EngineFault}
use Rattle.cli_words.specs.declared.words.Request.{Request}
use Rattle.run_engine.specs.Text.{IsWhole, IsPart, IsRan}
use Rattle.sweep_engine.specs.declared.options.Sweep.{Sweep}
use Rattle.sweep_engine.specs.Sweep.{IsWhole as IsWholeSweep, IsPart as IsPartOfSweep, IsSwept}
use Rattle.cli_commands.specs.Command.{IsDone}
use Rattle.cli_commands.proofs.program.command.Goals as goal

-- a run, whole or stopped
ran : (c : Counting) (r : Result ℕ EngineFault) (out out' : Option (List ℕ)) (exit : ℕ) → IfOk r (λ status. exit ≡ status) → OnErr r (exit ≡ 1)
    → IfOk r (IsWhole c out out') → OnErr r (IsPart c out out') → IsRan c out out' exit
ran c (Ok status) out out' exit ok err whole part = inl (subst (λ (n : ℕ). IsWhole c out out' n) (sym ok) whole)
ran c (Err fault) out out' exit ok err whole part = inr (err, part)

-- a sweep, whole or stopped
swept : (o : Sweep) (r : Result ℕ EngineFault) (out out' : Option (List ℕ)) (exit : ℕ) → IfOk r (λ status. exit ≡ status) → OnErr r (exit ≡ 1)
    → IfOk r (IsWholeSweep o out out') → OnErr r (IsPartOfSweep o out out') → IsSwept o out out' exit
swept o (Ok status) out out' exit ok err whole part = inl (subst (λ (n : ℕ). IsWholeSweep o out out' n) (sym ok) whole)
swept o (Err fault) out out' exit ok err whole part = inr (err, part)

pub returns-in-Sweep : goal.returns-in-Sweep
returns-in-Sweep g c =
    let input = g.R.Read.remaining c.args.reader.now in
    let rest = g.R.Read.remaining c.on_one_thread.new.reader in
    let out = g.W.Write.contents c.args.writer.now in
    let after = g.W.Write.contents c.run_sweep-run.new.writer in
    let done : IsSwept c.in-Sweep.sweep (g.W.Write.contents c.on_one_thread.new.writer) after c.ended-in-Sweep.result =
    swept c.in-Sweep.sweep c.run_sweep-run.result _ after c.ended-in-Sweep.result c.ended-in-Sweep.ensures.ok c.ended-in-Sweep.ensures.err c.run_sweep-run.ensures.ok c.run_sweep-run.ensures.part in record {
      run = λ request takes asks.
          let begun = c.in-Sweep.ensures.run request takes asks in
          subst (λ (r : Request). IsDone r input rest out after c.ended-in-Sweep.result) (sym begun.0) (begun.1, subst (λ (o : Option (List ℕ)). IsSwept c.in-Sweep.sweep o after c.ended-in-Sweep.result) begun.2 done);
      nothing = λ takes empty. absurd (c.in-Sweep.ensures.nothing takes empty).0;
      refused = λ refused. absurd (c.in-Sweep.ensures.refused refused).0;
    }

pub returns-in-Run : goal.returns-in-Run
returns-in-Run g c =
    let input = g.R.Read.remaining c.args.reader.now in
    let rest = g.R.Read.remaining c.on_one_thread.new.reader in
    let out = g.W.Write.contents c.args.writer.now in
    let after = g.W.Write.contents c.run_counting-run.new.writer in
    let done : IsRan c.in-Run.counting (g.W.Write.contents c.on_one_thread.new.writer) after c.ended.result =
    ran c.in-Run.counting c.run_counting-run.result _ after c.ended.result c.ended.ensures.ok c.ended.ensures.err c.run_counting-run.ensures.ok c.run_counting-run.ensures.part in record {
      run = λ request takes asks.
          let begun = c.in-Run.ensures.run request takes asks in
          subst (λ (r : Request). IsDone r input rest out after c.ended.result) (sym begun.0) (begun.1, subst (λ (o : Option (List ℕ)). IsRan c.in-Run.counting o after c.ended.result) begun.2 done);
      nothing = λ takes empty. absurd (c.in-Run.ensures.nothing takes empty).0;
      refused = λ refused. absurd (c.in-Run.ensures.refused refused).0;
    }
