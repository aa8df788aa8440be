use Rattle.std.proofs.Common.{List, ℕ, [], refl, inl, inr, subst}
use Rattle.std.specs.Io.KnownBytes.{Appends}
use Rattle.line_loop.specs.Run.{IsBeginning}
use Rattle.search_engine.specs.Bounded.{bounds_of}
use Rattle.search_engine.specs.Findings.{text_of}
use Rattle.search_engine.proofs.KnownLemmas.{appends-nothing, on_err}
use Rattle.search_engine.proofs.KeptLemmas.{to-input-drawn}
use Rattle.search_engine.proofs.drawing.run_search_drawn.Goals as goal

pub returns-in_err-answer-clause-err : goal.returns-in_err-answer-clause-err
returns-in_err-answer-clause-err g c =
    on_err c.from_residual-in_err-answer.result (record {
      read = c.in_ok-text.ensures.ok.0;
      consumed = c.in_ok-text.ensures.ok.1;
      done = [];
      begins = inl refl;
      written = appends-nothing (g.W.Write.contents c.args.writer.now);
    })

pub returns-in_err-write_out-clause-err : goal.returns-in_err-write_out-clause-err
returns-in_err-write_out-clause-err g c =
    let demand = c.args.task.demand in
    let outcome = c.in_ok-answer.answer.outcome in
    let kept = c.in_ok-text.ensures.ok in
    let part = c.in_err-write_out.ensures.part in
    on_err c.from_residual-in_err-write_out.result (record {
      read = kept.0;
      consumed = kept.1;
      done = part.0;
      begins = inr (record {
        at_end = c.in_ok-text.ensures.end;
        text = text_of outcome.text;
        status = outcome.status;
        answers = to-input-drawn demand.options.granularity (bounds_of demand) kept.0 c.in_ok-text.text.items (text_of outcome.text) outcome.status
            kept.2 c.in_ok-answer.ensures;
        begins = subst (λ (t : List ℕ). IsBeginning part.0 t) c.as_slice.ensures part.1;
      });
      written = part.2;
    })

pub returns-clause-ok : goal.returns-clause-ok
returns-clause-ok g c =
    let demand = c.args.task.demand in
    let outcome = c.in_ok-answer.answer.outcome in
    let kept = c.in_ok-text.ensures.ok in
    record {
      read = kept.0;
      consumed = kept.1;
      at_end = c.in_ok-text.ensures.end;
      text = text_of outcome.text;
      answers = to-input-drawn demand.options.granularity (bounds_of demand) kept.0 c.in_ok-text.text.items (text_of outcome.text) outcome.status
          kept.2 c.in_ok-answer.ensures;
      written = subst (λ (t : List ℕ). Appends (g.W.Write.contents c.args.writer.now) (g.W.Write.contents c.write_out.new.writer) t) c.as_slice.ensures
          c.in_ok-write_out.ensures.ok;
    }
