use Rattle.std.proofs.Common.{ℕ, List, [], Option, Some, None, Result, Ok, Err, IfSome, OnErr, sym, refl, ◌∙◌}
use Rattle.std.proofs.lemmas.List.{append-nil}
use Rattle.std.proofs.lemmas.Result.{err_from_is_err_and}
use Rattle.std.specs.Io.KnownBytes.{Appends, Consumes}
use Rattle.line_loop.specs.Run.{Run, IsBeginning, IsPart}
use Rattle.packet_engine.specs.Tlp.{out_tlp}
use Rattle.std.proofs.lemmas.Result.{IfOk-weaker, IfErr-weaker}
use Rattle.packet_engine.proofs.Simulation.{same-runs, whole, part, caught-up}
use Rattle.packet_engine.proofs.tlp.run_tlp.Goals as goal

-- nothing read and nothing written
nothing-done : {S : Type 0} (run : List ℕ → Run S) (u w : Option (List ℕ)) → IsPart run u u w w
nothing-done run u w = record {
  read = [];
  done = [];
  consumed = consumes u;
  written = appends w;
  begins = ((run []).text, refl);
  begins_all = all u;
}
  where
    consumes : (u : Option (List ℕ)) → Consumes u u []
    consumes None = tt
    consumes (Some xs) = refl

    appends : (w : Option (List ℕ)) → Appends w w []
    appends None = tt
    appends (Some xs) = sym (append-nil xs)

    all : (u : Option (List ℕ)) → IfSome u (λ input. IsBeginning [] (run input).text)
    all None = tt
    all (Some input) = ((run input).text, refl)

on_err : {T E P : Type 0} (r : Result T E) → P → OnErr r P
on_err (Ok x) p = tt
on_err (Err e) p = p

OnErr-weaker : {T E P Q : Type 0} (r : Result T E) → (P → Q) → OnErr r P → OnErr r Q
OnErr-weaker (Ok x) go h = tt
OnErr-weaker (Err e) go h = go h

pub returns-in_err-completer-clause-err : goal.returns-in_err-completer-clause-err
returns-in_err-completer-clause-err g c =
    on_err c.from_residual.result (nothing-done (out_tlp c.args.extent) (g.R.Read.remaining c.args.reader.now) (g.W.Write.contents c.args.writer.now))

pub returns-in_err-completer-clause-read : goal.returns-in_err-completer-clause-read
returns-in_err-completer-clause-read g c =
    let p = err_from_is_err_and c.from_residual.result c.from_residual.ensures.1 in
    rw (p.1, p.2) (λ is. absurd (cc is))

pub returns-clause-ok : goal.returns-clause-ok
returns-clause-ok g c =
    let same = same-runs c.args.extent c.reading_is_spelling.ensures.spelled c.history_grows_by_steps.ensures.next c.history_grows_by_steps.ensures.none in
    IfOk-weaker c.run.result _ _ (λ exit h. whole c.args.extent c.new-reasoned.result same (c.new-reasoned.ensures ∙ c.in_ok-completer.ensures) h) c.run.ensures.ok

pub returns-clause-err : goal.returns-clause-err
returns-clause-err g c =
    let same = same-runs c.args.extent c.reading_is_spelling.ensures.spelled c.history_grows_by_steps.ensures.next c.history_grows_by_steps.ensures.none in
    OnErr-weaker c.run.result (λ h. part c.args.extent c.new-reasoned.result same (c.new-reasoned.ensures ∙ c.in_ok-completer.ensures) h) c.run.ensures.err

pub returns-clause-read : goal.returns-clause-read
returns-clause-read g c =
    let same = same-runs c.args.extent c.reading_is_spelling.ensures.spelled c.history_grows_by_steps.ensures.next c.history_grows_by_steps.ensures.none in
    IfErr-weaker c.run.result _ _ (λ f h is. caught-up c.args.extent c.new-reasoned.result same (c.new-reasoned.ensures ∙ c.in_ok-completer.ensures) (h is)) c.run.ensures.read
