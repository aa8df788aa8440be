use Rattle.std.proofs.Common.{ℕ, List, [], Option, Some, None, Result, Ok, Err, IfSome, OnErr, sym, subst, refl, ◌∙◌}
use Rattle.std.proofs.lemmas.List.{append-nil}
use Rattle.std.proofs.lemmas.Result.{err_from_is_err_and}
use Rattle.std.specs.Io.KnownBytes.{Appends, Consumes}
use Rattle.line_loop.specs.Run.{Run, IsBeginning, IsPart, run_of}
use Rattle.endpoint_engine.specs.Lines.{DeviceLines, endpoint_responses, out_endpoint}
use Rattle.endpoint_engine.proofs.lines.run_endpoint.Goals as goal

-- nothing read and nothing written
nothing-done : {S : Type 0} (run : List ℕ → Run S) (u w : Option (List ℕ)) → IsPart run u u w w
nothing-done run u w = record {
  read = [];
  done = [];
  consumed = consumes u;
  written = appends w;
  begins = ((run []).text, refl);
  begins_all = all u;
}
  where
    consumes : (u : Option (List ℕ)) → Consumes u u []
    consumes None = tt
    consumes (Some xs) = refl

    appends : (w : Option (List ℕ)) → Appends w w []
    appends None = tt
    appends (Some xs) = sym (append-nil xs)

    all : (u : Option (List ℕ)) → IfSome u (λ input. IsBeginning [] (run input).text)
    all None = tt
    all (Some input) = ((run input).text, refl)

on_err : {T E P : Type 0} (r : Result T E) → P → OnErr r P
on_err (Ok x) p = tt
on_err (Err e) p = p

pub returns-in_err-device-clause-err : goal.returns-in_err-device-clause-err
returns-in_err-device-clause-err g c =
    on_err c.from_residual.result (nothing-done (out_endpoint c.args.options.setup c.args.options.is_traced) (g.R.Read.remaining c.args.reader.now) (g.W.Write.contents c.args.writer.now))

pub returns-in_err-device-clause-read : goal.returns-in_err-device-clause-read
returns-in_err-device-clause-read g c =
    let p = err_from_is_err_and c.from_residual.result c.from_residual.ensures.1 in
    rw (p.1, p.2) (λ is. absurd (cc is))

pub returns-clause-err : goal.returns-clause-err
returns-clause-err g c =
    subst (λ (u : DeviceLines). OnErr c.run.result (IsPart (run_of endpoint_responses u) (g.R.Read.remaining c.args.reader.now) (g.R.Read.remaining c.run.new.reader) (g.W.Write.contents c.args.writer.now) (g.W.Write.contents c.run.new.writer)))
    (c.new-reasoned.ensures ∙ c.in_ok-device.ensures) c.run.ensures.err
