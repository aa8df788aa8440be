use Rattle.std.proofs.Common.{◌≡◌, ◌∙◌, Result, Ok, Err, IfOk, true, sym}
use Rattle.std.specs.Prelude.{is_ok}
use Rattle.cli_commands.proofs.files.is_request.Goals as goal

some_ok : {A E : Type 0} (r : Result A E) (P : A → Type 0) → IfOk r P → is_ok r ≡ true → (x : A) × P x
some_ok (Ok x) P p e = (x, p)
some_ok (Err x) P p e = cc

pub returns : goal.returns
returns g c = λ e. some_ok c.options.result _ c.options.ensures.ok (sym c.is_ok.ensures.value ∙ e)
