use Rattle.std.proofs.Common.{◌≡◌, ◌∙◌, ◌++◌, [], ℕ, List, sym, ap, subst, append_assoc, Option, Result, Ok, Err, IfOk, OnOk, OnErr}
use Rattle.std.specs.Io.KnownBytes.{Appends}
use Rattle.line_loop.specs.Run.{IsBeginning}
use Rattle.sweep_engine.specs.declared.options.Sweep.{Sweep}
use Rattle.sweep_engine.specs.Sweep.{Swept, Stands, Begins, IsWhole, IsPart, whole_text, seeds_in}
use Rattle.sweep_engine.proofs.Sweeps.{Appends-then, on_err, stands_first, whole_lines, ends_all}
use Rattle.sweep_engine.proofs.engine.run_sweep.Goals as goal

whole : (o : Sweep) (out mid out' : Option (List ℕ)) (text : List ℕ) (w : Swept) (exit : ℕ) (s : Stands o (seeds_in o) text w) → Appends out mid text → Appends mid out' (whole_text w) → exit ≡ w.status
    → IsWhole o out out' exit
whole o out mid out' text w exit s front back is = record {
  saids = s.saids;
  said = s.said;
  few = s.few;
  all = ends_all o (seeds_in o) text w s;
  written = subst (λ (t : List ℕ). Appends out out' t) (whole_lines o (seeds_in o) text w s) (Appends-then out mid out' text (whole_text w) front back);
  exit_status = is ∙ sym (ap (λ (v : Swept). v.status) s.told);
}

ended : {E : Type 0} (o : Sweep) (out mid out' : Option (List ℕ)) (text : List ℕ) (w : Swept) (r : Result ℕ E) (s : Stands o (seeds_in o) text w) → Appends out mid text
    → IfOk r (λ exit. exit ≡ w.status) → OnOk r (Appends mid out' (whole_text w)) → IfOk r (IsWhole o out out')
ended o out mid out' text w (Ok exit) s front is back = whole o out mid out' text w exit s front back is
ended o out mid out' text w (Err e) s front is back = tt

cut : {E : Type 0} (o : Sweep) (out mid out' : Option (List ℕ)) (text : List ℕ) (w : Swept) (r : Result ℕ E) (s : Stands o (seeds_in o) text w) → Appends out mid text
    → OnErr r ((done : List ℕ) × IsBeginning done (whole_text w) × Appends mid out' done) → OnErr r (IsPart o out out')
cut o out mid out' text w (Ok exit) s front back = tt
cut o out mid out' text w (Err e) s front back = record {
  saids = s.saids;
  said = s.said;
  few = s.few;
  done = text ++ back.0;
  begins = (
    back.1.0,
    sym (whole_lines o (seeds_in o) text w s) ∙ ap (λ (t : List ℕ). text ++ t) back.1.1 ∙ sym (append_assoc text back.0 back.1.0),
  );
  written = Appends-then out mid out' text back.0 front back.2;
}

pub returns-in_err-put_all-clause-part : goal.returns-in_err-put_all-clause-part
returns-in_err-put_all-clause-part g c =
    let o = c.args.sweep.now in
    let k = c.in_err-put_all.ensures.err in
    let b : Begins o (seeds_in o) k.0 = k.2 (subst (λ (w : Swept). Stands o 0 [] w) (sym c.new-sweeper.ensures) (stands_first o)) in
    on_err c.from_residual.result (record { saids = b.saids; said = b.said; few = b.few; done = k.0; begins = b.begins; written = k.1 })

pub returns-clause-ok : goal.returns-clause-ok
returns-clause-ok g c =
    let o = c.args.sweep.now in
    let k = c.in_ok-put_all.ensures.ok in
    ended o _ _ _ k.0 c.put_all.new.self c.end.result (k.2 (subst (λ (w : Swept). Stands o 0 [] w) (sym c.new-sweeper.ensures) (stands_first o))) k.1 c.end.ensures.status c.end.ensures.text

pub returns-clause-part : goal.returns-clause-part
returns-clause-part g c =
    let o = c.args.sweep.now in
    let k = c.in_ok-put_all.ensures.ok in
    cut o _ _ _ k.0 c.put_all.new.self c.end.result (k.2 (subst (λ (w : Swept). Stands o 0 [] w) (sym c.new-sweeper.ensures) (stands_first o))) k.1 c.end.ensures.part
