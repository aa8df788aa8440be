use Rattle.std.proofs.Common.{◌≡◌, ◌∙◌, ◌++◌, ◌<◌, List, ℕ, [], take, length, refl, ap, sym, subst, arith, Option}
use Rattle.std.proofs.lemmas.List.{append-nil}
use Rattle.std.proofs.lemmas.Result.{IfOk-weaker}
use Rattle.std.specs.Io.KnownBytes.{Appends, Consumes}
use Rattle.line_loop.specs.Run.{Responses, IsCaughtUp, IsPart, run_of}
use Rattle.line_loop.specs.Engine.{Stands, Begins}
use Rattle.line_loop.proofs.KnownLemmas.{Appends-then, Consumes-then, Consumes-kept}
use Rattle.line_loop.proofs.LineLemmas.{on_err, on_err_weaker, stands-begins, stands-caught_up, begins-now, begins-input, begins-end}
use Rattle.line_loop.proofs.engine.run.Goals as goal

-- what was read, and the text that was written, where the engine goes no further
part : {S : Type 0} (r : Responses S) (start : S) (u v w w' : Option (List ℕ)) (done written read : List ℕ) → Consumes u v read → Appends w w' (written ++ done)
    → Begins r start done written read → IsPart (run_of r start) u v w w'
part r start u v w w' done written read x y b = record {
  read = read;
  done = written ++ done;
  consumed = x;
  written = y;
  begins = begins-now r start done written read b;
  begins_all = begins-input r start u v done written read x b;
}

-- nothing was pending
none_pending : {S : Type 0} (r : Responses S) (start state : S) (line pending : List ℕ) (status : ℕ) (written read : List ℕ) → pending ≡ []
    → Stands r start state line pending status written read → Begins r start [] written read
none_pending r start state line pending status written read e s =
    subst (λ (p : List ℕ). Begins r start p written read) e (stands-begins r start state line pending status written read s)

-- the engine stops with nothing pending
stopped : {S : Type 0} (r : Responses S) (start state : S) (line pending : List ℕ) (status : ℕ) (u v w w' : Option (List ℕ)) (written read : List ℕ)
    → Consumes u v read → Appends w w' written → pending ≡ [] → Stands r start state line pending status written read → IsPart (run_of r start) u v w w'
stopped r start state line pending status u v w w' written read x y e s =
    part r start u v w w' [] written read x (subst (λ (t : List ℕ). Appends w w' t) (sym (append-nil written)) y)
    (none_pending r start state line pending status written read e s)

-- nothing more came
no_more : (u v w : Option (List ℕ)) (read came : List ℕ) (n : ℕ) → n ≡ 0 → Consumes u v read → Consumes v w (take n came) → Consumes u w read
no_more u v w read came n zero x y =
    let none : take n came ≡ [] = rw zero refl in
    subst (λ (t : List ℕ). Consumes u w t) (ap (λ (t : List ℕ). read ++ t) none ∙ append-nil read) (Consumes-then u v w read (take n came) x y)

-- reading goes no further
caught_up : {S : Type 0} (r : Responses S) (start state : S) (line pending : List ℕ) (status : ℕ) (u v w w' : Option (List ℕ)) (written read : List ℕ)
    → Consumes u v read → Appends w w' written → pending ≡ [] → Stands r start state line pending status written read → IsCaughtUp r start u v w w'
caught_up r start state line pending status u v w w' written read x y e s = record {
  read = read;
  consumed = x;
  written = subst (λ (t : List ℕ). Appends w w' t) (stands-caught_up r start state line pending status written read s e) y;
}

pub returns-in_default-clause-read : goal.returns-in_default-clause-read
returns-in_default-clause-read g c =
    let h = c.loop.invariant in
    λ is. caught_up g.P.Responder.responses c.args.responder _ _ _ _ _ _ _ _ h.1 h.0 (Consumes-kept _ _ _ h.0 h.2 c.in_default.ensures.bytes) h.3 h.4 h.5

pub returns-clause-read : goal.returns-clause-read
returns-clause-read g c =
    let h = c.loop.invariant in
    λ is. caught_up g.P.Responder.responses c.args.responder _ _ _ _ _ _ _ _ h.1 h.0 h.2 h.3 h.4 h.5

pub returns-in_default-clause-err : goal.returns-in_default-clause-err
returns-in_default-clause-err g c =
    let h = c.loop.invariant in
    stopped g.P.Responder.responses c.args.responder _ _ _ _ _ _ _ _ h.1 h.0 (Consumes-kept _ _ _ h.0 h.2 c.in_default.ensures.bytes) h.3 h.4 h.5

pub returns-clause-err : goal.returns-clause-err
returns-clause-err g c =
    let h = c.loop.invariant in
    stopped g.P.Responder.responses c.args.responder _ _ _ _ _ _ _ _ h.1 h.0 h.2 h.3 h.4 h.5

pub returns-then-count-eq0-clause-ok : goal.returns-then-count-eq0-clause-ok
returns-then-count-eq0-clause-ok g c =
    let h = c.loop.invariant in
    let room : 0 < length c.read.new.buf = omega (arith, c.read.auto.buf, h.6) in
    IfOk-weaker c.close.result _ _ (λ exit k. record {
      read = h.0;
      consumed = no_more _ _ _ h.0 c.read.new.buf c.in-Ok.count c.if-count-eq0.true h.2 c.in-Ok.ensures.bytes.0;
      at_end = c.in-Ok.ensures.bytes.1 c.if-count-eq0.true room;
      written = subst (λ (t : List ℕ). Appends (g.W.Write.contents c.args.writer.now) (g.W.Write.contents c.close.new.writer) t)
          (k.2 c.args.responder h.1 h.0 h.5).1 (Appends-then _ _ _ h.1 k.0 h.3 k.1);
      exit_status = (k.2 c.args.responder h.1 h.0 h.5).0;
    }) c.close.ensures.ok

pub returns-then-count-eq0-clause-err : goal.returns-then-count-eq0-clause-err
returns-then-count-eq0-clause-err g c =
    let r = g.P.Responder.responses in
    let h = c.loop.invariant in
    let room : 0 < length c.read.new.buf = omega (arith, c.read.auto.buf, h.6) in
    let x = no_more _ _ _ h.0 c.read.new.buf c.in-Ok.count c.if-count-eq0.true h.2 c.in-Ok.ensures.bytes.0 in
    on_err_weaker c.close.result (λ k. record {
      read = h.0;
      done = h.1 ++ k.0;
      consumed = x;
      written = Appends-then _ _ _ h.1 k.0 h.3 k.1;
      begins = k.2 c.args.responder h.1 h.0 h.5;
      begins_all = begins-end r c.args.responder _ _ (h.1 ++ k.0) h.0 x (c.in-Ok.ensures.bytes.1 c.if-count-eq0.true room) (k.2 c.args.responder h.1 h.0 h.5);
    }) c.close.ensures.err

pub returns-in_err-advance-clause-err : goal.returns-in_err-advance-clause-err
returns-in_err-advance-clause-err g c =
    let r = g.P.Responder.responses in
    let h = c.loop.invariant in
    let came = take c.in-Ok.count c.read.new.buf in
    let k = c.in_err-advance.ensures.err in
    on_err c.from_residual.result (part r c.args.responder _ _ _ _ k.0 h.1 (h.0 ++ came)
    (Consumes-then _ _ _ h.0 came h.2 c.in-Ok.ensures.bytes.0) (Appends-then _ _ _ h.1 k.0 h.3 k.1) (k.2 c.args.responder h.1 h.0 h.5))

pub loop-preserved : goal.loop-preserved
loop-preserved g c =
    let h = c.loop.invariant in
    let came = take c.in-Ok.count c.read.new.buf in
    let k = c.in_ok-advance.ensures.ok in (
      h.0 ++ came,
      h.1 ++ k.0,
      Consumes-then _ _ _ h.0 came h.2 c.in-Ok.ensures.bytes.0,
      Appends-then _ _ _ h.1 k.0 h.3 k.1,
      c.in_ok-advance.ensures.pending,
      k.2 c.args.responder h.1 h.0 h.5,
      c.read.auto.buf ∙ h.6,
    )
