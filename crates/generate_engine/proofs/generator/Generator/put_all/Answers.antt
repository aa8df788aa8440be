use Rattle.std.proofs.Common.{◌≡◌, ◌+◌, ◌*◌, ◌/◌, ◌%◌, ◌≤◌, ◌++◌, [], ℕ, refl, arith, OnOk, OnErr, Result, Ok, Err}
use Rattle.generate_engine.proofs.Scripts.{script-same, begins-more, Appends-then, on_err}
use Rattle.generate_engine.proofs.generator.Generator.put_all.Goals as goal

-- whole blocks, and what is left
divided : (n : ℕ) → n ≡ (0 + n / 256 * 256) + n % 256
divided n = omega arith

whole : (n : ℕ) → 0 + n / 256 * 256 ≤ n
whole n = omega arith

weaker_ok : {T E P Q : Type 0} (r : Result T E) → (P → Q) → OnOk r P → OnOk r Q
weaker_ok (Ok x) f p = f p
weaker_ok (Err e) f p = tt

weaker_err : {T E P Q : Type 0} (r : Result T E) → (P → Q) → OnErr r P → OnErr r Q
weaker_err (Ok x) f p = tt
weaker_err (Err e) f p = f p

pub returns-in_err-put_blocks-clause-err : goal.returns-in_err-put_blocks-clause-err
returns-in_err-put_blocks-clause-err g c =
    let n = c.args.count in
    let k = c.in_err-put_blocks.ensures.err in
    on_err c.from_residual.result (k.0, k.1, λ storm u. begins-more storm (0 + n / 256 * 256) n k.0 (whole n) (k.2 storm 0 [] u))

pub returns-clause-ok : goal.returns-clause-ok
returns-clause-ok g c =
    let n = c.args.count in
    let b = c.in_ok-put_blocks.ensures.ok in
    weaker_ok c.advance.result (λ a. (
      b.0 ++ a.0,
      Appends-then _ _ _ b.0 a.0 b.1 a.1,
      λ storm u.
          script-same storm ((0 + n / 256 * 256) + n % 256) n (b.0 ++ a.0) (b.0 ++ a.0) c.advance.new.self.fabric c.advance.new.self.chooser
          (a.2 storm (0 + n / 256 * 256) b.0 (b.2 storm 0 [] u)) (divided n) refl,
    )) c.advance.ensures.ok

pub returns-clause-err : goal.returns-clause-err
returns-clause-err g c =
    let n = c.args.count in
    let b = c.in_ok-put_blocks.ensures.ok in
    weaker_err c.advance.result (λ k. (
      b.0 ++ k.0,
      Appends-then _ _ _ b.0 k.0 b.1 k.1,
      λ storm u.
          begins-more storm ((0 + n / 256 * 256) + n % 256) n (b.0 ++ k.0) (let e = divided n in omega (arith, e))
          (k.2 storm (0 + n / 256 * 256) b.0 (b.2 storm 0 [] u)),
    )) c.advance.ensures.err
