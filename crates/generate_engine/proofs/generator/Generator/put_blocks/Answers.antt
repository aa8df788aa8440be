use Rattle.std.proofs.Common.{◌∙◌, ◌+◌, ◌*◌, ◌++◌, [], ℕ, List, refl, sym, ap, subst, append_assoc, arith}
use Rattle.std.proofs.lemmas.List.{append-nil}
use Rattle.generate_engine.specs.Script.{BeginsScript}
use Rattle.generate_engine.proofs.Scripts.{script-same, begins-more, Appends-none, Appends-then, on_err}
use Rattle.generate_engine.proofs.generator.Generator.put_blocks.Goals as goal

pub loop-block-init : goal.loop-block-init
loop-block-init g c = (
  [],
  Appends-none _,
  λ storm n written u.
      let pending = c.args.self.now.pending.items in
      script-same storm n (n + 0) (written ++ pending) ((written ++ []) ++ pending) c.args.self.now.fabric c.args.self.now.chooser u (omega arith) (ap (λ (t : List ℕ). t ++ pending) (append-nil written)),
)

pub loop-block-preserved : goal.loop-block-preserved
loop-block-preserved g c =
    let h = c.loop-block.invariant in
    let k = c.in_ok-advance.ensures.ok in
    let new = c.advance.new.self in (
      h.0 ++ k.0,
      Appends-then _ _ _ h.0 k.0 h.1 k.1,
      λ storm n written u.
          let count = n + c.loop-block._block * 256 in
          script-same storm (count + 256) (n + (c.loop-block._block + 1) * 256) ((written ++ h.0) ++ k.0) ((written ++ (h.0 ++ k.0)) ++ new.pending.items) new.fabric new.chooser
          (k.2 storm count (written ++ h.0) (h.2 storm n written u)) (omega arith)
          (ap (λ (t : List ℕ). (written ++ (h.0 ++ k.0)) ++ t) c.in_ok-advance.ensures.pending ∙ append-nil (written ++ (h.0 ++ k.0)) ∙ sym (append_assoc written h.0 k.0)),
    )

pub returns-in_err-advance-clause-err : goal.returns-in_err-advance-clause-err
returns-in_err-advance-clause-err g c =
    let h = c.loop-block.invariant in
    let k = c.in_err-advance.ensures.err in
    let below = c.loop-block-test.true in
    on_err c.from_residual.result (
      h.0 ++ k.0,
      Appends-then _ _ _ h.0 k.0 h.1 k.1,
      λ storm n written u.
          let count = n + c.loop-block._block * 256 in
          begins-more storm (count + 256) (n + c.args.count * 256) (written ++ (h.0 ++ k.0)) (omega arith)
          (subst (BeginsScript storm (count + 256)) (append_assoc written h.0 k.0) (k.2 storm count (written ++ h.0) (h.2 storm n written u))),
    )

pub returns-clause-ok : goal.returns-clause-ok
returns-clause-ok g c =
    let h = c.loop-block.invariant in
    let all = c.loop-block-test.false in
    let few = c.loop-block.auto._block-end in
    let end = c.loop-block.self in (
      h.0,
      h.1,
      λ storm n written u.
          script-same storm (n + c.loop-block._block * 256) (n + c.args.count * 256) ((written ++ h.0) ++ end.pending.items) ((written ++ h.0) ++ end.pending.items) end.fabric end.chooser
          (h.2 storm n written u) (omega arith) refl,
    )
