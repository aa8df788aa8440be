use Rattle.std.proofs.Common.{◌≡◌, ◌∙◌, suc, ◌+◌, ◌-◌, ◌<◌, ◌≤◌, ◌++◌, ◌∷◌, List, ap, sym, arith}
use Rattle.tlp_core.specs.Ops.{Op}
use Rattle.tlp_core.specs.Operation.{address_of}
use Rattle.op_pieces.specs.Pieces.{cut, dw_of, dw_to, front, back}
use Rattle.op_pieces.proofs.CutLemmas.{cut_fits, cut_more, cut_last, one_more}
use Rattle.op_pieces.proofs.cutting.cut.Goals as goal

pub returns-then-dw_of-dw : goal.returns-then-dw_of-dw
returns-then-dw_of-dw c =
    let b = c.args.bytes in
    let rest = c.loop-turn.rest in
    let to : c.dw_to-dw.result ≡ dw_to b (address_of rest) = c.dw_to-dw.ensures.value ∙ ap (dw_to b) c.address.ensures in
    let fits : dw_of rest ≤ dw_to b (address_of rest) = omega (arith, to, c.dw_of.ensures, c.if-dw_of-dw.true) in
    c.in_ok-push.ensures.items
    ∙ sym (ap (λ (xs : List Op). c.loop-turn.pieces.items ++ xs) (cut_fits b (dw_of c.args.op.now - c.loop-turn.turn) rest fits)) ∙ c.loop-turn.invariant.same

pub loop-turn-preserved : goal.loop-turn-preserved
loop-turn-preserved c =
    let b = c.args.bytes in
    let rest = c.loop-turn.rest in
    let xs = c.loop-turn.pieces.items in
    let n = dw_of c.args.op.now - (c.loop-turn.turn + 1) in
    let to : c.dw_to-dw.result ≡ dw_to b (address_of rest) = c.dw_to-dw.ensures.value ∙ ap (dw_to b) c.address.ensures in
    let less : dw_to b (address_of rest) < dw_of rest = omega (arith, to, c.dw_of.ensures, c.if-dw_of-dw.false) in
    let first : c.front.result ≡ front (dw_to b (address_of rest)) rest = c.front.ensures ∙ ap (λ k. front k rest) to in
    let other : c.back-rest.result ≡ back (dw_to b (address_of rest)) rest = c.back-rest.ensures.value ∙ ap (λ k. back k rest) to in
    let next : suc n ≡ dw_of c.args.op.now - c.loop-turn.turn = omega (arith, c.loop-turn-test.true, c.dw_of-turn-end.ensures, ap dw_of c.again-rest.ensures) in
    record {
      same = ap (λ (ys : List Op). ys ++ cut b n c.back-rest.result) c.in_ok-push-2.ensures.items
          ∙ one_more xs c.front.result (cut b n c.back-rest.result)
          ∙ ap (λ (o : Op). xs ++ o ∷ cut b n c.back-rest.result) first
          ∙ ap (λ (o : Op). xs ++ front (dw_to b (address_of rest)) rest ∷ cut b n o) other
          ∙ ap (λ (ys : List Op). xs ++ ys) (sym (cut_more b n rest less))
          ∙ ap (λ k. xs ++ cut b k rest) next
          ∙ c.loop-turn.invariant.same;
      fits = omega (arith, c.back-rest.ensures.same_end, c.loop-turn.invariant.fits);
    }

pub returns : goal.returns
returns c =
    let b = c.args.bytes in
    let rest = c.loop-turn.rest in
    let over : dw_of c.args.op.now - c.loop-turn.turn ≡ 0 = omega (arith, c.loop-turn-test.false, c.dw_of-turn-end.ensures, ap dw_of c.again-rest.ensures) in
    c.in_ok-push-3.ensures.items
    ∙ sym (ap (λ k. c.loop-turn.pieces.items ++ cut b k rest) over ∙ ap (λ (xs : List Op). c.loop-turn.pieces.items ++ xs) (cut_last b rest))
    ∙ c.loop-turn.invariant.same
