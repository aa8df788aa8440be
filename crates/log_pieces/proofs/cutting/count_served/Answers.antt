use Rattle.std.proofs.Common.{◌≡◌, ◌∙◌, ℕ, suc, ◌+◌, ◌-◌, ◌<◌, ◌≤◌, Option, Some, None, true, false, ap, sym, arith}
use Rattle.tlp_core.specs.Ops.{Op}
use Rattle.std.specs.Prelude.{if◌then◌else◌}
use Rattle.tlp_core.specs.Operation.{address_of, count_of}
use Rattle.op_pieces.specs.Pieces.{cut, dw_of, dw_to, front, back, is_served}
use Rattle.log_pieces.specs.Pieces.{count_if_served}
use Rattle.log_pieces.proofs.CountLemmas.{more, more_zero, last_counted, end_counted, next_counted, none_counted, more_more, more_if}
use Rattle.log_pieces.proofs.cutting.count_served.Goals as goal

pub loop-turn-init : goal.loop-turn-init
loop-turn-init c =
    let x = c.args.extent in
    let b = c.args.bytes in
    let op = c.args.op.now in
    let all : dw_of op - 0 ≡ dw_of op = omega arith in
    record {
      same = more_zero (count_if_served x (cut b (dw_of op - 0) c.again-rest.result))
          ∙ ap (λ k. count_if_served x (cut b k c.again-rest.result)) all
          ∙ ap (λ (o : Op). count_if_served x (cut b (dw_of op) o)) c.again-rest.ensures;
      fits = omega (arith, c.requires.fits, ap address_of c.again-rest.ensures, ap count_of c.again-rest.ensures);
    }

pub returns-then-dw_of-dw : goal.returns-then-dw_of-dw
returns-then-dw_of-dw c =
    let x = c.args.extent in
    let b = c.args.bytes in
    let rest = c.loop-turn.rest in
    let n = dw_of c.args.op.now - c.loop-turn.turn in
    let to : c.dw_to-dw.result ≡ dw_to b (address_of rest) = c.dw_to-dw.ensures.value ∙ ap (dw_to b) c.address.ensures in
    let fits : dw_of rest ≤ dw_to b (address_of rest) = omega (arith, to, c.dw_of.ensures, c.if-dw_of-dw.true) in
    c.with_last.ensures ∙ sym (more_if c.loop-turn.turn (is_served x rest)) ∙ sym (ap (more c.loop-turn.turn) (last_counted x b n rest fits)) ∙ c.loop-turn.invariant.same

pub returns-then-not-is_served : goal.returns-then-not-is_served
returns-then-not-is_served c =
    let x = c.args.extent in
    let b = c.args.bytes in
    let rest = c.loop-turn.rest in
    let n = dw_of c.args.op.now - (c.loop-turn.turn + 1) in
    let to : c.dw_to-dw.result ≡ dw_to b (address_of rest) = c.dw_to-dw.ensures.value ∙ ap (dw_to b) c.address.ensures in
    let less : dw_to b (address_of rest) < dw_of rest = omega (arith, to, c.dw_of.ensures, c.if-dw_of-dw.false) in
    let next : suc n ≡ dw_of c.args.op.now - c.loop-turn.turn = omega (arith, c.loop-turn-test.true, c.dw_of-all.ensures, ap dw_of c.again-rest.ensures) in
    let refused : is_served x (front (dw_to b (address_of rest)) rest) ≡ false =
    sym (ap (is_served x) (c.front.ensures ∙ ap (λ k. front k rest) to)) ∙ sym c.is_served.ensures.value ∙ c.if-not-is_served.true in
    sym (ap (more c.loop-turn.turn) (sym (ap (λ k. count_if_served x (cut b k rest)) next) ∙ none_counted x b n rest less refused)) ∙ c.loop-turn.invariant.same

pub loop-turn-preserved : goal.loop-turn-preserved
loop-turn-preserved c =
    let x = c.args.extent in
    let b = c.args.bytes in
    let rest = c.loop-turn.rest in
    let turn = c.loop-turn.turn in
    let n = dw_of c.args.op.now - (turn + 1) in
    let to : c.dw_to-dw.result ≡ dw_to b (address_of rest) = c.dw_to-dw.ensures.value ∙ ap (dw_to b) c.address.ensures in
    let less : dw_to b (address_of rest) < dw_of rest = omega (arith, to, c.dw_of.ensures, c.if-dw_of-dw.false) in
    let next : suc n ≡ dw_of c.args.op.now - turn = omega (arith, c.loop-turn-test.true, c.dw_of-all.ensures, ap dw_of c.again-rest.ensures) in
    let other : c.back-rest.result ≡ back (dw_to b (address_of rest)) rest = c.back-rest.ensures.value ∙ ap (λ k. back k rest) to in
    let served : is_served x (front (dw_to b (address_of rest)) rest) ≡ true =
    sym (ap (is_served x) (c.front.ensures ∙ ap (λ k. front k rest) to)) ∙ sym c.is_served.ensures.value ∙ c.if-not-is_served.false in
    record {
      same = sym (more_more turn (count_if_served x (cut b n c.back-rest.result)))
          ∙ ap (λ (o : Op). more turn (more 1 (count_if_served x (cut b n o)))) other
          ∙ sym (ap (more turn) (next_counted x b n rest less served))
          ∙ ap (λ k. more turn (count_if_served x (cut b k rest))) next
          ∙ c.loop-turn.invariant.same;
      fits = omega (arith, c.back-rest.ensures.same_end, c.loop-turn.invariant.fits);
    }

pub returns : goal.returns
returns c =
    let x = c.args.extent in
    let b = c.args.bytes in
    let rest = c.loop-turn.rest in
    let turn = c.loop-turn.turn in
    let over : dw_of c.args.op.now - turn ≡ 0 = omega (arith, c.loop-turn-test.false, c.dw_of-all.ensures, ap dw_of c.again-rest.ensures) in
    let end : c.dw_of-all.result ≡ turn = omega (arith, c.loop-turn.auto.turn-end, c.loop-turn-test.false) in
    c.with_last-2.ensures
    ∙ ap (λ (k : ℕ). if◌then◌else◌ {A = Option ℕ} (is_served x rest) (Some (k + 1)) None) end
    ∙ sym (more_if turn (is_served x rest))
    ∙ sym (ap (more turn) (ap (λ k. count_if_served x (cut b k rest)) over ∙ end_counted x b rest))
    ∙ c.loop-turn.invariant.same
