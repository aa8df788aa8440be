use Rattle.std.proofs.Common.{◌≡◌, ◌∙◌, ◌-◌, ◌≤◌, ◌∷◌, [], List, length, drop, ap, sym, arith}
use Rattle.std.proofs.lemmas.Bool.Decides.{nat_tests}
use Rattle.seq_memory.specs.Entries.{Reply}
use Rattle.op_pieces.specs.Pieces.{parts}
use Rattle.log_pieces.specs.InPieces.{answers, with_more}
use Rattle.log_pieces.proofs.PieceLemmas.{last_part}
use Rattle.log_pieces.proofs.RowLemmas.{on_ok}
use Rattle.log_pieces.proofs.splitting.put_answers.Goals as goal

pub returns : goal.returns
returns c =
    let ops = c.args.ops.now in
    let some : 1 ≤ length ops = grind (arith, c.if-is_empty.false, c.is_empty.ensures, nat_tests) in
    let at : c.loop-at.at ≡ length ops - 1 = omega (arith, c.loop-at-test.false, c.loop-at.auto.at-end, some) in
    let last : parts (drop c.loop-at.at ops) c.loop-at.rest ≡ c.loop-at.rest ∷ [] = ap (λ k. parts (drop k ops) c.loop-at.rest) at ∙ last_part ops c.loop-at.rest some in
    on_ok c.answered-2.result c.answered-2.ensures.ok (λ grown.
    grown ∙ sym (ap (λ (rs : List Reply). with_more c.loop-at.records (answers c.args.of.requester c.loop-at.number c.args.of.n rs)) last) ∙ c.loop-at.invariant)
