use Rattle.std.proofs.Common.{◌≡◌, ◌∙◌, ℕ, length, sym, ap, Some}
use Rattle.std.specs.Borrow.{Bor}
use Rattle.std.specs.Prelude.{Option, option_map, slice_get}
use Rattle.tlp_core.specs.Ops.{Op}
use Rattle.log_pieces.specs.declared.rows.Request.{Request}
use Rattle.log_pieces.specs.Pieces.{pieces}
use Rattle.log_pieces.specs.InPieces.{answers_by}
use Rattle.log_pieces.proofs.EndLemmas.{some_answers}
use Rattle.log_pieces.proofs.counting.count_answer.Goals as goal

pub returns-in-Some : goal.returns-in-Some
returns-in-Some c =
    let p = pieces c.args.cut.now.bytes c.args.cut.now.extent in
    let request = c.in-Some.request.now in
    let there : slice_get c.args.row.now.requests c.args.number ≡ Some (request.number, request.op) =
    sym c.request.ensures ∙ ap (option_map (λ (r : Bor Request). (r.now.number, r.now.op))) c.in-Some.is in
    λ i next n reply.
    c.count.ensures ∙ sym (some_answers p request.number request.op i next n reply) ∙ ap (λ (o : Option (ℕ × Op)). length (answers_by p o i next n reply)) (sym there)
