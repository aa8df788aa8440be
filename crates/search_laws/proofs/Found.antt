-- What is answered with status 0 is found.
use Rattle.std.proofs.Common.{ℕ, Bool, List, inl, inr, arith, Ok}
use Rattle.history_words.specs.TraceView.{TraceView}
use Rattle.log_pieces.specs.declared.Granularity.{Granularity}
use Rattle.log_pieces.specs.InPieces.{in_pieces}
use Rattle.search_run.specs.declared.exploring.Bounds.{Bounds}
use Rattle.search_engine.specs.Search.{IsFoundIn, IsAnswerTo}

pub answer_found : (core : Bool) (size : Granularity) (bounds : Bounds) (t : TraceView) (text : List ℕ) → IsAnswerTo core size bounds (Ok t) text 0 → IsFoundIn (in_pieces size t) text 0
answer_found core size bounds t text (inl flawed) = absurd (let e = flawed.tells in omega (arith, e))
answer_found core size bounds t text (inr (formed, inl found)) = found
answer_found core size bounds t text (inr (formed, inr (inl none))) = absurd (let e = none.tells in omega (arith, e))
answer_found core size bounds t text (inr (formed, inr (inr (inl given_up)))) = absurd (let e = given_up.by.tells in omega (arith, e))
answer_found core size bounds t text (inr (formed, inr (inr (inr few)))) = absurd (let e = few.tells in omega (arith, e))
