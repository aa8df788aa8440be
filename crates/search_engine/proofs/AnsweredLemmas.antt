-- What is answered with status 0 is found.
use Rattle.std.proofs.Common.{◌≡◌, ℕ, Bool, List, refl, arith, inl, inr, Result, Ok, Err}
use Rattle.history_words.specs.TraceView.{TraceView}
use Rattle.record_text.specs.declared.fault.ReadFault.{ReadFault}
use Rattle.log_pieces.specs.declared.Granularity.{Granularity}
use Rattle.log_pieces.specs.InPieces.{in_pieces}
use Rattle.search_run.specs.declared.exploring.Bounds.{Bounds}
use Rattle.search_engine.specs.Search.{IsFoundIn, IsAnswerTo}

-- the log that was read, of which that is found
pub record Answered (size : Granularity) (r : Result TraceView ReadFault) (text : List ℕ) : Type 0 where
  pub log : TraceView
  pub read : r ≡ Ok log
  pub found : IsFoundIn (in_pieces size log) text 0

pub answered : (core : Bool) (size : Granularity) (bounds : Bounds) (r : Result TraceView ReadFault) (text : List ℕ) → IsAnswerTo core size bounds r text 0 → Answered size r text
answered core size bounds (Ok t) text (inl flawed) = absurd (let e = flawed.tells in omega (arith, e))
answered core size bounds (Ok t) text (inr (formed, inl found)) = record { log = t; read = refl; found = found }
answered core size bounds (Ok t) text (inr (formed, inr (inl none))) = absurd (let e = none.tells in omega (arith, e))
answered core size bounds (Ok t) text (inr (formed, inr (inr (inl given_up)))) = absurd (let e = given_up.by.tells in omega (arith, e))
answered core size bounds (Ok t) text (inr (formed, inr (inr (inr few)))) = absurd (let e = few.tells in omega (arith, e))
answered core size bounds (Err f) text h = absurd (omega (arith, h.1))
