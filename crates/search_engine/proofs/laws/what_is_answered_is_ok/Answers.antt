use Rattle.std.proofs.Common.{List, ℕ, subst, sym}
use Rattle.log_text.specs.Told.{IsToldLog}
use Rattle.log_pieces.specs.declared.Granularity.TheVariants.{Whole}
use Rattle.log_pieces.specs.InPieces.{in_pieces}
use Rattle.log_text.specs.LogReaderView.{seen_of}
use Rattle.search_engine.proofs.SizeLemmas.{whole_is}
use Rattle.search_engine.proofs.AnsweredLemmas.{Answered, answered}
use Rattle.search_engine.proofs.laws.what_is_answered_is_ok.Goals as goal

told : (c : goal.After-what_is_found_is_ok) → (input text : List ℕ) (a : Answered Whole (seen_of input) text) → IsToldLog (in_pieces Whole a.log)
told c input text a = subst IsToldLog (sym (whole_is a.log)) (c.what_is_seen_can_be_told.ensures input a.log a.read)

pub returns : goal.returns
returns c =
    let law = c.what_is_found_is_ok.ensures in
    record {
      ok = λ core bounds input text answer. let a = answered core Whole bounds (seen_of input) text answer in law.ok (in_pieces Whole a.log) text 0 a.found (told c input text a);
      status = λ core bounds input text answer. let a = answered core Whole bounds (seen_of input) text answer in law.status (in_pieces Whole a.log) text 0 a.found (told c input text a);
      clocked = λ core bounds input text answer. let a = answered core Whole bounds (seen_of input) text answer in law.clocked (in_pieces Whole a.log) text 0 a.found (told c input text a);
    }
