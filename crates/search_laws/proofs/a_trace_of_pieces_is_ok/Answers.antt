use Rattle.std.proofs.Common.{◌≡◌, ℕ, Bool, List, Result, subst, Ok}
use Rattle.record_text.specs.declared.fault.ReadFault.{ReadFault}
use Rattle.history_words.specs.TraceView.{TraceView}
use Rattle.log_pieces.specs.declared.Granularity.{Granularity}
use Rattle.log_pieces.specs.InPieces.{in_pieces}
use Rattle.log_text.specs.LogReaderView.{seen_of}
use Rattle.search_run.specs.declared.exploring.Bounds.{Bounds}
use Rattle.search_engine.specs.Search.{IsFoundIn, IsAnswerTo, OutSearchFor}
use Rattle.search_laws.proofs.Pieces.{Digits}
use Rattle.search_laws.proofs.Told.{pieces_told}
use Rattle.search_laws.proofs.Found.{answer_found}
use Rattle.search_laws.proofs.a_trace_of_pieces_is_ok.Goals as goal

found : (core : Bool) (size : Granularity) (bounds : Bounds) (input text : List ℕ) (t : TraceView) → seen_of input ≡ Ok t → OutSearchFor core size bounds input text 0 → IsFoundIn (in_pieces size t) text 0
found core size bounds input text t reads answer = answer_found core size bounds t text (subst (λ (r : Result TraceView ReadFault). IsAnswerTo core size bounds r text 0) reads answer)

pub returns : goal.returns
returns c =
    let law = c.what_is_found_is_ok.ensures in
    let told = c.what_is_seen_can_be_told.ensures in
    let d : Digits = let e = c.own_digits_spell_number.ensures in record { range = e.range; decimal_back = e.decimal; hexadecimal_back = e.hexadecimal } in
    record {
      ok = λ core size bounds input text t reads few answer.
          let f = found core size bounds input text t reads answer in
          law.ok (in_pieces size t) text 0 f (pieces_told d size t f.trace f.alike f.explained.numbered (told input t reads) few);
      status = λ core size bounds input text t reads few answer.
          let f = found core size bounds input text t reads answer in
          law.status (in_pieces size t) text 0 f (pieces_told d size t f.trace f.alike f.explained.numbered (told input t reads) few);
      clocked = λ core size bounds input text t reads few answer.
          let f = found core size bounds input text t reads answer in
          law.clocked (in_pieces size t) text 0 f (pieces_told d size t f.trace f.alike f.explained.numbered (told input t reads) few);
    }
