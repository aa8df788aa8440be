-- A log of few answers in place of `none`.
use Rattle.std.proofs.Common.{◌≡◌, ℕ, Bool, true, false, List, refl, inl, inr, Result, Ok, Err}
use Rattle.history_words.specs.TraceView.{TraceView}
use Rattle.record_text.specs.declared.fault.ReadFault.{ReadFault}
use Rattle.log_pieces.specs.declared.Granularity.{Granularity}
use Rattle.search_run.specs.declared.exploring.Bounds.{Bounds}
use Rattle.search_engine.specs.declared.answering.Finding.{Finding}
use Rattle.search_engine.specs.declared.answering.Finding.TheVariants as findings
use Rattle.search_engine.specs.Findings.{IsFinding, IsNoneFinding}
use Rattle.search_engine.specs.Search.{IsAnswerTo, IsUnexplainedText}

-- where the log that was read has no history
pub core_answers : (core : Bool) (size : Granularity) (bounds : Bounds) (r : Result TraceView ReadFault) (f : Finding) (text : List ℕ)
    → IsFinding size bounds r f → IsNoneFinding f → core ≡ true → IsUnexplainedText text → IsAnswerTo core size bounds r text 1
core_answers core size bounds (Ok t) (findings.None seen count pieces) text h none asked few =
    inr (h.0, inr (inr (inr (record { asked = asked; count = count; within = h.1.within; unexplained = h.1.unexplained; says = few; tells = refl }))))
core_answers core size bounds (Ok t) (findings.Found store) text h none asked few = absurd none
core_answers core size bounds (Ok t) (findings.Limit seen ending far pieces) text h none asked few = absurd none
core_answers core size bounds (Ok t) (findings.Flaw seen flaw) text h none asked few = absurd none
core_answers core size bounds (Ok t) (findings.Fault g) text h none asked few = absurd none
core_answers core size bounds (Err f) (findings.None seen count pieces) text h none asked few = absurd h
core_answers core size bounds (Err f) (findings.Found store) text h none asked few = absurd none
core_answers core size bounds (Err f) (findings.Limit seen ending far pieces) text h none asked few = absurd none
core_answers core size bounds (Err f) (findings.Flaw seen flaw) text h none asked few = absurd none
core_answers core size bounds (Err f) (findings.Fault g) text h none asked few = absurd none

-- what is an answer where none is asked for is one
pub plain_answers : (core : Bool) (size : Granularity) (bounds : Bounds) (r : Result TraceView ReadFault) (text : List ℕ) (status : ℕ)
    → IsAnswerTo false size bounds r text status → IsAnswerTo core size bounds r text status
plain_answers core size bounds (Ok t) text status (inl flawed) = inl flawed
plain_answers core size bounds (Ok t) text status (inr (formed, inl found)) = inr (formed, inl found)
plain_answers core size bounds (Ok t) text status (inr (formed, inr (inl none))) = inr (formed, inr (inl none))
plain_answers core size bounds (Ok t) text status (inr (formed, inr (inr (inl given_up)))) = inr (formed, inr (inr (inl given_up)))
plain_answers core size bounds (Ok t) text status (inr (formed, inr (inr (inr few)))) = absurd (no few.asked)
  where
    no : false ≡ true → ⊥
    no e = cc
plain_answers core size bounds (Err f) text status h = h
