use Rattle.std.proofs.Common.{◌≡◌, ◌∙◌, ap, ℕ, List, Ok}
use Rattle.history_words.specs.TraceView.{TraceView}
use Rattle.history_words.specs.Claim.{claim_of}
use Rattle.trace_text.specs.TraceReaderView.{read_of}
use Rattle.log_text.specs.Told.{IsToldLog}
use Rattle.search_engine.specs.Search.{IsFoundIn}
use Rattle.search_engine.proofs.TellableLemmas.{found_told}
use Rattle.search_engine.proofs.laws.what_is_found_is_ok.Goals as goal

is_read : (c : goal.After-an_explained_trace_is_ok) → (t : TraceView) (text : List ℕ) (status : ℕ) (found : IsFoundIn t text status)
    → IsToldLog t → read_of text ≡ Ok (claim_of found.trace found.history)
is_read c t text status found tellable =
    ap read_of found.says
    ∙ c.told_trace_is_read_back.ensures (claim_of found.trace found.history) (found_told c.what_is_explained_can_be_told.ensures t text status found tellable)

pub returns : goal.returns
returns c =
    let check = c.an_explained_trace_is_ok.ensures in
    record {
      ok = λ t text status found tellable. check.ok text (claim_of found.trace found.history) (is_read c t text status found tellable) found.explained;
      status = λ t text status found tellable. check.status text (claim_of found.trace found.history) (is_read c t text status found tellable) found.explained;
      clocked = λ t text status found tellable. c.a_clocked_trace_is_ok.ensures.ok text (claim_of found.trace found.history) (is_read c t text status found tellable) found.explained found.clocked;
    }
