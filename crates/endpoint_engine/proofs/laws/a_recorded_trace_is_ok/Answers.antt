use Rattle.std.proofs.Common.{◌≡◌, Ok, true}
use Rattle.history_words.specs.Clocks.{IsClocked}
use Rattle.history_words.specs.Trace.{Explains}
use Rattle.config_core.specs.SetupView.{SetupView, is_size}
use Rattle.endpoint_core.specs.EndpointView.{EndpointView}
use Rattle.endpoint_log.specs.LogView.{LogView}
use Rattle.trace_text.specs.Tellable.{IsTellable}
use Rattle.trace_text.specs.Texts.{trace_text}
use Rattle.trace_text.specs.TraceReaderView.{read_of}
use Rattle.endpoint_engine.specs.Recorded.{IsRecorded, IsCounted}
use Rattle.endpoint_engine.proofs.Calls.{by_law}
use Rattle.endpoint_engine.proofs.Telling.{Digits, Facts, tellable}
use Rattle.endpoint_engine.proofs.laws.a_recorded_trace_is_ok.Goals as goal

digits : (c : goal.After-a_clocked_trace_is_ok) → Digits
digits c = let law = c.own_digits_spell_number.ensures in record { decimal_back = law.decimal; hexadecimal_back = law.hexadecimal }

facts : (c : goal.After-a_clocked_trace_is_ok) → Facts
facts c =
    let law = c.an_endpoint_records_block_requests.ensures in
    record { extent = law.memory; submitted = law.submitted; answered = law.answered; acted = law.acted; clocked = c.an_endpoints_trace_is_explained.ensures.clocked }

is_explained : (c : goal.After-a_clocked_trace_is_ok) (s : SetupView) (e : EndpointView) (l : LogView) → is_size s.size ≡ true → IsRecorded s e l → Explains l.claim
is_explained c = by_law (λ l. Explains l.claim) c.an_endpoints_trace_is_explained.ensures.explained

is_clocked : (c : goal.After-a_clocked_trace_is_ok) (s : SetupView) (e : EndpointView) (l : LogView) → is_size s.size ≡ true → IsRecorded s e l → IsClocked l.claim
is_clocked c = by_law (λ l. IsClocked l.claim) c.an_endpoints_trace_is_explained.ensures.clocked

is_tellable : (c : goal.After-a_clocked_trace_is_ok) (s : SetupView) (e : EndpointView) (l : LogView) → is_size s.size ≡ true → IsRecorded s e l → IsCounted l → IsTellable l.claim
is_tellable c = by_law (λ l. IsCounted l → IsTellable l.claim) (λ s cs h bytes few. tellable (digits c) (facts c) s cs h bytes few.0 few.1)

is_read : (c : goal.After-a_clocked_trace_is_ok) (s : SetupView) (e : EndpointView) (l : LogView) → is_size s.size ≡ true → IsRecorded s e l → IsCounted l → read_of (trace_text l.claim) ≡ Ok l.claim
is_read c s e l h i n = c.told_trace_is_read_back.ensures l.claim (is_tellable c s e l h i n)

pub returns : goal.returns
returns c =
    let check = c.a_clocked_trace_is_ok.ensures in
    record {
      explained = is_explained c;
      clocked = is_clocked c;
      tellable = is_tellable c;
      ok = λ s e l h i n. check.ok (trace_text l.claim) l.claim (is_read c s e l h i n) (is_explained c s e l h i) (is_clocked c s e l h i);
      status = λ s e l h i n. check.status (trace_text l.claim) l.claim (is_read c s e l h i n) (is_explained c s e l h i) (is_clocked c s e l h i);
    }
