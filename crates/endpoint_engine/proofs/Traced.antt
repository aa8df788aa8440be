-- What is recorded of a device that is asked line by line.
use Rattle.std.proofs.Common.{◌≡◌, ◌∙◌, ℕ, Bool, true, false, cond, List, [], ◌∷◌, Option, Some, None, option_map, Result, Ok, Err, refl, sym, ap, subst}
use Rattle.std.specs.Prelude.{fold, codes, IsSome, bytes_eq, drop, nat_lt, length}
use Rattle.hex.specs.Hex.{decode_of}
use Rattle.hex.specs.declared.error.FromHexError.{FromHexError}
use Rattle.hex.proofs.HexLemmas.{decode_of-ok}
use Rattle.tlp_core.specs.Bits.{IsBytes}
use Rattle.config_core.specs.SetupView.{SetupView}
use Rattle.endpoint_core.specs.Runs.{Call, Take, Act, Reset, after_call}
use Rattle.endpoint_log.specs.LogView.{LogView}
use Rattle.endpoint_log.specs.Steps.{new_log}
use Rattle.endpoint_laws.specs.Runs.{logged, AreBytes}
use Rattle.hex_text.specs.Line.{digits_of}
use Rattle.hex_text.specs.Lines.{lines_of, bare, said, is_skipped}
use Rattle.line_loop.specs.Run.{Answer, Run, after_line, answer_to, new_run}
use Rattle.trace_text.specs.Texts.{trace_text}
use Rattle.endpoint_engine.specs.Recorded.{IsRecorded}
use Rattle.endpoint_engine.specs.Traces.{asked, trace_after}
use Rattle.endpoint_engine.specs.Lines.{DeviceLines, nothing, no_line, answer_tlp, answer_next, answer_reset, answer_trace, answer_word, answer_line, is_tlp, endpoint_responses, new_device, out_endpoint}
use Rattle.endpoint_engine.proofs.Calls.{first, next}

-- it is traced, and recorded
pub record IsTraced (s : SetupView) (u : DeviceLines) : Type 0 where
  pub recording : LogView
  pub log : u.log ≡ Some recording
  pub is : IsRecorded s u.endpoint recording

abbrev called : DeviceLines → Call → DeviceLines
called u c = record { endpoint = after_call u.endpoint c; log = option_map (λ (l : LogView). logged u.endpoint l c) u.log }

recorded_more : (s : SetupView) (u : DeviceLines) (c : Call) → AreBytes (c ∷ []) → IsTraced s u → IsTraced s (called u c)
recorded_more s u c bytes i = record {
  recording = logged u.endpoint i.recording c;
  log = ap (option_map (λ (l : LogView). logged u.endpoint l c)) i.log;
  is = next s u.endpoint i.recording c i.is bytes;
}

-- ---- one line

tlp_recorded : (s : SetupView) (u : DeviceLines) (r : Result (List ℕ) FromHexError) → ((b : List ℕ) → r ≡ Ok b → IsBytes b) → IsTraced s u → IsTraced s (answer_tlp u r).state
tlp_recorded s u (Err e) bytes i = i
tlp_recorded s u (Ok b) bytes i = recorded_more s u (Take b) (bytes b refl, tt) i

trace_recorded : (s : SetupView) (u : DeviceLines) (o : Option LogView) → IsTraced s u → IsTraced s (answer_trace u o).state
trace_recorded s u None i = i
trace_recorded s u (Some l) i = i

either : (s : SetupView) (b : Bool) (x y : Answer DeviceLines) → IsTraced s x.state → IsTraced s y.state → IsTraced s (cond b x y).state
either s true x y p q = p
either s false x y p q = q

word_recorded : (s : SetupView) (u : DeviceLines) (line : List ℕ) → IsTraced s u → IsTraced s (answer_word u line).state
word_recorded s u line i =
    either s (bytes_eq line (codes "next")) (answer_next u) _ (recorded_more s u Act tt i)
    (either s (bytes_eq line (codes "reset")) (answer_reset u) _ (recorded_more s u Reset tt i)
    (either s (bytes_eq line (codes "trace")) (answer_trace u u.log) (no_line u) (trace_recorded s u u.log i) i))

line_recorded : (s : SetupView) (u : DeviceLines) (line : List ℕ) → IsTraced s u → IsTraced s (answer_line u line).state
line_recorded s u line i =
    let digits = digits_of (drop 4 line) in
    either s (is_skipped line) (nothing u) _ i
    (either s (is_tlp line) (answer_tlp u (decode_of digits)) (answer_word u line) (tlp_recorded s u (decode_of digits) (λ b e. (decode_of-ok digits b e).3) i) (word_recorded s u line i))

said_recorded : (s : SetupView) (u : DeviceLines) (line : List ℕ) → IsTraced s u → IsTraced s (answer_to endpoint_responses u line).state
said_recorded s u line i = either s (nat_lt 512 (length (bare line))) (no_line u) (answer_line u (said line)) i (line_recorded s u (said line) i)

-- ---- all lines

lines_recorded : (s : SetupView) (lines : List (List ℕ)) (r : Run DeviceLines) → IsTraced s r.state → IsTraced s (fold (after_line endpoint_responses) r lines).state
lines_recorded s [] r i = i
lines_recorded s (line ∷ lines) r i = lines_recorded s lines (after_line endpoint_responses r line) (said_recorded s r.state line i)

pub recorded : (s : SetupView) (input : List ℕ) → IsTraced s (out_endpoint s true input).state
recorded s input =
    lines_recorded s (lines_of input) (new_run (new_device s true)) (record { recording = new_log s; log = refl; is = first s })

-- ---- what is told

some_is : {X : Type 0} (x y : X) → Some x ≡ Some y → x ≡ y
some_is x y e = cc

-- what is recorded then
pub recorded_as : (s : SetupView) (input : List ℕ) (l : LogView) → (asked s input).log ≡ Some l → IsRecorded s (asked s input).endpoint l
recorded_as s input l e =
    let i : IsTraced s (asked s input) = recorded s input in
    subst (IsRecorded s (asked s input).endpoint) (some_is i.recording l (sym i.log ∙ e)) i.is

is_some_by : {X : Type 0} (o : Option X) (x : X) → o ≡ Some x → IsSome o
is_some_by None x e = absurd (cc)
is_some_by (Some y) x e = refl

pub is_traced : (s : SetupView) (input : List ℕ) → IsSome (asked s input).log
is_traced s input = let i : IsTraced s (asked s input) = recorded s input in is_some_by (asked s input).log i.recording i.log

pub told_after : (s : SetupView) (input : List ℕ) (l : LogView) → (asked s input).log ≡ Some l → trace_after s input ≡ trace_text l.claim
told_after s input l e = ap (λ (o : Option LogView). (answer_trace (asked s input) o).text) e
