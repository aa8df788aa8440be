-- What `upgrade` writes while it reads is the text of what was read.
use Rattle.std.proofs.Common.{◌≡◌, ◌∙◌, ℕ, Bool, true, false, List, [], ◌∷◌, length, refl, sym, ap, subst, fold, cond, Option, Some, None, Result, Ok, Err}
use Rattle.std.specs.Prelude.{nat_lt, IfSome, OnErr}
use Rattle.std.specs.Io.KnownBytes.{Appends}
use Rattle.history_words.specs.Claim.{Claim}
use Rattle.hex_text.specs.Lines.{lines_of, bare, said}
use Rattle.line_loop.specs.Run.{Run, with_answer, new_run, run_of, IsBeginning, IsWhole, IsPart}
use Rattle.line_loop.specs.Run.{after_line as run_on}
use Rattle.record_text.specs.declared.fault.ReadFault.{ReadFault}
use Rattle.trace_text.specs.TraceReaderView.{TraceReaderView, nothing_read, after_line, after_long_line, take_line, at_end}
use Rattle.trace_text.specs.TraceRewriterView.{TraceRewriterView, nothing_rewritten, after_long_line as rewritten_long_line, text_at_end}
use Rattle.trace_text.specs.TraceRewriterView.{after_line as rewritten_line}
use Rattle.trace_text.specs.Rewritten.{rewrite_line, text_of, RewritingIsReading}
use Rattle.trace_engine.specs.Check.{is_read}
use Rattle.trace_engine.specs.Upgrade.{upgraded, upgrade_responses, out_upgrade}
use Rattle.trace_engine.specs.Rewriter.{goes_on, told, rewriter_responses}

-- ---- nothing is written before the end

read_one : (t : Bool) (s : TraceReaderView) (line : List ℕ) → with_answer (new_run s) (cond t (is_read (after_long_line s)) (is_read (after_line s line))) ≡ new_run (cond t (after_long_line s) (after_line s line))
read_one true s line = refl
read_one false s line = refl

read_all : (ls : List (List ℕ)) (s : TraceReaderView) → fold (run_on upgrade_responses) (new_run s) ls ≡ new_run (fold take_line s ls)
read_all [] s = refl
read_all (l ∷ ls) s =
    ap (λ (r : Run TraceReaderView). fold (run_on upgrade_responses) r ls) (read_one (nat_lt 512 (length (bare l))) s (said l))
    ∙ read_all ls (take_line s l)

write_one : (t : Bool) (w : TraceRewriterView) (line : List ℕ) → with_answer (new_run w) (cond t (goes_on (rewritten_long_line w)) (goes_on (rewritten_line w line))) ≡ new_run (cond t (rewritten_long_line w) (rewritten_line w line))
write_one true w line = refl
write_one false w line = refl

write_all : (ls : List (List ℕ)) (w : TraceRewriterView) → fold (run_on rewriter_responses) (new_run w) ls ≡ new_run (fold rewrite_line w ls)
write_all [] w = refl
write_all (l ∷ ls) w =
    ap (λ (r : Run TraceRewriterView). fold (run_on rewriter_responses) r ls) (write_one (nat_lt 512 (length (bare l))) w (said l))
    ∙ write_all ls (rewrite_line w l)

-- ---- the end

-- what is told of a text or a fault, where nothing was written
abbrev end_of_writing : Result (List ℕ) ReadFault → Run TraceRewriterView
end_of_writing r = with_answer (new_run nothing_rewritten) (told r)

abbrev end_of_reading : Result Claim ReadFault → Run TraceReaderView
end_of_reading r = with_answer (new_run nothing_read) (upgraded r)

same_text : (r : Result Claim ReadFault) → (end_of_writing (text_of r)).text ≡ (end_of_reading r).text
same_text (Ok c) = refl
same_text (Err f) = refl

same_status : (r : Result Claim ReadFault) → (end_of_writing (text_of r)).status ≡ (end_of_reading r).status
same_status (Ok c) = refl
same_status (Err f) = refl

-- the whole run of the responder
abbrev pub rewriter_run : List ℕ → Run TraceRewriterView
rewriter_run = run_of rewriter_responses nothing_rewritten

abbrev ended_writing : Run TraceRewriterView → Run TraceRewriterView
ended_writing run = with_answer run (told (text_at_end run.state))

abbrev ended_reading : Run TraceReaderView → Run TraceReaderView
ended_reading run = with_answer run (upgraded (at_end run.state))

pub text-is : RewritingIsReading → (input : List ℕ) → (rewriter_run input).text ≡ (out_upgrade input).text
text-is law input =
    ap (λ (r : Run TraceRewriterView). (ended_writing r).text) (write_all (lines_of input) nothing_rewritten)
    ∙ ap (λ (r : Result (List ℕ) ReadFault). (end_of_writing r).text) (law (lines_of input))
    ∙ same_text (at_end (fold take_line nothing_read (lines_of input)))
    ∙ sym (ap (λ (r : Run TraceReaderView). (ended_reading r).text) (read_all (lines_of input) nothing_read))

pub status-is : RewritingIsReading → (input : List ℕ) → (rewriter_run input).status ≡ (out_upgrade input).status
status-is law input =
    ap (λ (r : Run TraceRewriterView). (ended_writing r).status) (write_all (lines_of input) nothing_rewritten)
    ∙ ap (λ (r : Result (List ℕ) ReadFault). (end_of_writing r).status) (law (lines_of input))
    ∙ same_status (at_end (fold take_line nothing_read (lines_of input)))
    ∙ sym (ap (λ (r : Run TraceReaderView). (ended_reading r).status) (read_all (lines_of input) nothing_read))

-- ---- what a run says of its output, moved from one to the other

pub whole : RewritingIsReading → (w : TraceRewriterView) → w ≡ nothing_rewritten → {input rest out out' : Option (List ℕ)} {exit : ℕ}
    → IsWhole (run_of rewriter_responses w) input rest out out' exit → IsWhole out_upgrade input rest out out' exit
whole law w is {input} {rest} {out} {out'} {exit} h =
    let h : IsWhole rewriter_run input rest out out' exit = subst (λ (w : TraceRewriterView). IsWhole (run_of rewriter_responses w) input rest out out' exit) is h in
    record {
      read = h.read;
      consumed = h.consumed;
      at_end = h.at_end;
      written = subst (λ (text : List ℕ). Appends out out' text) (text-is law h.read) h.written;
      exit_status = h.exit_status ∙ status-is law h.read;
    }

pub part : RewritingIsReading → (w : TraceRewriterView) → w ≡ nothing_rewritten → {input rest out out' : Option (List ℕ)}
    → IsPart (run_of rewriter_responses w) input rest out out' → IsPart out_upgrade input rest out out'
part law w is {input} {rest} {out} {out'} h =
    let h : IsPart rewriter_run input rest out out' = subst (λ (w : TraceRewriterView). IsPart (run_of rewriter_responses w) input rest out out') is h in
    record {
      read = h.read;
      done = h.done;
      consumed = h.consumed;
      written = h.written;
      begins = subst (λ (text : List ℕ). IsBeginning h.done text) (text-is law h.read) h.begins;
      begins_all = all h.done input h.begins_all;
    }
  where
    all : (done : List ℕ) (input : Option (List ℕ)) → IfSome input (λ all. IsBeginning done (rewriter_run all).text) → IfSome input (λ all. IsBeginning done (out_upgrade all).text)
    all done None h = tt
    all done (Some input) h = subst (λ (text : List ℕ). IsBeginning done text) (text-is law input) h

pub OnErr-weaker : {T E P Q : Type 0} (r : Result T E) → (P → Q) → OnErr r P → OnErr r Q
OnErr-weaker (Ok x) go h = tt
OnErr-weaker (Err e) go h = go h
