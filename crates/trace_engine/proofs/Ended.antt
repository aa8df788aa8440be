-- A check that ends early has written the beginning of its output.
use Rattle.std.proofs.Common.{ℕ, ◌≡◌, Bool, true, false, List, Option, subst}
use Rattle.line_loop.specs.Run.{IsPart, run_of}
use Rattle.trace_text.specs.TraceReaderView.{TraceReaderView, nothing_read}
use Rattle.trace_engine.specs.Check.{check_responses, clocked_responses, out_check_with}

pub part_clocked : (is_clocked : Bool) (s : TraceReaderView) (input rest out out' : Option (List ℕ)) → is_clocked ≡ true → s ≡ nothing_read → IsPart (run_of clocked_responses s) input rest out out' → IsPart (out_check_with is_clocked) input rest out out'
part_clocked is_clocked s input rest out out' e1 e2 h = rw e1 (subst (λ s. IsPart (run_of clocked_responses s) input rest out out') e2 h)

pub part_plain : (is_clocked : Bool) (s : TraceReaderView) (input rest out out' : Option (List ℕ)) → is_clocked ≡ false → s ≡ nothing_read → IsPart (run_of check_responses s) input rest out out' → IsPart (out_check_with is_clocked) input rest out out'
part_plain is_clocked s input rest out out' e1 e2 h = rw e1 (subst (λ s. IsPart (run_of check_responses s) input rest out out') e2 h)
