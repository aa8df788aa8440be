-- What is written is read as a script.
use Rattle.std.proofs.Common.{◌≡◌, ◌≢◌, ℕ, ◌-◌, true, false, List, [], ◌∷◌, ◌++◌, length, get_or, refl, ap, ◌∙◌, arith, All, map, Option, Some}
use Rattle.std.specs.Prelude.{◌==◌, nat_lt}
use Rattle.std.specs.Io.BufRead.{strip_last, ends_with_byte}
use Rattle.std.proofs.lemmas.Bool.{ne_eqb}
use Rattle.std.proofs.lemmas.Bool.Decides.{nat_tests}
use Rattle.std.proofs.lemmas.Grind.{common_steps}
use Rattle.std.proofs.lemmas.List.Elements.{All-head, All-drop, All-get_or}
use Rattle.fabric_core.specs.declared.config.Config.{Config}
use Rattle.fabric_steps.specs.Event.{Event}
use Rattle.fabric_core.specs.Config.{IsConfig}
use Rattle.operation_text.specs.Texts.{IsPrinted, IsPrintedChar}
use Rattle.trace_text.specs.Texts.{lines_text}
use Rattle.hex_text.specs.Lines.{lines_of, bare}
use Rattle.script_text.specs.declared.line.Line.{Line}
use Rattle.script_text.specs.declared.line.Line.TheVariants as lines
use Rattle.script_text.specs.LineTexts.{event_line, fabric_line}
use Rattle.script_text.specs.Spelled.{IsSpelledEvent, IsLineOf}
use Rattle.step_engine.specs.Script.{script_of, IsScript}
use Rattle.step_engine.specs.Script.{event_line as event_of}
use Rattle.generate_engine.specs.Script.{text_of}

-- ---- lines

other : (b : ℕ) → b ≢ 10 → (b == 10) ≡ false
other b ne = ne_eqb b 10 ne

no-feed : (b : ℕ) → IsPrintedChar b → b ≢ 10
no-feed b h e = omega (arith, h.0, e)

-- a line feed ends a printed line
lines_of-feed : (xs more : List ℕ) → IsPrinted xs → lines_of (xs ++ 10 ∷ more) ≡ (xs ++ 10 ∷ []) ∷ lines_of more
unfolding lines_of
lines_of-feed [] more h = refl
lines_of-feed (x ∷ xs) more h =
    let test : (x == 10) ≡ false = other x (no-feed x (All-head IsPrintedChar x xs h)) in
    rw (test, lines_of-feed xs more (All-drop IsPrintedChar 1 (x ∷ xs) h)) refl

lines_of-none : lines_of [] ≡ []
unfolding lines_of
lines_of-none = refl

ends-feed : (xs : List ℕ) → ends_with_byte 10 (xs ++ 10 ∷ []) ≡ true
ends-feed xs = grind (arith, common_steps, nat_tests)

bare-feed : (xs : List ℕ) → bare (xs ++ 10 ∷ []) ≡ xs
bare-feed xs = rw (ends-feed xs) (grind (arith, common_steps))

-- no carriage return ends it
no_return : (line : List ℕ) → IsPrinted line → strip_last 13 line ≡ line
no_return [] h = refl
no_return (c ∷ cs) h =
    let last = All-get_or IsPrintedChar (c ∷ cs) (length (c ∷ cs) - 1) 0 (omega arith) h in
    let ne : (get_or (c ∷ cs) (length (c ∷ cs) - 1) 0 == 13) ≡ false = ne_eqb (get_or (c ∷ cs) (length (c ∷ cs) - 1) 0) 13 (λ e. omega (arith, last.0, e)) in
    rw ne (grind (arith, nat_tests))

-- one line more
line-read : (text more : List ℕ) (line : Line) → IsLineOf text line → script_of (lines_of (text ++ 10 ∷ more)) ≡ Some line ∷ script_of (lines_of more)
line-read text more line is =
    let short : nat_lt 512 (length text) ≡ false = let fits = is.short in grind (arith, nat_tests) in
    ap script_of (lines_of-feed text more is.printed)
    ∙ rw (bare-feed text, ends-feed text, short, no_return text is.printed, is.kept, is.says) refl

-- ---- scripts

module _ (spells : (event : Event) → IsSpelledEvent event → IsLineOf (event_line event) (lines.Event event)) where
  events-read : (events : List Event) → All IsSpelledEvent events → script_of (lines_of (lines_text (map event_line events))) ≡ map event_of events
  unfolding lines_text
  events-read [] h = ap script_of lines_of-none
  events-read (event ∷ events) h =
      line-read (event_line event) (lines_text (map event_line events)) (lines.Event event) (spells event (All-head IsSpelledEvent event events h))
      ∙ ap (λ (ls : List (Option Line)). event_of event ∷ ls) (events-read events (All-drop IsSpelledEvent 1 (event ∷ events) h))

  pub script-read : ((c : Config) → IsConfig c → IsLineOf (fabric_line c) (lines.Fabric c)) → (c : Config) (events : List Event) → IsConfig c → All IsSpelledEvent events
      → IsScript (text_of c events) c events
  unfolding lines_text
  script-read makes c events is h =
      line-read (fabric_line c) (lines_text (map event_line events)) (lines.Fabric c) (makes c is)
      ∙ ap (λ (ls : List (Option Line)). Some (lines.Fabric c) ∷ ls) (events-read events h)
