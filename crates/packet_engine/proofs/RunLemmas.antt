-- What `decode` writes of packets is read by `encode`, line by line.
use Rattle.std.proofs.Common.{◌≡◌, ◌≢◌, ◌≤◌, ◌-◌, ℕ, Bool, true, false, List, [], ◌∷◌, ◌++◌, ◌∙◌, ◌==◌, if◌then◌else◌, length, take, get_or, refl, ap, sym, subst, append_assoc, arith, fold, All, nat_lt, inl, inr, Result, Ok, Err}
use Rattle.std.specs.Prelude.{flat_map, not, is_ok}
use Rattle.std.specs.Io.BufRead.{ends_with_byte, strip_last}
use Rattle.std.proofs.lemmas.Bool.{cases_Bool}
use Rattle.std.proofs.lemmas.Bool.Decides.{nat_tests}
use Rattle.std.proofs.lemmas.Grind.{common_steps, flat_map-append}
use Rattle.std.proofs.lemmas.List.{append-nil}
use Rattle.std.proofs.lemmas.List.Elements.{All-nil, All-cons, All-append, All-head, All-drop, All-get_or}
use Rattle.hex.specs.Hex.{decode_of}
use Rattle.hex.proofs.HexLemmas.{decode_of-ok}
use Rattle.hex.specs.declared.error.FromHexError.{FromHexError}
use Rattle.tlp_core.specs.Bits.{IsBytes}
use Rattle.operation_text.specs.Texts.{IsPrinted, IsPrintedChar}
use Rattle.packet_text.specs.declared.packet.Packet.{Packet}
use Rattle.packet_text.specs.declared.fault.BytesFault.{BytesFault}
use Rattle.packet_text.specs.Packets.{IsPacket, reading}
use Rattle.packet_text.specs.Texts.{packet_text, decoded_text}
use Rattle.packet_text.specs.Lines.{BeginsWithLetter}
use Rattle.packet_text.specs.Forms.{text_reading}
use Rattle.hex_text.specs.Line.{digits_of}
use Rattle.hex_text.specs.Lines.{lines_of, bare, said, is_skipped}
use Rattle.hex_text.specs.LineFacts.{ends-feed, bare-feed}
use Rattle.line_loop.specs.Run.{Answer, Run, answer_to, after_line, with_answer, new_run}
use Rattle.packet_engine.specs.Lines.{State, told, nothing, bytes_text, decode_line, decode_bytes, decode_reading, decode_responses, out_decode, encode_line, encode_reading, encode_responses, out_encode}
use Rattle.packet_engine.specs.Runs.{of_reading, of_bytes, of_said, of_line, packets_in, words_lines, bytes_lines}

-- what is known of the texts of packets
pub record Texts : Type 0 where
  pub back : (p : Packet) → IsPacket p → text_reading (packet_text p) ≡ Ok p
  pub of_bytes : (bytes : List ℕ) (p : Packet) → IsBytes bytes → reading bytes ≡ Ok p → IsPacket p
  pub printed : (p : Packet) → IsPacket p → IsPrinted (packet_text p)
  pub short : (p : Packet) → IsPacket p → length (packet_text p) ≤ 400
  pub letter : (p : Packet) → IsPacket p → BeginsWithLetter (packet_text p)

abbrev AllPackets : List Packet → Type 0
AllPackets ps = All IsPacket ps

-- ---- what decode answers

-- an answer without a fault writes the packets of the line
record Decoded (a : Answer State) (ps : List Packet) : Type 0 where
  words : a.text ≡ words_lines ps
  are : AllPackets ps

-- either a fault, or the packets
abbrev Outcome : Answer State → List Packet → Type 0
Outcome a ps = a.is_fault ≡ false → Decoded a ps

of-reading : (T : Texts) (bytes : List ℕ) (r : Result Packet BytesFault) → reading bytes ≡ r → IsBytes bytes → Outcome (decode_reading r) (of_reading r)
of-reading T bytes (Err f) e are fine = absurd (cc fine)
of-reading T bytes (Ok p) e are fine = record { words = sym (append-nil (packet_text p ++ 10 ∷ [])); are = All-cons IsPacket p [] (T.of_bytes bytes p are e) (All-nil IsPacket) }

of-bytes : (T : Texts) (text : List ℕ) (r : Result (List ℕ) FromHexError) → decode_of text ≡ r → Outcome (decode_bytes r) (of_bytes r)
of-bytes T text (Err x) e fine = absurd (cc fine)
of-bytes T text (Ok bytes) e fine = of-reading T bytes (reading bytes) refl (let ok = decode_of-ok text bytes e in ok.3) fine

of-said : (T : Texts) (s : State) (line : List ℕ) → Outcome (decode_line s line) (of_said line)
of-said T s line fine = by (is_skipped line) fine
  where
    by : (skip : Bool) → (if skip then nothing s else decode_bytes (decode_of (digits_of line))).is_fault ≡ false
        → Decoded (if skip then nothing s else decode_bytes (decode_of (digits_of line))) (if skip then [] else of_bytes (decode_of (digits_of line)))
    by true fine = record { words = refl; are = All-nil IsPacket }
    by false fine = of-bytes T (digits_of line) (decode_of (digits_of line)) refl fine

of-line : (T : Texts) (s : State) (line : List ℕ) → Outcome (answer_to decode_responses s line) (of_line line)
of-line T s line fine = elim (cases_Bool (nat_lt 512 (length (bare line)))) [
  | inl long ↦ absurd (let k = rw long at fine in cc k)
  | inr short ↦
      let k = rw short at fine in
      let d = of-said T s (said line) k in
      record { words = rw short d.words; are = rw short d.are }
]

-- ---- runs of decode

-- a run that ends without a fault
record Walked (run end : Run State) (ps : List Packet) : Type 0 where
  start : run.status ≡ 0
  words : end.text ≡ run.text ++ words_lines ps
  are : AllPackets ps

status-of : (run : Run State) (a : Answer State) → (with_answer run a).status ≡ 0 → (run.status ≡ 0) × (a.is_fault ≡ false)
status-of run a e = by a.is_fault e
  where
    by : (b : Bool) → (if b then 1 else run.status) ≡ 0 → (run.status ≡ 0) × (b ≡ false)
    by true e = absurd (omega (arith, e))
    by false e = (e, refl)

words-append : (ps qs : List Packet) → words_lines (ps ++ qs) ≡ words_lines ps ++ words_lines qs
words-append ps qs = flat_map-append (λ p. packet_text p ++ 10 ∷ []) ps qs

walk : (T : Texts) (lines : List (List ℕ)) (run : Run State) → (fold (after_line decode_responses) run lines).status ≡ 0
    → Walked run (fold (after_line decode_responses) run lines) (flat_map of_line lines)
walk T [] run e = record { start = e; words = sym (append-nil run.text); are = All-nil IsPacket }
walk T (line ∷ lines) run e =
    let a = answer_to decode_responses run.state line in
    let next = after_line decode_responses run line in
    let end = fold (after_line decode_responses) next lines in
    let rest = walk T lines next e in
    let both = status-of run a rest.start in
    let d = of-line T run.state line both.1 in
    record {
      start = both.0;
      words = rest.words ∙ ap (λ (t : List ℕ). (run.text ++ t) ++ words_lines (flat_map of_line lines)) d.words
          ∙ append_assoc run.text (words_lines (of_line line)) (words_lines (flat_map of_line lines))
          ∙ ap (λ (t : List ℕ). run.text ++ t) (sym (words-append (of_line line) (flat_map of_line lines)));
      are = All-append IsPacket (of_line line) (flat_map of_line lines) d.are rest.are;
    }

pub decoded-words : (T : Texts) (input : List ℕ) → (out_decode input).status ≡ 0 → ((out_decode input).text ≡ words_lines (packets_in input)) × AllPackets (packets_in input)
decoded-words T input e =
    let w = walk T (lines_of input) (new_run tt) e in
    (append-nil (fold (after_line decode_responses) (new_run tt) (lines_of input)).text ∙ w.words, w.are)

-- ---- lines of words

other : (b x : ℕ) → b ≢ x → (b == x) ≡ false
other b x ne = grind (arith, nat_tests)

-- no line feed and no carriage return is printed
not-feed : (c : ℕ) → IsPrintedChar c → c ≢ 10
not-feed c h e = omega (arith, h.0, e)

not-return : (c : ℕ) → IsPrintedChar c → c ≢ 13
not-return c h e = omega (arith, h.0, e)

lines_of-feed : (xs more : List ℕ) → IsPrinted xs → lines_of (xs ++ 10 ∷ more) ≡ (xs ++ 10 ∷ []) ∷ lines_of more
unfolding lines_of
lines_of-feed [] more h = refl
lines_of-feed (x ∷ xs) more h =
    let test : (x == 10) ≡ false = other x 10 (not-feed x (All-head IsPrintedChar x xs h)) in
    let rest : IsPrinted xs = All-drop IsPrintedChar 1 (x ∷ xs) h in
    rw (test, lines_of-feed xs more rest) refl

no-return : (xs : List ℕ) → IsPrinted xs → strip_last 13 xs ≡ xs
no-return [] h = refl
no-return (x ∷ xs) h =
    let ne : get_or (x ∷ xs) (length (x ∷ xs) - 1) 0 ≢ 13 =
    not-return _ (All-get_or IsPrintedChar (x ∷ xs) (length (x ∷ xs) - 1) 0 (omega arith) h) in
    let test : (get_or (x ∷ xs) (length (x ∷ xs) - 1) 0 == 13) ≡ false = other _ 13 ne in
    let not : ends_with_byte 13 (x ∷ xs) ≡ false = rw test (grind (arith, nat_tests)) in
    rw not refl

said-feed : (xs : List ℕ) → IsPrinted xs → said (xs ++ 10 ∷ []) ≡ xs
said-feed xs h =
    let front : take (length (xs ++ 10 ∷ []) - 1) (xs ++ 10 ∷ []) ≡ xs = grind (arith, common_steps) in
    rw (ends-feed xs) (ap (strip_last 13) front ∙ no-return xs h)

-- a line that begins with a letter is not skipped
letter-line : (s : State) (xs : List ℕ) → BeginsWithLetter xs → encode_line s xs ≡ encode_reading (text_reading xs)
letter-line s [] h = absurd h
letter-line s (x ∷ xs) h =
    let test : (x == 35) ≡ false = other x 35 (λ e. omega (arith, h.0, e)) in
    rw test refl

line-encoded : (T : Texts) (s : State) (p : Packet) → IsPacket p → answer_to encode_responses s (packet_text p ++ 10 ∷ []) ≡ told (bytes_text p)
line-encoded T s p h =
    let xs = packet_text p in
    let short = T.short p h in
    let few : nat_lt 512 (length xs) ≡ false = grind (arith, nat_tests) in
    let not_long : nat_lt 512 (length (bare (xs ++ 10 ∷ []))) ≡ false = ap (λ (l : List ℕ). nat_lt 512 (length l)) (bare-feed xs) ∙ few in
    rw not_long (ap (encode_line s) (said-feed xs (T.printed p h)) ∙ letter-line s xs (T.letter p h) ∙ ap encode_reading (T.back p h))

-- ---- runs of encode

record Encoded (run end : Run State) (ps : List Packet) : Type 0 where
  bytes : end.text ≡ run.text ++ bytes_lines ps
  status : end.status ≡ run.status

lines_of-words : (T : Texts) (p : Packet) (ps : List Packet) → IsPacket p → lines_of (words_lines (p ∷ ps)) ≡ (packet_text p ++ 10 ∷ []) ∷ lines_of (words_lines ps)
lines_of-words T p ps h = ap lines_of (append_assoc (packet_text p) (10 ∷ []) (words_lines ps)) ∙ lines_of-feed (packet_text p) (words_lines ps) (T.printed p h)

encodes : (T : Texts) (ps : List Packet) (run : Run State) → AllPackets ps → Encoded run (fold (after_line encode_responses) run (lines_of (words_lines ps))) ps
unfolding lines_of
encodes T [] run h = record { bytes = sym (append-nil run.text); status = refl }
encodes T (p ∷ ps) run h =
    let here : IsPacket p = All-head IsPacket p ps h in
    let rest : AllPackets ps = All-drop IsPacket 1 (p ∷ ps) h in
    let line = packet_text p ++ 10 ∷ [] in
    let next : Run State = with_answer run (told (bytes_text p)) in
    let step : after_line encode_responses run line ≡ next = ap (with_answer run) (line-encoded T run.state p here) in
    let whole : fold (after_line encode_responses) run (lines_of (words_lines (p ∷ ps))) ≡ fold (after_line encode_responses) next (lines_of (words_lines ps)) =
    ap (fold (after_line encode_responses) run) (lines_of-words T p ps here)
    ∙ ap (λ (r : Run State). fold (after_line encode_responses) r (lines_of (words_lines ps))) step in
    let more = encodes T ps next rest in
    let joined : Encoded run (fold (after_line encode_responses) next (lines_of (words_lines ps))) (p ∷ ps) = record {
      bytes = more.bytes ∙ append_assoc run.text (bytes_text p ++ 10 ∷ []) (bytes_lines ps);
      status = more.status;
    } in
    subst (λ (end : Run State). Encoded run end (p ∷ ps)) (sym whole) joined

pub encoded-words : (T : Texts) (ps : List Packet) → AllPackets ps → ((out_encode (words_lines ps)).text ≡ bytes_lines ps) × ((out_encode (words_lines ps)).status ≡ 0)
encoded-words T ps h =
    let e = encodes T ps (new_run tt) h in
    (append-nil (fold (after_line encode_responses) (new_run tt) (lines_of (words_lines ps))).text ∙ e.bytes, e.status)

-- the answer of `decode` to what bytes are read as
pub decode_answer : (r : Result Packet BytesFault) → decode_reading r ≡ record { state = tt; text = decoded_text r ++ 10 ∷ []; is_fault = not (is_ok r) }
decode_answer (Ok p) = refl
decode_answer (Err f) = refl
