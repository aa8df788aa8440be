-- Requests, and how many of them each requester has in a history.
use Rattle.std.proofs.Common.{◌≡◌, ◌≢◌, ◌∙◌, ◌+◌, ◌/◌, ◌==◌, if◌then◌else◌, ◌<◌, ℕ, Bool, true, false, List, [], ◌∷◌, ◌++◌, length, refl, sym, ap, arith, Option, Some, slice_index, slice_set, inl, inr, add-zero, codes, Result, Ok, Err}
use Rattle.std.specs.Prelude.{IsErr}
use Rattle.tlp_core.specs.Faults.{reading}
use Rattle.std.specs.Option.{option_map_or}
use Rattle.std.proofs.lemmas.Bool.{cases_eq}
use Rattle.std.proofs.lemmas.List.Sums.{fold-append}
use Rattle.std.proofs.lemmas.Bool.Decides.{nat_tests}
use Rattle.std.proofs.lemmas.List.{get_or-set_same, get_or-set_other}
use Rattle.tlp_core.specs.declared.packet.Kind.{Kind}
use Rattle.tlp_core.specs.declared.packet.Kind.TheVariants as kinds
use Rattle.tlp_core.specs.declared.packet.Body.{Body}
use Rattle.tlp_core.specs.declared.packet.Body.TheVariants as bodies
use Rattle.tlp_core.specs.Ops.{Op}
use Rattle.tlp_core.specs.TlpView.{TlpView, IsPacket, FitsKind}
use Rattle.tlp_core.specs.Operation.{op_at, is_completion}
use Rattle.seq_memory.specs.Entries.{Entry}
use Rattle.seq_memory.specs.History.{MemoryView}
use Rattle.completer_core.specs.Serving.{after_serving, with_entry, request_entry}
use Rattle.hex.specs.Hex.{decode_of}
use Rattle.hex.specs.declared.error.FromHexError.{FromHexError}
use Rattle.hex_text.specs.Line.{digits_of}
use Rattle.hex_text.specs.Lines.{is_skipped}
use Rattle.packet_engine.specs.Tlp.{Device, requests_of, answer_request, answer_line, answer_bytes, answer_reading, fault}

-- the operation of a request
pub asked : (k : Kind) (body : Body) (dw given : ℕ) (bytes : List ℕ) → FitsKind k body dw given → is_completion k ≡ false → (op : Op) × (op_at k body dw bytes ≡ Some op)
asked kinds.MemoryRead (bodies.Request a f l) dw given bytes h c = (_, refl)
asked kinds.MemoryRead (bodies.Completion x s n l) dw given bytes h c = absurd h
asked kinds.MemoryWrite (bodies.Request a f l) dw given bytes h c = (_, refl)
asked kinds.MemoryWrite (bodies.Completion x s n l) dw given bytes h c = absurd h
asked kinds.FetchAdd (bodies.Request a f l) dw given bytes h c = (_, refl)
asked kinds.FetchAdd (bodies.Completion x s n l) dw given bytes h c = absurd h
asked kinds.Swap (bodies.Request a f l) dw given bytes h c = (_, refl)
asked kinds.Swap (bodies.Completion x s n l) dw given bytes h c = absurd h
asked kinds.Cas (bodies.Request a f l) dw given bytes h c = (_, refl)
asked kinds.Cas (bodies.Completion x s n l) dw given bytes h c = absurd h
asked kinds.Completion body dw given bytes h c = cc
asked kinds.CompletionData body dw given bytes h c = cc

-- one more entry counts for its own requester alone
count-more : (history : List Entry) (e : Entry) (port : ℕ) → requests_of (history ++ e ∷ []) port ≡ requests_of history port + (if e.requester == port then 1 else 0)
count-more history e port = fold-append (λ (n : ℕ) (e : Entry). n + (if e.requester == port then 1 else 0)) 0 history (e ∷ [])

-- the counts after a request, of its own requester and of another
pub counted : (s : MemoryView) (t : TlpView) (number own : ℕ) (counts : List ℕ) → IsPacket t → is_completion t.kind ≡ false
    → own ≡ t.requester / 256 → own < length counts → number ≡ requests_of s.entries (t.requester / 256)
    → (port : ℕ) → slice_index counts port ≡ requests_of s.entries port
    → slice_index (slice_set counts own (number + 1)) port ≡ requests_of (after_serving s t number).entries port
counted s t number own counts p c e fits same port before =
    let op = asked t.kind t.body t.length (length t.payload) t.payload p.fits c in
    let after : after_serving s t number ≡ with_entry s (request_entry t number op.0) = ap (λ (o : Option Op). option_map_or (λ op. with_entry s (request_entry t number op)) o s) op.1 in
    let more = ap (λ (s : MemoryView). requests_of s.entries port) after ∙ count-more s.entries (request_entry t number op.0) port in
    let whole = λ (b : Bool) (test : (t.requester / 256 == port) ≡ b).
    more ∙ ap (λ (b : Bool). requests_of s.entries port + (if b then 1 else 0)) test in
    elim (cases_eq port own) [
      | inl own_port ↦
          let is : t.requester / 256 ≡ port = sym e ∙ sym own_port in
          ap (slice_index (slice_set counts own (number + 1))) own_port ∙ get_or-set_same counts own (number + 1) 0 fits
          ∙ ap (λ (n : ℕ). n + 1) (same ∙ ap (requests_of s.entries) is) ∙ sym (whole true (tested (t.requester / 256) port is))
      | inr other_port ↦
          let not : t.requester / 256 ≢ port = λ is. other_port (sym is ∙ sym e) in
          get_or-set_other counts own port (number + 1) 0 other_port ∙ before
          ∙ sym (whole false (refuted (t.requester / 256) port not) ∙ add-zero (requests_of s.entries port))
    ]
  where
    tested : (a b : ℕ) → a ≡ b → (a == b) ≡ true
    tested a b is = grind (arith, nat_tests)

    refuted : (a b : ℕ) → a ≢ b → (a == b) ≡ false
    refuted a b not = grind (arith, nat_tests)

-- ---- answers

-- all numbers are used
pub numbers-used : {S : Type 0} (d : Device S) (s : S) (t : TlpView) (number : ℕ) → number ≡ 4294967295 → answer_request d s t number ≡ fault s (codes "fault numbers")
numbers-used d s t number e = rw e refl

-- a line that isn't skipped
line-bytes : {S : Type 0} (d : Device S) (s : S) (line : List ℕ) → is_skipped line ≡ false → answer_line d s line ≡ answer_bytes d s (decode_of (digits_of line))
line-bytes d s line kept = rw kept refl

-- one whose digits are read
pub line-read : {S : Type 0} (d : Device S) (s : S) (line digits bytes : List ℕ) → is_skipped line ≡ false → digits ≡ digits_of line
    → decode_of digits ≡ Ok bytes → answer_line d s line ≡ answer_reading d s (reading bytes)
line-read d s line digits bytes kept e h =
    line-bytes d s line kept ∙ ap (λ (x : List ℕ). answer_bytes d s (decode_of x)) (sym e) ∙ ap (answer_bytes d s) h

-- and one whose digits are not
pub line-not-read : {S : Type 0} (d : Device S) (s : S) (line digits : List ℕ) → is_skipped line ≡ false → digits ≡ digits_of line
    → IsErr (decode_of digits) → answer_line d s line ≡ fault s (codes "fault hex")
line-not-read d s line digits kept e h =
    line-bytes d s line kept ∙ ap (λ (x : List ℕ). answer_bytes d s (decode_of x)) (sym e) ∙ go (decode_of digits) h
  where
    go : (r : Result (List ℕ) FromHexError) → IsErr r → answer_bytes d s r ≡ fault s (codes "fault hex")
    go (Ok bytes) h = cc
    go (Err e) h = refl
