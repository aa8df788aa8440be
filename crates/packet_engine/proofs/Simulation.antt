-- A run over the bytes and the counts writes what the run over the history writes.
use Rattle.std.proofs.Common.{arith, ◌≡◌, ◌∙◌, ◌+◌, ◌/◌, ◌<◌, ◌==◌, if◌then◌else◌, ℕ, Bool, true, false, List, [], ◌∷◌, ◌++◌, length, refl, sym, ap, subst, Option, Some, None, Result, Ok, Err, slice_index, replicate, codes}
use Rattle.std.specs.Prelude.{fold, nat_lt, drop, IfSome}
use Rattle.std.specs.Io.KnownBytes.{Appends}
use Rattle.byteorder.specs.Endian.{big_number}
use Rattle.hex.proofs.HexLemmas.{decode_of-ok}
use Rattle.std.proofs.lemmas.List.{get_or-drop, length-replicate, length-set}
use Rattle.tlp_core.specs.Bits.{IsBytes}
use Rattle.tlp_core.specs.Layout.{Spells, requester_place}
use Rattle.packet_engine.proofs.RequestLemmas.{asked, counted}
use Rattle.std.specs.Option.{option_map_or}
use Rattle.std.proofs.lemmas.List.{get_or-replicate}
use Rattle.tlp_core.specs.declared.fault.TlpFault.{TlpFault}
use Rattle.tlp_core.specs.Ops.{Op}
use Rattle.tlp_core.specs.TlpView.{TlpView, IsPacket}
use Rattle.tlp_core.specs.Operation.{is_completion}
use Rattle.tlp_core.specs.Faults.{reading}
use Rattle.seq_memory.specs.Entries.{Entry}
use Rattle.seq_memory.specs.Limits.{Extent}
use Rattle.seq_memory.specs.Step.{after}
use Rattle.seq_memory.specs.History.{MemoryView, bytes_of, contents, extent_of}
use Rattle.completer_core.specs.Serving.{after_serving, with_entry, request_entry, bytes_after, completion_to, completion_over}
use Rattle.hex.specs.Hex.{decode_of}
use Rattle.hex.specs.declared.error.FromHexError.{FromHexError}
use Rattle.hex_text.specs.Line.{digits_of}
use Rattle.hex_text.specs.Lines.{lines_of, ended_lines, bare, said, is_skipped}
use Rattle.line_loop.specs.Run.{Answer, Responses, Run, answer_to, with_answer, after_line, new_run, run_of, IsBeginning, IsWhole, IsPart, IsCaughtUp}
use Rattle.packet_engine.specs.Tlp.{answer_request, answer_packet, answer_reading, answer_bytes, answer_line, with_history, tlp_responses, new_state, out_tlp, requests_of, fault, fault_text, nothing, completion_text}
use Rattle.packet_engine.specs.CompleterView.{CompleterView, new_kept, after_request, without_history, kept_responses}

-- ---- any two devices, one of which stands for the other

-- the same text and fault, and states that stand for each other
pub record AlikeAnswer {K S : Type 0} (stands : K → S → Type 0) (a : Answer K) (b : Answer S) : Type 0 where
  pub state : stands a.state b.state
  pub text : a.text ≡ b.text
  pub is_fault : a.is_fault ≡ b.is_fault

pub record AlikeRun {K S : Type 0} (stands : K → S → Type 0) (a : Run K) (b : Run S) : Type 0 where
  pub state : stands a.state b.state
  pub text : a.text ≡ b.text
  pub status : a.status ≡ b.status

-- what is answered to a line, to one that is too long and to the end is alike
pub record Simulates {K S : Type 0} (stands : K → S → Type 0) (r : Responses K) (q : Responses S) : Type 0 where
  pub on_line : (k : K) (s : S) (line : List ℕ) → stands k s → AlikeAnswer stands (r.on_line k line) (q.on_line s line)
  pub on_long_line : (k : K) (s : S) → stands k s → AlikeAnswer stands (r.on_long_line k) (q.on_long_line s)
  pub on_end : (k : K) (s : S) → stands k s → AlikeAnswer stands (r.on_end k) (q.on_end s)

with-alike : {K S : Type 0} (stands : K → S → Type 0) (a : Run K) (b : Run S) (x : Answer K) (y : Answer S)
    → AlikeRun stands a b → AlikeAnswer stands x y → AlikeRun stands (with_answer a x) (with_answer b y)
with-alike stands a b x y runs answers = record {
  state = answers.state;
  text = rw (runs.text, answers.text) refl;
  status = rw (runs.status, answers.is_fault) refl;
}

line-alike : {K S : Type 0} (stands : K → S → Type 0) (r : Responses K) (q : Responses S) → Simulates stands r q
    → (k : K) (s : S) (line : List ℕ) → stands k s → AlikeAnswer stands (answer_to r k line) (answer_to q s line)
line-alike stands r q same k s line at = go (nat_lt 512 (length (bare line)))
  where
    go : (long : Bool) → AlikeAnswer stands (if long then r.on_long_line k else r.on_line k (said line)) (if long then q.on_long_line s else q.on_line s (said line))
    go true = same.on_long_line k s at
    go false = same.on_line k s (said line) at

lines-alike : {K S : Type 0} (stands : K → S → Type 0) (r : Responses K) (q : Responses S) → Simulates stands r q
    → (a : Run K) (b : Run S) (lines : List (List ℕ)) → AlikeRun stands a b → AlikeRun stands (fold (after_line r) a lines) (fold (after_line q) b lines)
lines-alike stands r q same a b [] at = at
lines-alike stands r q same a b (line ∷ rest) at =
    lines-alike stands r q same (after_line r a line) (after_line q b line) rest
    (with-alike stands a b (answer_to r a.state line) (answer_to q b.state line) at (line-alike stands r q same a.state b.state line at.state))

runs-alike : {K S : Type 0} (stands : K → S → Type 0) (r : Responses K) (q : Responses S) → Simulates stands r q
    → (k : K) (s : S) (input : List ℕ) → stands k s → AlikeRun stands (run_of r k input) (run_of q s input)
runs-alike stands r q same k s input at =
    let before = lines-alike stands r q same (new_run k) (new_run s) (lines_of input) (record { state = at; text = refl; status = refl }) in
    with-alike stands _ _ _ _ before (same.on_end _ _ before.state)

-- ---- the bytes and counts, and the history

-- these bytes and counts are the history's
pub record StandsFor (k : CompleterView) (s : MemoryView) : Type 0 where
  pub base : k.base ≡ s.base
  pub block : k.block ≡ s.block
  pub bytes : k.bytes ≡ bytes_of s
  pub ports : length k.counts ≡ 256
  pub counts : (port : ℕ) → port < 256 → slice_index k.counts port ≡ requests_of s.entries port

-- a packet that bytes spell: it is one of the grammar, and its Requester ID has 16 bits
record IsRead (t : TlpView) : Type 0 where
  grammar : IsPacket t
  requester : t.requester < 65536

two-bytes : (b : List ℕ) (place : ℕ) → IsBytes b → big_number 2 (drop place b) < 65536
two-bytes b place bytes =
    let high : slice_index (drop place b) 0 < 256 = subst (λ (n : ℕ). n < 256) (sym (get_or-drop place b 0 0)) (bytes (place + 0)) in
    let low : slice_index (drop place b) 1 < 256 = subst (λ (n : ℕ). n < 256) (sym (get_or-drop place b 1 0)) (bytes (place + 1)) in
    omega (arith, high, low)

-- what the laws of packets and of histories say
abbrev pub Spelled : Type 0
Spelled = (b : List ℕ) (t : TlpView) → IsBytes b → reading b ≡ Ok t → Spells b t

abbrev pub Grows : Type 0
Grows = (x : Extent) (es : List Entry) (e : Entry) → contents x (es ++ e ∷ []) ≡ after x.base x.block (contents x es) e.op

is-read : Spelled → (digits b : List ℕ) (t : TlpView) → decode_of digits ≡ Ok b → reading b ≡ Ok t → IsRead t
is-read spelled digits b t decoded read =
    let bytes : IsBytes b = (decode_of-ok digits b decoded).3 in
    let s = spelled b t bytes read in
    record { grammar = s.grammar; requester = subst (λ (n : ℕ). n < 65536) (sym s.requester) (two-bytes b (requester_place t.kind) bytes) }

-- a request leaves both alike
request-stands : Grows → (k : CompleterView) (s : MemoryView) (t : TlpView) (number : ℕ) → StandsFor k s → IsRead t → is_completion t.kind ≡ false
    → number ≡ requests_of s.entries (t.requester / 256) → StandsFor (after_request k t number) (after_serving s t number)
request-stands grows k s t number at read c same =
    let op = asked t.kind t.body t.length (length t.payload) t.payload read.grammar.fits c in
    let entry = request_entry t number op.0 in
    let acted : after_serving s t number ≡ with_entry s entry = ap (λ (o : Option Op). option_map_or (λ op. with_entry s (request_entry t number op)) o s) op.1 in
    let changed : bytes_after k.base k.block k.bytes t ≡ after k.base k.block k.bytes op.0 = ap (λ (o : Option Op). option_map_or (λ op. after k.base k.block k.bytes op) o k.bytes) op.1 in
    let inside : t.requester / 256 < length k.counts = let wide = read.requester in let ports = at.ports in omega (arith, wide, ports) in
    record {
      base = at.base ∙ ap (λ (s : MemoryView). s.base) (sym acted);
      block = at.block ∙ ap (λ (s : MemoryView). s.block) (sym acted);
      bytes = changed ∙ rw (at.base, at.block, at.bytes) (sym (grows (extent_of s) s.entries entry)) ∙ ap bytes_of (sym acted);
      ports = length-set k.counts (t.requester / 256) (number + 1) ∙ at.ports;
      counts = λ port lt. counted s t number (t.requester / 256) k.counts read.grammar c refl inside same port (at.counts port lt);
    }

fault-alike : (k : CompleterView) (s : MemoryView) (text : List ℕ) → StandsFor k s → AlikeAnswer StandsFor (fault k text) (fault s text)
fault-alike k s text at = record { state = at; text = refl; is_fault = refl }

nothing-alike : (k : CompleterView) (s : MemoryView) → StandsFor k s → AlikeAnswer StandsFor (nothing k) (nothing s)
nothing-alike k s at = record { state = at; text = refl; is_fault = refl }

completions-alike : (k : CompleterView) (s : MemoryView) (t : TlpView) → StandsFor k s → completion_over k.base k.block k.bytes t ≡ completion_to s t
completions-alike k s t at = rw (at.base, at.block, at.bytes) refl

request-alike : Grows → (k : CompleterView) (s : MemoryView) (t : TlpView) (number : ℕ) → StandsFor k s → IsRead t → is_completion t.kind ≡ false
    → number ≡ requests_of s.entries (t.requester / 256)
    → AlikeAnswer StandsFor (answer_request without_history k t number) (answer_request with_history s t number)
request-alike grows k s t number at read c same = go (number == 4294967295)
  where
    go : (used : Bool) → AlikeAnswer StandsFor
        (if used then fault k (codes "fault numbers") else record { state = after_request k t number; text = completion_text (completion_over k.base k.block k.bytes t) ++ 10 ∷ []; is_fault = false })
        (if used then fault s (codes "fault numbers") else record { state = after_serving s t number; text = completion_text (completion_to s t) ++ 10 ∷ []; is_fault = false })
    go true = fault-alike k s (codes "fault numbers") at
    go false = record {
      state = request-stands grows k s t number at read c same;
      text = ap (λ (o : Option TlpView). completion_text o ++ 10 ∷ []) (completions-alike k s t at);
      is_fault = refl;
    }

packet-alike : Grows → (k : CompleterView) (s : MemoryView) (t : TlpView) → StandsFor k s → IsRead t
    → AlikeAnswer StandsFor (answer_packet without_history k t) (answer_packet with_history s t)
packet-alike grows k s t at read = go (is_completion t.kind) refl
  where
    inside : t.requester / 256 < 256
    inside = let wide = read.requester in omega (arith, wide)

    go : (c : Bool) → is_completion t.kind ≡ c → AlikeAnswer StandsFor
        (if c then fault k (codes "fault completion") else answer_request without_history k t (slice_index k.counts (t.requester / 256)))
        (if c then fault s (codes "fault completion") else answer_request with_history s t (requests_of s.entries (t.requester / 256)))
    go true is = fault-alike k s (codes "fault completion") at
    go false is =
        subst (λ (n : ℕ). AlikeAnswer StandsFor (answer_request without_history k t n) (answer_request with_history s t (requests_of s.entries (t.requester / 256))))
        (sym (at.counts (t.requester / 256) inside))
        (request-alike grows k s t (requests_of s.entries (t.requester / 256)) at read is refl)

reading-alike : Grows → (k : CompleterView) (s : MemoryView) (r : Result TlpView TlpFault) → StandsFor k s → ((t : TlpView) → r ≡ Ok t → IsRead t)
    → AlikeAnswer StandsFor (answer_reading without_history k r) (answer_reading with_history s r)
reading-alike grows k s (Err f) at read = fault-alike k s (fault_text f) at
reading-alike grows k s (Ok t) at read = packet-alike grows k s t at (read t refl)

bytes-alike : Spelled → Grows → (k : CompleterView) (s : MemoryView) (digits : List ℕ) (r : Result (List ℕ) FromHexError) → decode_of digits ≡ r → StandsFor k s
    → AlikeAnswer StandsFor (answer_bytes without_history k r) (answer_bytes with_history s r)
bytes-alike spelled grows k s digits (Err e) decoded at = fault-alike k s (codes "fault hex") at
bytes-alike spelled grows k s digits (Ok b) decoded at = reading-alike grows k s (reading b) at (λ t read. is-read spelled digits b t decoded read)

text-alike : Spelled → Grows → (k : CompleterView) (s : MemoryView) (line : List ℕ) → StandsFor k s → AlikeAnswer StandsFor (answer_line without_history k line) (answer_line with_history s line)
text-alike spelled grows k s line at = go (is_skipped line)
  where
    go : (skip : Bool) → AlikeAnswer StandsFor
        (if skip then nothing k else answer_bytes without_history k (decode_of (digits_of line)))
        (if skip then nothing s else answer_bytes with_history s (decode_of (digits_of line)))
    go true = nothing-alike k s at
    go false = bytes-alike spelled grows k s (digits_of line) (decode_of (digits_of line)) refl at

pub simulates : Spelled → Grows → Simulates StandsFor kept_responses tlp_responses
simulates spelled grows = record {
  on_line = λ k s line at. text-alike spelled grows k s line at;
  on_long_line = λ k s at. fault-alike k s (codes "fault line") at;
  on_end = λ k s at. nothing-alike k s at;
}

-- a new device stands for a new memory
pub new-stands : (x : Extent) → ((x : Extent) → contents x [] ≡ replicate x.size 0) → StandsFor (new_kept x) (new_state x)
new-stands x none = record {
  base = refl;
  block = refl;
  bytes = sym (none x);
  ports = length-replicate {A = ℕ} 256 0;
  counts = λ port lt. get_or-replicate 256 port 0 0 lt;
}

-- ---- what a run says of its output, moved from one to the other

pub IsWhole-alike : {K S : Type 0} (run : List ℕ → Run K) (other : List ℕ → Run S) → ((input : List ℕ) → (run input).text ≡ (other input).text)
    → ((input : List ℕ) → (run input).status ≡ (other input).status)
    → (input rest out out' : Option (List ℕ)) (exit : ℕ) → IsWhole run input rest out out' exit → IsWhole other input rest out out' exit
IsWhole-alike run other texts statuses input rest out out' exit w = record {
  read = w.read;
  consumed = w.consumed;
  at_end = w.at_end;
  written = subst (λ (text : List ℕ). Appends out out' text) (texts w.read) w.written;
  exit_status = w.exit_status ∙ statuses w.read;
}

pub IsPart-alike : {K S : Type 0} (run : List ℕ → Run K) (other : List ℕ → Run S) → ((input : List ℕ) → (run input).text ≡ (other input).text)
    → (input rest out out' : Option (List ℕ)) → IsPart run input rest out out' → IsPart other input rest out out'
IsPart-alike run other texts input rest out out' p = record {
  read = p.read;
  done = p.done;
  consumed = p.consumed;
  written = p.written;
  begins = subst (λ (text : List ℕ). IsBeginning p.done text) (texts p.read) p.begins;
  begins_all = all input p.begins_all;
}
  where
    all : (input : Option (List ℕ)) → IfSome input (λ all. IsBeginning p.done (run all).text) → IfSome input (λ all. IsBeginning p.done (other all).text)
    all None h = tt
    all (Some input) h = subst (λ (text : List ℕ). IsBeginning p.done text) (texts input) h

pub IsCaughtUp-alike : {K S : Type 0} (r : Responses K) (q : Responses S) (k : K) (s : S)
    → ((lines : List (List ℕ)) → (fold (after_line r) (new_run k) lines).text ≡ (fold (after_line q) (new_run s) lines).text)
    → (input rest out out' : Option (List ℕ)) → IsCaughtUp r k input rest out out' → IsCaughtUp q s input rest out out'
IsCaughtUp-alike r q k s texts input rest out out' c = record {
  read = c.read;
  consumed = c.consumed;
  written = subst (λ (text : List ℕ). Appends out out' text) (texts (ended_lines c.read)) c.written;
}

-- the run of a new device, and that of a new memory
pub record SameRuns (x : Extent) : Type 0 where
  pub text : (input : List ℕ) → (run_of kept_responses (new_kept x) input).text ≡ (out_tlp x input).text
  pub status : (input : List ℕ) → (run_of kept_responses (new_kept x) input).status ≡ (out_tlp x input).status
  pub lines : (lines : List (List ℕ)) → (fold (after_line kept_responses) (new_run (new_kept x)) lines).text ≡ (fold (after_line tlp_responses) (new_run (new_state x)) lines).text

pub same-runs : (x : Extent) → Spelled → Grows → ((x : Extent) → contents x [] ≡ replicate x.size 0) → SameRuns x
same-runs x spelled grows none =
    let same = simulates spelled grows in
    let at = new-stands x none in
    record {
      text = λ input. (runs-alike StandsFor kept_responses tlp_responses same (new_kept x) (new_state x) input at).text;
      status = λ input. (runs-alike StandsFor kept_responses tlp_responses same (new_kept x) (new_state x) input at).status;
      lines = λ lines. (lines-alike StandsFor kept_responses tlp_responses same (new_run (new_kept x)) (new_run (new_state x)) lines (record { state = at; text = refl; status = refl })).text;
    }

-- the clauses of a run of the device, as those of the memory's
pub whole : (x : Extent) (k : CompleterView) → SameRuns x → k ≡ new_kept x → {input rest out out' : Option (List ℕ)} {exit : ℕ}
    → IsWhole (run_of kept_responses k) input rest out out' exit → IsWhole (out_tlp x) input rest out out' exit
whole x k same is {input} {rest} {out} {out'} {exit} w =
    IsWhole-alike (run_of kept_responses (new_kept x)) (out_tlp x) same.text same.status input rest out out' exit
    (subst (λ (k : CompleterView). IsWhole (run_of kept_responses k) input rest out out' exit) is w)

pub part : (x : Extent) (k : CompleterView) → SameRuns x → k ≡ new_kept x → {input rest out out' : Option (List ℕ)}
    → IsPart (run_of kept_responses k) input rest out out' → IsPart (out_tlp x) input rest out out'
part x k same is {input} {rest} {out} {out'} p =
    IsPart-alike (run_of kept_responses (new_kept x)) (out_tlp x) same.text input rest out out'
    (subst (λ (k : CompleterView). IsPart (run_of kept_responses k) input rest out out') is p)

pub caught-up : (x : Extent) (k : CompleterView) → SameRuns x → k ≡ new_kept x → {input rest out out' : Option (List ℕ)}
    → IsCaughtUp kept_responses k input rest out out' → IsCaughtUp tlp_responses (new_state x) input rest out out'
caught-up x k same is {input} {rest} {out} {out'} c =
    IsCaughtUp-alike kept_responses tlp_responses (new_kept x) (new_state x) same.lines input rest out out'
    (subst (λ (k : CompleterView). IsCaughtUp kept_responses k input rest out out') is c)
