use Rattle.std.proofs.Common.{◌≡◌, ◌∙◌, List, ℕ, ap}
use Rattle.packet_engine.specs.Lines.{out_decode, out_encode}
use Rattle.packet_engine.specs.Runs.{packets_in, bytes_lines, IsDecoded}
use Rattle.packet_engine.proofs.RunLemmas.{Texts, decoded-words, encoded-words}
use Rattle.packet_engine.proofs.laws.decoded_packets_are_encoded.Goals as goal

texts : (c : goal.After-own_text_spells_packet) → Texts
texts c =
    let laws = c.own_text_spells_packet.ensures in
    record { back = laws.read_back; of_bytes = laws.of_bytes; printed = laws.printed; short = laws.short; letter = laws.letter }

bytes : (T : Texts) (input : List ℕ) → IsDecoded input → (out_encode (out_decode input).text).text ≡ bytes_lines (packets_in input)
bytes T input h =
    let d = decoded-words T input h in
    ap (λ (t : List ℕ). (out_encode t).text) d.0 ∙ (encoded-words T (packets_in input) d.1).0

pub returns-clause-words : goal.returns-clause-words
returns-clause-words c = λ input h. (decoded-words (texts c) input h).0

pub returns-clause-bytes : goal.returns-clause-bytes
returns-clause-bytes c = λ input h. bytes (texts c) input h

pub returns-clause-status : goal.returns-clause-status
returns-clause-status c = λ input h.
    let d = decoded-words (texts c) input h in
    ap (λ (t : List ℕ). (out_encode t).status) d.0 ∙ (encoded-words (texts c) (packets_in input) d.1).1

pub returns-clause-canonical : goal.returns-clause-canonical
returns-clause-canonical c = λ input h. bytes (texts c) input h.0 ∙ h.1
