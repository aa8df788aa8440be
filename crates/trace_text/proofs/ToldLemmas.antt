-- What is read of a trace can be told.
use Rattle.std.proofs.Common.{◌≡◌, ◌∙◌, ℕ, ◌≤◌, Bool, true, false, List, [], ◌∷◌, refl, sym, arith, All, Some, None, inl, inr, Ok}
use Rattle.std.specs.Prelude.{◌==◌, ◌&&◌, ◌≢◌, if◌then◌else◌}
use Rattle.std.proofs.lemmas.Bool.Decides.{nat_tests}
use Rattle.std.proofs.lemmas.List.Elements.{All-nil, All-cons}
use Rattle.seq_memory.specs.Entries.{Entry}
use Rattle.seq_memory.specs.Limits.{IsSize, IsBase, IsBlock, IsWithinLimits, Extent, is_size, is_base, is_block, is_within_limits}
use Rattle.seq_memory.specs.History.{extent_of}
use Rattle.history_words.specs.Records.{Record}
use Rattle.history_words.specs.declared.record.RecordOf.TheVariants as records
use Rattle.history_words.specs.Claim.{Claim}
use Rattle.hex_text.specs.Lines.{lines_of}
use Rattle.operation_text.specs.Numbers.{numeral}
use Rattle.record_text.specs.Forms as fields
use Rattle.record_text.specs.ReadingFacts as readings
use Rattle.trace_text.specs.TraceReaderView.{trace_grammar, nothing_read, read_of}
use Rattle.trace_text.specs.Tellable.{IsRequest, IsTellableRecord, IsTellableEntry, IsTellable}
use Rattle.trace_text.proofs.FormLemmas.{IsSpelled, RecordIs, requester-is, extent-is}
use Rattle.trace_text.proofs.ReadSpelled.{AllRecords, AllEntries, OwnClaim, own-lines, own-nothing, own-end}

-- a number that a word spells is no greater than it may be
abbrev pub InRange : Type 0
InRange = (radix most n : ℕ) (word : List ℕ) → numeral radix most word ≡ Some n → n ≤ most

pub requester-range : InRange → (i : ℕ) → IsSpelled fields.requester i → (i ≤ 7) × (i ≢ 0)
requester-range range i h = let r = requester-is h.0 i h.1 in (range 10 7 i h.0 r.0, r.1)

-- ---- a memory

all-three : (a b c : Bool) → (a && b && c) ≡ true → (a ≡ true) × (b ≡ true) × (c ≡ true)
all-three true true true h = (refl, refl, refl)
all-three true true false h = absurd (cc h)
all-three true false c h = absurd (cc h)
all-three false b c h = absurd (cc h)

size-is : (size : ℕ) → is_size size ≡ true → IsSize size
size-is size h = grind (arith, nat_tests)

base-is : (base size : ℕ) → is_base base size ≡ true → IsBase base size
base-is base size h = grind (arith, nat_tests)

block-is : (block : ℕ) → is_block block ≡ true → IsBlock block
block-is block h = grind (arith, nat_tests)

within-is : (x : Extent) → is_within_limits x ≡ true → IsWithinLimits x
within-is x h =
    let t = all-three (is_size x.size) (is_base x.base x.size) (is_block x.block) h in
    record { in_size = size-is x.size t.0; in_base = base-is x.base x.size t.1; in_block = block-is x.block t.2 }

pub memory-is : (has_block : Bool) (ws : List (List ℕ)) (x : Extent) → fields.memory_of has_block ws ≡ Some x → IsWithinLimits x
memory-is has_block ws x h = within-is x (extent-is has_block ws x h).3

-- ---- lines

module _ (range : InRange) where
  pub request-is : (i k : ℕ) → IsSpelled fields.requester i → IsSpelled fields.number k → IsRequest i k
  request-is i k hi hk =
      let r = requester-range range i hi in
      let le = range 10 4294967294 k hk.0 hk.1 in
      let most = r.0 in
      let some = r.1 in
      (grind (arith, nat_tests), r.0, omega (arith, le))

  record-is : (r : Record) → RecordIs r → IsTellableRecord r
  record-is (records.Sub i k op n) h = let le = range 10 18446744073709551615 n h.2.0 h.2.1 in (request-is i k h.0 h.1, omega (arith, le), h.3)
  record-is (records.Ans i k reply n) h = let le = range 10 18446744073709551615 n h.2.0 h.2.1 in (request-is i k h.0 h.1, omega (arith, le), h.3)

  records-are : (rs : List Record) → AllRecords rs → All IsTellableRecord rs
  records-are [] h = All-nil IsTellableRecord
  records-are (r ∷ rs) h = All-cons IsTellableRecord r rs (record-is r h.0) (records-are rs h.1)

  entries-are : (es : List Entry) → AllEntries es → All IsTellableEntry es
  entries-are [] h = All-nil IsTellableEntry
  entries-are (e ∷ es) h = All-cons IsTellableEntry e es (request-is e.requester e.number h.0.0 h.0.1, h.0.2) (entries-are es h.1)

  claim-is : (c : Claim) → OwnClaim c → IsTellable c
  claim-is c h = record {
    limits = within-is (extent_of c.memory) h.within;
    records_are = records-are c.records h.records_are;
    entries_are = entries-are c.memory.entries h.entries_are;
  }

  pub can-be-told : (text : List ℕ) (c : Claim) → read_of text ≡ Ok c → IsTellable c
  can-be-told text c h = claim-is c (own-end (readings.reading_on trace_grammar nothing_read text) c (own-lines (lines_of text) nothing_read own-nothing) h)
