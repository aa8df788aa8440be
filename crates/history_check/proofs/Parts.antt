-- Records and entries, by their headers and requests.
use Rattle.std.proofs.Common.{◌≡◌, ℕ, zero, suc, ◌<◌, Bool, List, [], ◌∷◌, length, Option, Some, None, refl, sym, ap, subst, ◌∙◌, arith}
use Rattle.std.specs.Prelude.{slice_get, option_map, option_and_then}
use Rattle.std.proofs.lemmas.Option.{none-some, same_Some}
use Rattle.tlp_core.specs.Ops.{Op}
use Rattle.tlp_core.specs.Operation.{is_posted}
use Rattle.seq_memory.specs.Entries.{Entry}
use Rattle.seq_memory.specs.Entries.{Reply}
use Rattle.history_words.specs.Records.{Record}
use Rattle.history_words.specs.declared.record.RecordOf.TheVariants as records
use Rattle.history_words.specs.declared.claim.RecordHeader.{RecordHeader}
use Rattle.history_words.specs.declared.claim.RecordHeader.TheVariants as headers
use Rattle.history_words.specs.Headers.{header_of, request_of, found_in}
use Rattle.history_words.specs.Lookup.{submitted_in}

-- what stands at a place
pub there : {X : Type 0} (xs : List X) (n : ℕ) → n < length xs → (x : X) × (slice_get xs n ≡ Some x)
there [] n l = absurd (omega arith)
there (x ∷ xs) zero l = (x, refl)
there (x ∷ xs) (suc n) l = there xs n (omega arith)

-- a submission's header is read of a submission
pub sub_read : (o : Option Record) (header : RecordHeader) (i k : ℕ) (posted : Bool) (n : ℕ) → option_map header_of o ≡ Some header → header ≡ headers.Sub i k posted n → (op : Op) × (o ≡ Some (records.Sub i k op n)) × (is_posted op ≡ posted)
sub_read None header i k posted n e is = cc
sub_read (Some (records.Sub j m op l)) header i k posted n e is = (op, cc, cc)
sub_read (Some (records.Ans j m reply l)) header i k posted n e is = cc

-- an answer's header is read of an answer
pub ans_read : (o : Option Record) (header : RecordHeader) (i k n : ℕ) → option_map header_of o ≡ Some header → header ≡ headers.Ans i k n → (reply : Reply) × (o ≡ Some (records.Ans i k reply n))
ans_read None header i k n e is = cc
ans_read (Some (records.Sub j m op l)) header i k n e is = cc
ans_read (Some (records.Ans j m reply l)) header i k n e is = (reply, cc)

-- a header is read of a record
pub header_read : (o : Option Record) (header : RecordHeader) → option_map header_of o ≡ Some header → (r : Record) × (o ≡ Some r) × (header ≡ header_of r)
header_read None header e = cc
header_read (Some r) header e = (r, refl, sym (same_Some (header_of r) header e))

-- an entry's request is read of an entry
pub request_read : (o : Option Entry) (q : ℕ × ℕ) → option_map request_of o ≡ Some q → (op : Op) × (o ≡ Some (record { requester = q.0; number = q.1; op = op }))
request_read None q e = cc
request_read (Some x) q e =
    let same : (x.requester, x.number) ≡ q = same_Some (x.requester, x.number) q e in
    (x.op, subst (λ (q : ℕ × ℕ). Some x ≡ Some (record { requester = q.0; number = q.1; op = x.op })) same refl)

-- within the records there is a header
pub none_read : (rs : List Record) (a n : ℕ) → n ≡ length rs → a < n → option_map header_of (slice_get rs a) ≡ None → ⊥
none_read rs a n e l none =
    let (r, at) = there rs a (omega arith) in
    none-some (header_of r) (sym none ∙ ap (option_map header_of) at)

-- a request's requester has a row
pub row_read : (o : Option Entry) (i k : ℕ) → option_map request_of o ≡ Some (i, k) → i < 256 → (e : Entry) → o ≡ Some e → e.requester < 256
row_read o i k read small e is =
    let same : (e.requester, e.number) ≡ (i, k) = same_Some (e.requester, e.number) (i, k) (sym (ap (option_map request_of) is) ∙ read) in
    subst (λ n. n < 256) (sym (ap (λ (q : ℕ × ℕ). q.0) same)) small

pub row_none : (o : Option Entry) → option_map request_of o ≡ None → (e : Entry) → o ≡ Some e → e.requester < 256
row_none o none e is = absurd (none-some (e.requester, e.number) (sym none ∙ ap (option_map request_of) is))

-- ---- submissions of entries

abbrev placed_at : Entry → ℕ → ℕ × ℕ × ℕ
placed_at x b = (x.requester, x.number, b)

parts_of : (x : Entry) (o : Option ℕ) (i k b : ℕ) → option_map (placed_at x) o ≡ Some (i, k, b) → (x.requester ≡ i) × (x.number ≡ k) × (o ≡ Some b)
parts_of x None i k b e = cc
parts_of x (Some c) i k b e =
    let same : placed_at x c ≡ (i, k, b) = same_Some (placed_at x c) (i, k, b) e in
    (ap (λ (q : ℕ × ℕ × ℕ). q.0) same, ap (λ (q : ℕ × ℕ × ℕ). q.1) same, ap (λ (q : ℕ × ℕ × ℕ). Some q.2) same)

pub was_submitted : (rows : List (List ℕ)) (rs : List Record) (o : Option Entry) (i k b : ℕ) → option_and_then (found_in rows rs) o ≡ Some (i, k, b) → (op : Op) × (o ≡ Some (record { requester = i; number = k; op = op })) × (submitted_in rows rs (record { requester = i; number = k; op = op }) ≡ Some b)
was_submitted rows rs None i k b e = cc
was_submitted rows rs (Some x) i k b e =
    let (e1, e2, e3) = parts_of x (submitted_in rows rs x) i k b e in
    (x.op, rw (sym e1, sym e2) refl, rw (sym e1, sym e2) e3)

none_of : (x : Entry) (o : Option ℕ) → option_map (placed_at x) o ≡ None → o ≡ None
none_of x None e = refl
none_of x (Some c) e = cc

pub not_submitted : (rows : List (List ℕ)) (rs : List Record) (o : Option Entry) (x : Entry) → o ≡ Some x → option_and_then (found_in rows rs) o ≡ None → submitted_in rows rs x ≡ None
not_submitted rows rs o x is e = none_of x (submitted_in rows rs x) (sym (ap (option_and_then (found_in rows rs)) is) ∙ e)
