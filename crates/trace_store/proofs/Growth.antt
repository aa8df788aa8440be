-- Records and entries over a list of bytes that grows.
use Rattle.std.proofs.Common.{◌≡◌, ◌∙◌, ap, sym, subst, refl, ℕ, List, [], ◌∷◌, ◌++◌, set}
use Rattle.std.specs.Prelude.{map, Result, Ok, Err, OnErr, Some, None, option_map, slice_get}
use Rattle.std.proofs.Math.Seq.{take-length}
use Rattle.std.proofs.lemmas.List.{map-append, map-set, set-get_or}
use Rattle.std.proofs.lemmas.Option.{slice_get-map, slice_get_within, get_or_from_slice_get}
use Rattle.std.proofs.lemmas.List.Elements.{All-head, All-tail, All-weaker, All-push, All-set, All-get_or}
use Rattle.seq_memory.specs.Entries.{Entry, Reply}
use Rattle.history_words.specs.Records.{Record}
use Rattle.history_words.specs.declared.record.RecordOf.TheVariants as records
use Rattle.history_words.specs.TraceView.{TraceView}
use Rattle.std.specs.List.{All}
use Rattle.seq_memory.specs.Limits.{Extent}
use Rattle.trace_store.specs.declared.stored.StoredRecord.{StoredRecord}
use Rattle.trace_store.specs.declared.stored.RecordKind.{RecordKind}
use Rattle.trace_store.specs.declared.stored.RecordKind.TheVariants as kinds
use Rattle.trace_store.specs.declared.stored.StoredEntry.{StoredEntry}
use Rattle.trace_store.specs.declared.kept.Fields.{Fields}
use Rattle.trace_store.specs.declared.kept.OpKind.{OpKind}
use Rattle.trace_store.specs.declared.kept.ReplyKind.{ReplyKind}
use Rattle.trace_store.specs.Changes.{with_n, with_reply}
use Rattle.trace_store.specs.Kept.{Grows, reply_in}
use Rattle.trace_store.specs.Stored.{record_in, record_by, entry_in, HasKind, HasRecord, HasEntry, seen_in}
use Rattle.trace_store.proofs.Stays.{op_stays, reply_stays, op_remains, reply_remains}

kind_stays : (old new : List ℕ) (h : StoredRecord) (k : RecordKind) → Grows old new → HasKind old h.fields k → record_by new h k ≡ record_by old h k
kind_stays old new h (kinds.Sub k) g has = rw (op_stays old new k h.fields g has) refl
kind_stays old new h (kinds.Ans k) g has = rw (reply_stays old new k h.fields g has) refl

kind_remains : (old new : List ℕ) (h : StoredRecord) (k : RecordKind) → Grows old new → HasKind old h.fields k → HasKind new h.fields k
kind_remains old new h (kinds.Sub k) g has = op_remains old new k h.fields g has
kind_remains old new h (kinds.Ans k) g has = reply_remains old new k h.fields g has

-- a map that is the same on each element
map_same : {X Y : Type 0} → (P : X → Type 0) (f g : X → Y) → ((x : X) → P x → g x ≡ f x) → (xs : List X) → All P xs → map g xs ≡ map f xs
map_same P f g same [] has = refl
map_same P f g same (x ∷ xs) has = rw (same x (All-head P x xs has), map_same P f g same xs (All-tail P x xs has)) refl

-- all records are there after bytes were put behind the others
pub records_there : (old new : List ℕ) (rs : List StoredRecord) → Grows old new → All (HasRecord old) rs → All (HasRecord new) rs
records_there old new rs g has = All-weaker (HasRecord old) (HasRecord new) (λ h p. kind_remains old new h h.kind g p) rs has

pub entries_there : (old new : List ℕ) (es : List StoredEntry) → Grows old new → All (HasEntry old) es → All (HasEntry new) es
entries_there old new es g has = All-weaker (HasEntry old) (HasEntry new) (λ h p. op_remains old new h.kind h.fields g p) es has

-- and are the same
pub same_records : (old new : List ℕ) (rs : List StoredRecord) → Grows old new → All (HasRecord old) rs → map (record_in new) rs ≡ map (record_in old) rs
same_records old new rs g has = map_same (HasRecord old) (record_in old) (record_in new) (λ h p. kind_stays old new h h.kind g p) rs has

pub same_entries : (old new : List ℕ) (es : List StoredEntry) → Grows old new → All (HasEntry old) es → map (entry_in new) es ≡ map (entry_in old) es
same_entries old new es g has = map_same (HasEntry old) (entry_in old) (entry_in new) (λ h p. rw (op_stays old new h.kind h.fields g p) refl) es has

pub same_seen : (x : Extent) (old new : List ℕ) (rs : List StoredRecord) → Grows old new → All (HasRecord old) rs → seen_in x new rs ≡ seen_in x old rs
same_seen x old new rs g has = rw (same_records old new rs g has) refl

-- where no record was added
pub records_still : (old new : List ℕ) (rs now : List StoredRecord) → Grows old new → All (HasRecord old) rs → now ≡ rs → All (HasRecord new) now
records_still old new rs now g has e = rw e (records_there old new rs g has)

pub seen_still : (x : Extent) (old new : List ℕ) (rs now : List StoredRecord) (v : TraceView) → Grows old new → All (HasRecord old) rs → now ≡ rs → seen_in x old rs ≡ v → seen_in x new now ≡ v
seen_still x old new rs now v g has e ev = rw e (same_seen x old new rs g has ∙ ev)

-- a record is put behind the others
pub record_there : (old new : List ℕ) (rs now : List StoredRecord) (h : StoredRecord) → Grows old new → All (HasRecord old) rs → HasRecord new h → now ≡ rs ++ h ∷ [] → All (HasRecord new) now
record_there old new rs now h g has at e = rw e (All-push (HasRecord new) rs h (records_there old new rs g has) at)

pub record_added : (x : Extent) (old new : List ℕ) (rs now : List StoredRecord) (h : StoredRecord) (r : Record) (v : TraceView) → Grows old new → All (HasRecord old) rs → now ≡ rs ++ h ∷ [] → record_in new h ≡ r → seen_in x old rs ≡ v → seen_in x new now ≡ record { base = v.base; size = v.size; block = v.block; records = v.records ++ r ∷ [] }
record_added x old new rs now h r v g has e er ev =
    let same : seen_in x new rs ≡ v = same_seen x old new rs g has ∙ ev in
    let pushed : map (record_in new) now ≡ map (record_in new) rs ++ r ∷ [] =
    ap (λ (hs : List StoredRecord). map (record_in new) hs) e ∙ map-append (record_in new) rs (h ∷ []) ∙ ap (λ (t : Record). map (record_in new) rs ++ t ∷ []) er in
    ap (λ (rs : List Record). record { base = x.base; size = x.size; block = x.block; records = rs }) pushed
    ∙ ap (λ (t : TraceView). record { base = t.base; size = t.size; block = t.block; records = t.records ++ r ∷ [] }) same

-- where no entry was added
pub entries_still : (old new : List ℕ) (es now : List StoredEntry) → Grows old new → All (HasEntry old) es → now ≡ es → All (HasEntry new) now
entries_still old new es now g has e = rw e (entries_there old new es g has)

pub same_still : (old new : List ℕ) (es now : List StoredEntry) → Grows old new → All (HasEntry old) es → now ≡ es → map (entry_in new) now ≡ map (entry_in old) es
same_still old new es now g has e = rw e (same_entries old new es g has)

-- an entry is put behind the others
pub entry_there : (old new : List ℕ) (es now : List StoredEntry) (h : StoredEntry) → Grows old new → All (HasEntry old) es → HasEntry new h → now ≡ es ++ h ∷ [] → All (HasEntry new) now
entry_there old new es now h g has at e = rw e (All-push (HasEntry new) es h (entries_there old new es g has) at)

pub entry_added : (old new : List ℕ) (es now : List StoredEntry) (h : StoredEntry) (y : Entry) → Grows old new → All (HasEntry old) es → now ≡ es ++ h ∷ [] → entry_in new h ≡ y → map (entry_in new) now ≡ map (entry_in old) es ++ y ∷ []
entry_added old new es now h y g has e ey =
    ap (λ (hs : List StoredEntry). map (entry_in new) hs) e ∙ map-append (entry_in new) es (h ∷ [])
    ∙ ap (λ (ys : List Entry). ys ++ entry_in new h ∷ []) (same_entries old new es g has) ∙ ap (λ (t : Entry). map (entry_in old) es ++ t ∷ []) ey

-- the record at a place is replaced
some_is : {X : Type 0} → (x y : X) → Some x ≡ Some y → x ≡ y
some_is x y e = cc

pub replaced_there : (old new : List ℕ) (rs now : List StoredRecord) (place : ℕ) (h : StoredRecord) → Grows old new → All (HasRecord old) rs → HasRecord new h → now ≡ set rs place h → All (HasRecord new) now
replaced_there old new rs now place h g has at e = rw e (All-set (HasRecord new) rs place h at (records_there old new rs g has))

pub replaced : (x : Extent) (old new : List ℕ) (rs now : List StoredRecord) (place : ℕ) (stored h : StoredRecord) (made : Record → Record) (v : TraceView)
    → Grows old new → All (HasRecord old) rs → slice_get rs place ≡ Some stored → now ≡ set rs place h → record_in new h ≡ made (record_in old stored) → seen_in x old rs ≡ v
    → (r : Record) → slice_get v.records place ≡ Some r → seen_in x new now ≡ record { base = v.base; size = v.size; block = v.block; records = set v.records place (made r) }
replaced x old new rs now place stored h made v g has is e eh ev r at =
    let seen : map (record_in old) rs ≡ v.records = ap (λ (t : TraceView). t.records) ev in
    let there : slice_get v.records place ≡ Some (record_in old stored) =
    ap (λ (ys : List Record). slice_get ys place) (sym seen) ∙ slice_get-map (record_in old) rs place ∙ ap (option_map (record_in old)) is in
    let one : record_in old stored ≡ r = some_is (record_in old stored) r (sym there ∙ at) in
    let changed : map (record_in new) now ≡ set v.records place (made r) =
    ap (λ (hs : List StoredRecord). map (record_in new) hs) e ∙ map-set (record_in new) rs place h
    ∙ ap (λ (ys : List Record). set ys place (record_in new h)) (same_records old new rs g has ∙ seen)
    ∙ ap (λ (y : Record). set v.records place y) (eh ∙ ap made one) in
    ap (λ (ys : List Record). record { base = x.base; size = x.size; block = x.block; records = ys }) changed
    ∙ ap (λ (t : TraceView). record { base = t.base; size = t.size; block = t.block; records = set v.records place (made r) }) ev

-- a record that stands there isn't missing
pub not_missing : (x : Extent) (old : List ℕ) (rs : List StoredRecord) (place : ℕ) (stored : StoredRecord) (v : TraceView) → slice_get rs place ≡ Some stored → seen_in x old rs ≡ v → slice_get v.records place ≡ None → {P : Type 0} → P
not_missing x old rs place stored v is ev none =
    let there : slice_get v.records place ≡ Some (record_in old stored) =
    ap (λ (t : TraceView). slice_get t.records place) (sym ev) ∙ slice_get-map (record_in old) rs place ∙ ap (option_map (record_in old)) is in
    absurd (some_none (record_in old stored) (sym there ∙ none))
  where
    some_none : (r : Record) → Some r ≡ None → ⊥
    some_none r e = cc

-- a stored record has its bytes
pub stored_there : (bytes : List ℕ) (rs : List StoredRecord) (place : ℕ) (stored : StoredRecord) → All (HasRecord bytes) rs → slice_get rs place ≡ Some stored → HasRecord bytes stored
stored_there bytes rs place stored has is =
    subst (HasRecord bytes) (get_or_from_slice_get rs place stored stored is) (All-get_or (HasRecord bytes) rs place stored (slice_get_within rs place stored is) has)

-- nothing is added to a list
pub none_added : (bytes : List ℕ) → Grows bytes bytes
none_added bytes = take-length bytes

-- a record with another n
pub moved : (bytes : List ℕ) (h : StoredRecord) (n : ℕ) (k : RecordKind) → record_by bytes (record { fields = h.fields; n = n; number = h.number; requester = h.requester; kind = h.kind }) k ≡ with_n n (record_by bytes h k)
moved bytes h n (kinds.Sub k) = refl
moved bytes h n (kinds.Ans k) = refl

-- an answer with another reply
pub answered_again : (old new : List ℕ) (h : StoredRecord) (f : Fields) (k : ReplyKind) (made : Reply) (was : ReplyKind) → reply_in new k f ≡ made → record_by new (record { fields = f; n = h.n; number = h.number; requester = h.requester; kind = kinds.Ans k }) (kinds.Ans k) ≡ with_reply (record_by old h (kinds.Ans was)) made
answered_again old new h f k made was e = ap (λ (y : Reply). records.Ans h.requester h.number y h.n) e

-- a submission has no reply
pub no_reply : (x : Extent) (bytes : List ℕ) (rs : List StoredRecord) (place : ℕ) (stored : StoredRecord) (k : OpKind) (v : TraceView) (made : Reply)
    → slice_get rs place ≡ Some stored → stored.kind ≡ kinds.Sub k → seen_in x bytes rs ≡ v
    → (r : Record) → slice_get v.records place ≡ Some r → v ≡ record { base = v.base; size = v.size; block = v.block; records = set v.records place (with_reply r made) }
no_reply x bytes rs place stored k v made is e ev r at =
    let there : slice_get v.records place ≡ Some (record_in bytes stored) =
    ap (λ (t : TraceView). slice_get t.records place) (sym ev) ∙ slice_get-map (record_in bytes) rs place ∙ ap (option_map (record_in bytes)) is in
    let one : r ≡ record_by bytes stored (kinds.Sub k) = some_is r (record_in bytes stored) (sym at ∙ there) ∙ ap (record_by bytes stored) e in
    let same : with_reply r made ≡ r = ap (λ (y : Record). with_reply y made) one ∙ sym one in
    let whole : set v.records place (with_reply r made) ≡ v.records =
    ap (set v.records place) (same ∙ sym (get_or_from_slice_get v.records place r r at)) ∙ set-get_or v.records place r in
    ap (λ (ys : List Record). record { base = v.base; size = v.size; block = v.block; records = ys }) (sym whole)

pub on_err : {T E P : Type 0} → (r : Result T E) → P → OnErr r P
on_err (Ok x) p = tt
on_err (Err e) p = p
