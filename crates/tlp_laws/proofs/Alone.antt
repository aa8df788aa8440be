-- A request that is alone in a fabric is the one entry more, and its answer is the memory's.
use Rattle.std.proofs.Common.{ℕ, ◌≡◌, ◌⊎◌, ◌+◌, ◌<◌, ◌≤◌, zero, suc, Bool, true, false, List, [], ◌∷◌, ◌++◌, length, take, map, get_or, Some, refl, sym, ap, ap₂, subst, ◌∙◌, length-append, inl, inr, arith}
use Rattle.std.specs.Prelude.{slice_get, ◌==◌, ◌&&◌, ◌-◌, ◌^◌, nat_lt, if◌then◌else◌, filter_map, Option, None, Result, Ok, Err}
use Rattle.std.specs.List.{list_any}
use Rattle.std.proofs.lemmas.Bool.{cases_eq, cases_lt, ne_eqb, eq-eqb, eqb-false}
use Rattle.std.proofs.lemmas.List.{take-append-le, append-nil}
use Rattle.std.proofs.lemmas.List.Elements.{filter_map-append}
use Rattle.std.proofs.lemmas.Option.{none-some, same_Some}
use Rattle.std.proofs.Math.Seq.{take-length}
use Rattle.tlp_core.specs.TlpView.{TlpView}
use Rattle.tlp_core.specs.Ops.{Op}
use Rattle.tlp_core.specs.Operation.{is_posted}
use Rattle.tlp_core.specs.declared.fault.TlpFault.{TlpFault}
use Rattle.requester_core.specs.declared.fault.SubmitRefusal.{SubmitRefusal}
use Rattle.requester_core.specs.RequesterView.{RequesterView, prepared_by}
use Rattle.seq_memory.specs.Entries.{Entry}
use Rattle.seq_memory.specs.Entries.{Reply}
use Rattle.seq_memory.specs.Limits.{Extent}
use Rattle.seq_memory.specs.Step.{answer}
use Rattle.seq_memory.specs.History.{MemoryView, extent_of, contents, bytes_of, reply_at}
use Rattle.lane_core.specs.Steps.{LaneEndsView}
use Rattle.lane_core.specs.Calls.{content}
use Rattle.history_words.specs.Records.{Record}
use Rattle.history_words.specs.declared.record.RecordOf.TheVariants.{Sub, Ans}
use Rattle.history_words.specs.Trace.{submission, submissions, answers_to, is_request, stands, IsLawful, IsExplained, Explains}
use Rattle.fabric_steps.specs.Fabric.{Fabric, items, whole_of}
use Rattle.fabric_steps.specs.Lists.{one_if, count}
use Rattle.fabric_steps.specs.ListFacts.{count_nil, get_before, get_seam, get_push}
use Rattle.fabric_steps.specs.Packets.{marked_packet}
use Rattle.fabric_steps.specs.Whole.{Whole, MarkedPacket, memory, view, path, up_of, requester_of, entry_of}
use Rattle.fabric_steps.specs.Sound.{Sound, times}
use Rattle.fabric_steps.specs.Trace.{Belongs, submission_count, submitted_by}
use Rattle.fabric_steps.specs.Event.{Event}
use Rattle.fabric_steps.specs.declared.event.EventOf.TheVariants.{Submit}
use Rattle.fabric_steps.specs.Event.{Seen}
use Rattle.fabric_core.specs.Answers.{Happens}
use Rattle.fabric_core.specs.ByParts.{HappensByParts, SubmitsAt}
use Rattle.fabric_core.specs.Kept.{IsSoundFabric, records_of}
use Rattle.fabric_core.specs.Quiet.{IsQuiet}
use Rattle.fabric_core.specs.Runs.{Runs}
use Rattle.packet_engine.specs.Tlp.{requests_of}
use Rattle.tlp_laws.specs.Alone.{IsAlone, IsAnswered}
use Rattle.tlp_laws.proofs.Counting.{own_count}
use Rattle.tlp_laws.proofs.Growing.{Grows, EachEvent, run_grows, SubmitsNothing, submits_nothing, counted_more}

pub record Laws : Type 0 where
  pub each : EachEvent
  pub parts : (f f' : Fabric) (event : Event) (what : Seen) → Happens f event what f' → HappensByParts f event what f'
  pub sound : (f f' : Fabric) (events : List Event) (rs : List Record) → IsSoundFabric f → Runs f events rs f' → IsSoundFabric f'
  pub belongs : (f f' : Fabric) (events : List Event) (rs ss : List Record) → IsSoundFabric f → Runs f events rs f' → Belongs (whole_of f) ss → Belongs (whole_of f') (ss ++ rs)
  pub explained : (f f' : Fabric) (events : List Event) (rs ss : List Record) → IsSoundFabric f → Runs f events rs f' → Belongs (whole_of f) ss → Explains (record { memory = f'.memory; records = ss ++ rs })
  pub answered : (f : Fabric) (rs : List Record) (a i k n : ℕ) (op : Op) → IsSoundFabric f → IsQuiet f → Belongs (whole_of f) rs → slice_get rs a ≡ Some (Sub i k op n) → is_posted op ≡ false → list_any (answers_to i k) rs ≡ true
  pub acted : (p : Whole) (i k : ℕ) → Sound p → p.inward ≡ [] → up_of p i ≡ [] → k < (requester_of p i).next → times i k p.history ≡ 1
  pub all : (f : Fabric) → IsSoundFabric f → IsQuiet f → length f.memory.entries ≡ submitted_by f.requesters
  pub counted : (p : Whole) (rs : List Record) → Belongs p rs → submission_count rs ≡ submitted_by p.requesters
  pub next : (x : Extent) (es fs : List Entry) (e : Entry) → reply_at x (es ++ e ∷ fs) (length es) ≡ Some (answer x.base x.block (contents x es) e.op)

-- ---- a quiet fabric's requests are in its history

no_items : (e : LaneEndsView) → content e ≡ [] → items e ≡ []
no_items e h = ap (map (λ (x : TlpView × ℕ). marked_packet x.0 x.1)) h

lane_is : (lanes : List LaneEndsView) (i : ℕ) → ((k : ℕ) (e : LaneEndsView) → slice_get lanes k ≡ Some e → content e ≡ []) → get_or (map items lanes) i [] ≡ []
lane_is [] i h = refl
lane_is (e ∷ lanes) zero h = no_items e (h zero e refl)
lane_is (e ∷ lanes) (suc i) h = lane_is lanes i (λ k y at. h (suc k) y at)

up_is : (f : Fabric) → IsQuiet f → (i : ℕ) → up_of (whole_of f) i ≡ []
up_is f h zero = refl
up_is f h (suc i) = lane_is f.up i h.up

path_is : (f : Fabric) → IsQuiet f → (i : ℕ) → path (view (whole_of f) i) ≡ f.memory.entries
path_is f q i =
    ap₂ (λ (a b : List MarkedPacket). f.memory.entries ++ (map entry_of a ++ map entry_of b)) (no_items f.inward q.inward) (up_is f q i) ∙ append-nil f.memory.entries

-- as many requests of a requester acted as it submitted
acted_count : (f : Fabric) → IsSoundFabric f → IsQuiet f → (i : ℕ) → requests_of f.memory.entries i ≡ (requester_of (whole_of f) i).next
acted_count f s q i =
    own_count i (requester_of (whole_of f) i).next f.memory.entries
    (λ k. ap (times i k) (sym (path_is f q i)) ∙ (s.sound i).whole k)

abbrev number_in : Result (ℕ × TlpView) SubmitRefusal → ℕ
number_in (Ok p) = p.0
number_in (Err e) = 0

prepared_is : (o : Option TlpFault) (x y : Bool) (n k : ℕ) (t u : TlpView) → prepared_by o x y n t ≡ Ok (k, u) → (k ≡ n) × (y ≡ false)
prepared_is (Some f) x y n k t u h = absurd cc
prepared_is None true y n k t u h = absurd cc
prepared_is None false true n k t u h = absurd cc
prepared_is None false false n k t u h = (sym (ap number_in h), refl)

-- a submission has a number below the last one
few_numbers : (f g : Fabric) (port number : ℕ) (op : Op) → SubmitsAt f port op number g → number < 2 ^ 32 - 1
few_numbers f g port number op h =
    let is = prepared_is _ _ (h.requester.next == 4294967295) h.requester.next number _ h.submits.request h.submits.is_prepared in
    let most = h.submits.sound.numbers in
    let other = eqb-false h.requester.next 4294967295 is.1 in
    strict h.requester.next number is.0 most other
  where
    strict : (n k : ℕ) → k ≡ n → n ≤ 4294967295 → (n ≡ 4294967295 → ⊥) → k < 2 ^ 32 - 1
    strict n k same most other = elim (cases_lt n 4294967295) [
      | inl l ↦ omega (arith, same, l)
      | inr high ↦ absurd (other (omega (arith, most, high)))
    ]

none_times : (i k : ℕ) (es : List Entry) → stands es i k ≡ false → times i k es ≡ 0
unfolding count
none_times i k [] h = count_nil (is_request i k)
none_times i k (e ∷ es) h = by (is_request i k e) refl h (none_times i k es)
  where
    by : (b : Bool) → is_request i k e ≡ b → list_any (is_request i k) (e ∷ es) ≡ false → (stands es i k ≡ false → times i k es ≡ 0) → times i k (e ∷ es) ≡ 0
    by true is s more = absurd (let k = rw is at s in cc k)
    by false is s more = let later = more (rw is at s) in rw is (omega (arith, later))

-- what stands there twice doesn't stand nowhere
was_there : Laws → (f : Fabric) (rs : List Record) (i k : ℕ) → IsSoundFabric f → IsQuiet f → Belongs (whole_of f) rs → k < length (submissions rs i) → stands f.memory.entries i k ≡ false → ⊥
was_there l f rs i k s q b below none =
    let once = l.acted (whole_of f) i k s.sound (no_items f.inward q.inward) (up_is f q i) (let spent = (b.made i).spent in omega (arith, spent, below)) in
    let never = none_times i k f.memory.entries none in
    omega (arith, once, never)

stands_there : (es : List Entry) (p : ℕ) (e : Entry) → slice_get es p ≡ Some e → stands es e.requester e.number ≡ true
stands_there [] p e at = absurd (none-some e at)
stands_there (x ∷ es) zero e at =
    let same : x ≡ e = same_Some x e at in
    rw (same, eq-eqb e.requester e.requester refl, eq-eqb e.number e.number refl) refl
stands_there (x ∷ es) (suc p) e at = by (is_request e.requester e.number x) refl (stands_there es p e at)
  where
    by : (b : Bool) → is_request e.requester e.number x ≡ b → stands es e.requester e.number ≡ true → stands (x ∷ es) e.requester e.number ≡ true
    by true is more = rw is refl
    by false is more = rw is more

-- ---- which request is the new one

-- behind the operations that were submitted before stands this one, of its port
behind : (xs : List Op) (i port number n m : ℕ) (op v : Op) → length xs ≤ m → slice_get (xs ++ submissions (Sub port number op n ∷ []) i) m ≡ Some v → (i ≡ port) × (m ≡ length xs) × (v ≡ op)
behind (x ∷ xs) i port number n zero op v l at = absurd (omega arith)
behind (x ∷ xs) i port number n (suc m) op v l at = let rest = behind xs i port number n m op v (omega arith) at in (rest.0, ap suc rest.1, rest.2)
behind [] i port number n m op v l at = by (cases_eq i port)
  where
    only : (m : ℕ) → slice_get (op ∷ []) m ≡ Some v → (m ≡ 0) × (v ≡ op)
    only zero e = (refl, sym (same_Some op v e))
    only (suc m) e = absurd (none-some v e)

    by : (i ≡ port) ⊎ (i ≡ port → ⊥) → (i ≡ port) × (m ≡ 0) × (v ≡ op)
    by (inl e) = let o = only m (rw (eq-eqb i port e) at at) in (e, o.0, o.1)
    by (inr ne) = absurd (none-some v (rw (ne_eqb i port ne) at at))

one_entry : (es : List Entry) → length es ≡ 1 → (e : Entry) × (es ≡ e ∷ [])
one_entry [] h = absurd (omega arith)
one_entry (e ∷ []) h = (e, refl)
one_entry (e ∷ x ∷ es) h = absurd (omega arith)

nothing_more : (n : ℕ) → 0 + n ≡ n
nothing_more n = omega arith

is_listed : (rs told later : List Record) (i port number n : ℕ) (op : Op) → told ≡ Sub port number op n ∷ later → submissions later i ≡ []
    → submissions (rs ++ told) i ≡ submissions rs i ++ submissions (Sub port number op n ∷ []) i
is_listed rs told later i port number n op is none =
    ap (λ (t : List Record). submissions (rs ++ t) i) is ∙ filter_map-append (submission i) rs (Sub port number op n ∷ later)
    ∙ ap (λ (ops : List Op). submissions rs i ++ ops)
    (filter_map-append (submission i) (Sub port number op n ∷ []) later ∙ ap (λ (ops : List Op). submissions (Sub port number op n ∷ []) i ++ ops) none ∙ append-nil (submissions (Sub port number op n ∷ []) i))

is_late : Laws → (f : Fabric) (rs : List Record) (i k : ℕ) → IsSoundFabric f → IsQuiet f → Belongs (whole_of f) rs → stands f.memory.entries i k ≡ false → length (submissions rs i) ≤ k
is_late l f rs i k s q b none = elim (cases_lt k (length (submissions rs i))) [
  | inl below ↦ absurd (was_there l f rs i k s q b below none)
  | inr h ↦ omega (arith, h)
]

-- the answer to the last entry is that of the memory before it
is_replied : Laws → (m m' : MemoryView) (e : Entry) (port : ℕ) (op : Op) (before : List Record) (reply : Reply) (n : ℕ)
    → extent_of m' ≡ extent_of m → m'.entries ≡ m.entries ++ e ∷ [] → e.requester ≡ port → e.op ≡ op → stands m.entries e.requester e.number ≡ false
    → IsExplained m' before port e.number reply n → reply ≡ answer m.base m.block (bytes_of m) op
is_replied l m m' e port op before reply n same more own is once x = by (get_push m.entries e x.point entry (ap (λ (es : List Entry). slice_get es x.point) (sym more) ∙ x.acted))
  where
    entry : Entry
    entry = record { requester = port; number = e.number; op = x.op }

    by : (slice_get m.entries x.point ≡ Some entry) ⊎ ((x.point ≡ length m.entries) × (e ≡ entry)) → reply ≡ answer m.base m.block (bytes_of m) op
    by (inl at) =
        let there : stands m.entries port e.number ≡ true = stands_there m.entries x.point entry at in
        let not_there : stands m.entries port e.number ≡ false = subst (λ (i : ℕ). stands m.entries i e.number ≡ false) own once in
        absurd (let k = sym there ∙ not_there in cc k)
    by (inr last) =
        let shown : reply_at (extent_of m) (m.entries ++ e ∷ []) (length m.entries) ≡ Some reply =
        ap₂ (λ (y : Extent) (es : List Entry). reply_at y es (length m.entries)) (sym same) (sym more)
        ∙ ap (λ (p : ℕ). reply_at (extent_of m') m'.entries p) (sym last.0) ∙ x.replied in
        sym (same_Some (answer m.base m.block (bytes_of m) e.op) reply (sym (l.next (extent_of m) m.entries [] e) ∙ shown))
        ∙ ap (λ (o : Op). answer m.base m.block (bytes_of m) o) is

-- ---- all together

pub is_answered : Laws → (f g : Fabric) (rs told : List Record) (port : ℕ) (op : Op) → IsAlone f rs port op told g → IsAnswered f.memory port op (rs ++ told) g.memory
is_answered l f g rs told port op h =
    let ran = h.runs in
    let first = l.parts f ran.1 (Submit port op) ran.0 ran.3 in
    let n : ℕ = length f.memory.entries in
    let quiet = submits_nothing ran.1 g h.events ran.2 h.nothing ran.4 in
    let told_is : told ≡ Sub port first.0 op n ∷ ran.2 = ran.5 ∙ ap (λ (w : Seen). records_of (Submit port op) w n ++ ran.2) first.1 in
    let sound = l.sound f g (Submit port op ∷ h.events) told h.sound ran in
    let belongs = l.belongs f g (Submit port op ∷ h.events) told rs h.sound ran h.belongs in
    let x = l.explained f g (Submit port op ∷ h.events) told rs h.sound ran h.belongs in
    let grown = run_grows l.each f g (Submit port op ∷ h.events) told h.sound ran in
    let one : length grown.new ≡ 1 =
    let before = l.all f h.sound h.quiet in
    let after = l.all g sound h.rests in
    let counted = l.counted (whole_of f) rs h.belongs ∙ nothing_more (submitted_by f.requesters) in
    let counted_after = l.counted (whole_of g) (rs ++ told) belongs ∙ nothing_more (submitted_by g.requesters) in
    let more = counted_more rs told in
    let told_count : submission_count told ≡ 1 + submission_count ran.2 = ap submission_count told_is in
    let none = quiet.count in
    let long : length g.memory.entries ≡ length f.memory.entries + length grown.new = ap length grown.more ∙ length-append f.memory.entries grown.new in
    omega (arith, before, after, counted, counted_after, more, told_count, none, long) in
    let e = one_entry grown.new one in
    let entries : g.memory.entries ≡ f.memory.entries ++ e.0 ∷ [] = grown.more ∙ ap (λ (es : List Entry). f.memory.entries ++ es) e.1 in
    let there : slice_get g.memory.entries n ≡ Some e.0 = ap (λ (es : List Entry). slice_get es n) entries ∙ get_seam f.memory.entries [] e.0 in
    let lawful = x.legal n e.0 there in
    let start : take n g.memory.entries ≡ f.memory.entries =
    ap (take n) entries ∙ take-append-le n f.memory.entries (e.0 ∷ []) (omega arith) ∙ take-length f.memory.entries in
    let once : stands f.memory.entries e.0.requester e.0.number ≡ false = ap (λ (es : List Entry). stands es e.0.requester e.0.number) (sym start) ∙ lawful.once in
    let listed : submissions (rs ++ told) e.0.requester ≡ submissions rs e.0.requester ++ submissions (Sub port first.0 op n ∷ []) e.0.requester =
    is_listed rs told ran.2 e.0.requester port first.0 n op told_is (quiet.none e.0.requester) in
    let late : length (submissions rs e.0.requester) ≤ e.0.number = is_late l f rs e.0.requester e.0.number h.sound h.quiet h.belongs once in
    let is = behind (submissions rs e.0.requester) e.0.requester port first.0 n e.0.number op e.0.op late (ap (λ (ops : List Op). slice_get ops e.0.number) (sym listed) ∙ lawful.submitted) in
    let entry : Entry = record { requester = port; number = e.0.number; op = op } in
    let at_last : entry ≡ e.0 = ap₂ (λ (i : ℕ) (o : Op). record { requester = i; number = e.0.number; op = o }) (sym is.0) (sym is.2) in
    let sent : slice_get (rs ++ told) (length rs) ≡ Some (Sub port first.0 op n) = ap (λ (t : List Record). slice_get (rs ++ t) (length rs)) told_is ∙ get_seam rs ran.2 (Sub port first.0 op n) in
    let begun : take (length rs) (rs ++ told) ≡ rs = take-append-le (length rs) rs told (omega arith) ∙ take-length rs in
    let same_number : first.0 ≡ e.0.number =
    x.numbered (length rs) port first.0 n op sent ∙ ap (λ (qs : List Record). length (submissions qs port)) begun
    ∙ ap (λ (i : ℕ). length (submissions rs i)) (sym is.0) ∙ sym is.1 in
    record {
      number = e.0.number;
      numbered = is.1 ∙ ap (λ (i : ℕ). length (submissions rs i)) is.0 ∙ (h.belongs.made port).spent ∙ sym (acted_count f h.sound h.quiet port);
      few = subst (λ (k : ℕ). k < 2 ^ 32 - 1) same_number (few_numbers f ran.1 port first.0 op first.2);
      acted = ap₂ memory grown.same (entries ∙ ap (λ (y : Entry). f.memory.entries ++ y ∷ []) (sym at_last));
      answered = λ asks. subst (λ (k : ℕ). list_any (answers_to port k) (rs ++ told) ≡ true) same_number (l.answered g (rs ++ told) (length rs) port first.0 n op sound h.rests belongs sent asks);
      replied = λ a m reply at.
          is_replied l f.memory g.memory e.0 port op (take a (rs ++ told)) reply m grown.same entries is.0 is.2 once (x.linear a port e.0.number m reply at);
    }
