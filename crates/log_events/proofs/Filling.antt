-- Records that get the replies of their history.
use Rattle.std.proofs.Common.{◌≡◌, ◌∙◌, ℕ, zero, suc, ◌+◌, ◌<◌, Bool, true, false, List, [], ◌∷◌, ◌++◌, map, set, take, length, get_or, Option, Some, None, refl, sym, ap, subst, inl, inr, arith, add-one, append_assoc}
use Rattle.std.specs.Prelude.{slice_get, cond, option_map, option_and_then, ◌==◌, ◌||◌, IfNone, IfSome, OnErr, OnOk, Result, Ok, Err, replicate}
use Rattle.std.specs.List.{list_any, cons_option}
use Rattle.std.proofs.lemmas.Bool.{cases_Bool, eqb-true, and_parts}
use Rattle.std.proofs.lemmas.List.{append-nil}
use Rattle.std.proofs.lemmas.Option.{slice_get-map, same_Some}
use Rattle.std.proofs.lemmas.Simd.{map-map}
use Rattle.std.proofs.Math.Seq.{take-suc, take-length}
use Rattle.tlp_core.specs.Ops.{Op}
use Rattle.seq_memory.specs.Entries.{Entry}
use Rattle.seq_memory.specs.Entries.{Reply}
use Rattle.seq_memory.specs.declared.reply.ReplyOf.TheVariants as replies
use Rattle.seq_memory.specs.History.{MemoryView}
use Rattle.seq_memory.specs.Limits.{Extent}
use Rattle.seq_memory.specs.Step.{after, answer}
use Rattle.history_words.specs.Flaws.{at_place}
use Rattle.history_words.specs.Records.{Record}
use Rattle.history_words.specs.declared.record.RecordOf.TheVariants as records
use Rattle.history_words.specs.Claim.{Claim}
use Rattle.history_words.specs.Trace.{is_request}
use Rattle.history_words.specs.TraceView.{observed}
use Rattle.log_runs.specs.declared.Step.{Step}
use Rattle.log_runs.specs.declared.Step.TheVariants as steps
use Rattle.log_runs.specs.Histories.{history_of, with_answer, with_replies, completed}
use Rattle.log_runs.specs.Tasks.{IsWellFormed}
use Rattle.log_events.specs.Formed.{MisformedAt}
use Rattle.log_events.specs.Joined.{partner, ArePartners}
use Rattle.log_events.specs.Completing.{lacks_reply, waits}
use Rattle.trace_store.specs.Changes.{seen_by, submitted, with_reply}

-- ---- one record

by_request : (b : Bool) (i k n : ℕ) (made : Reply) → b ≡ true → ◌≡◌ {A = Record} (records.Ans i k made n) (records.Ans i k (cond b made replies.Done) n)
by_request true i k n made e = refl
by_request false i k n made e = cc

pub when_waiting : (e : Entry) (made : Reply) (r : Record) → waits e r ≡ true → with_reply r made ≡ with_answer e made r
when_waiting e made (records.Sub i k op n) w = cc
when_waiting e made (records.Ans i k replies.Done n) w = by_request (is_request i k e) i k n made w
when_waiting e made (records.Ans i k (replies.Data bytes) n) w = cc
when_waiting e made (records.Ans i k replies.Unsupported n) w = cc
when_waiting e made (records.Ans i k replies.Aborted n) w = cc

pub when_not_waiting : (e : Entry) (made : Reply) (r : Record) → waits e r ≡ false → r ≡ with_answer e made r
when_not_waiting e made (records.Sub i k op n) w = refl
when_not_waiting e made (records.Ans i k replies.Done n) w = ap (λ b. records.Ans i k (cond b made replies.Done) n) (sym w)
when_not_waiting e made (records.Ans i k (replies.Data bytes) n) w = refl
when_not_waiting e made (records.Ans i k replies.Unsupported n) w = refl
when_not_waiting e made (records.Ans i k replies.Aborted n) w = refl

same_submitted : (e : Entry) (made : Reply) (r : Record) → submitted (with_answer e made r) ≡ submitted r
same_submitted e made (records.Sub i k op n) = refl
same_submitted e made (records.Ans i k replies.Done n) = refl
same_submitted e made (records.Ans i k (replies.Data bytes) n) = refl
same_submitted e made (records.Ans i k replies.Unsupported n) = refl
same_submitted e made (records.Ans i k replies.Aborted n) = refl

back_sub : (e : Entry) (made : Reply) (r : Record) (i k n : ℕ) (op : Op) → with_answer e made r ≡ records.Sub i k op n → r ≡ records.Sub i k op n
back_sub e made (records.Sub j l w m) i k n op is = is
back_sub e made (records.Ans j l replies.Done m) i k n op is = cc
back_sub e made (records.Ans j l (replies.Data bytes) m) i k n op is = cc
back_sub e made (records.Ans j l replies.Unsupported m) i k n op is = cc
back_sub e made (records.Ans j l replies.Aborted m) i k n op is = cc

renamed : (told : Reply) (j l m i k n : ℕ) (made reply : Reply) → ◌≡◌ {A = Record} (records.Ans j l made m) (records.Ans i k reply n) → ◌≡◌ {A = Record} (records.Ans j l told m) (records.Ans i k told n)
renamed told j l m i k n made reply is =
    let one : j ≡ i = cc in
    let two : l ≡ k = cc in
    let three : m ≡ n = cc in
    rw (one, two, three) refl

back_ans : (e : Entry) (made : Reply) (r : Record) (i k n : ℕ) (reply : Reply) → with_answer e made r ≡ records.Ans i k reply n → (told : Reply) × (r ≡ records.Ans i k told n)
back_ans e made (records.Sub j l w m) i k n reply is = cc
back_ans e made (records.Ans j l replies.Done m) i k n reply is = (replies.Done, renamed replies.Done j l m i k n _ reply is)
back_ans e made (records.Ans j l (replies.Data bytes) m) i k n reply is = (replies.Data bytes, renamed (replies.Data bytes) j l m i k n _ reply is)
back_ans e made (records.Ans j l replies.Unsupported m) i k n reply is = (replies.Unsupported, renamed replies.Unsupported j l m i k n _ reply is)
back_ans e made (records.Ans j l replies.Aborted m) i k n reply is = (replies.Aborted, renamed replies.Aborted j l m i k n _ reply is)

-- ---- lists

pub map_same : {X : Type 0} → (f : X → X) (xs : List X) → ((c : ℕ) (x : X) → slice_get xs c ≡ Some x → f x ≡ x) → map f xs ≡ xs
map_same f [] h = refl
map_same f (x ∷ xs) h = ap (λ y. y ∷ map f xs) (h zero x refl) ∙ ap (λ ys. x ∷ ys) (map_same f xs (λ c y at. h (suc c) y at))

map_only : {X : Type 0} → (f : X → X) (xs : List X) (a : ℕ) (x : X) → slice_get xs a ≡ Some x → ((c : ℕ) (y : X) → slice_get xs c ≡ Some y → (a ≡ c → ⊥) → f y ≡ y) → map f xs ≡ set xs a (f x)
map_only f [] a x at h = cc
map_only f (y ∷ ys) zero x at h = ap (λ z. f z ∷ map f ys) (same_Some y x at) ∙ ap (λ zs. f x ∷ zs) (map_same f ys (λ c z there. h (suc c) z there (λ e. let no : zero ≡ suc c = e in cc no)))
map_only f (y ∷ ys) (suc a) x at h =
    ap (λ z. z ∷ map f ys) (h zero y refl (λ e. let no : suc a ≡ zero = e in cc no))
    ∙ ap (λ zs. y ∷ zs) (map_only f ys a x at (λ c z there other. h (suc c) z there (λ e. other (let same : suc a ≡ suc c = e in omega arith))))

map_back : {X : Type 0} → (f : X → X) (xs : List X) (a : ℕ) (y : X) → slice_get (map f xs) a ≡ Some y → (x : X) × (slice_get xs a ≡ Some x) × (f x ≡ y)
map_back f [] a y at = cc
map_back f (x ∷ xs) zero y at = (x, refl, same_Some (f x) y at)
map_back f (x ∷ xs) (suc a) y at = map_back f xs a y at

map_there : {X : Type 0} → (f : X → X) (xs : List X) (a : ℕ) (x : X) → slice_get xs a ≡ Some x → slice_get (map f xs) a ≡ Some (f x)
map_there f xs a x at = slice_get-map f xs a ∙ ap (option_map f) at

-- ---- what belongs together, and the history, stay

module _ (ps : List ℕ) (rs : List Record) (p : ArePartners ps rs) (e : Entry) (made : Reply) where
  abbrev f : Record → Record
  f = with_answer e made

  pub partners_kept : ArePartners ps (map f rs)
  partners_kept = record {
    submission = λ a i k n reply at.
        let (r, there, is) = map_back f rs a (records.Ans i k reply n) at in
        let (told, was) = back_ans e made r i k n reply is in
        let (b, m, op, sub, other) = p.submission a i k n told (there ∙ ap Some was) in
        (b, m, op, map_there f rs b (records.Sub i k op m) sub, other);
    answer = λ a b i k n m op reply sub ans.
        let (r, there, is) = map_back f rs a (records.Ans i k reply n) ans in
        let (told, was) = back_ans e made r i k n reply is in
        let (q, here, same) = map_back f rs b (records.Sub i k op m) sub in
        p.answer a b i k n m op told (here ∙ ap Some (back_sub e made q i k m op same)) (there ∙ ap Some was);
  }

  same_entry : (o : Option Record) → option_and_then submitted (option_map f o) ≡ option_and_then submitted o
  same_entry None = refl
  same_entry (Some r) = same_submitted e made r

  pub history_kept : (ys : List Step) → history_of (map f rs) ys ≡ history_of rs ys
  history_kept [] = refl
  history_kept (steps.Pass ∷ ys) = history_kept ys
  history_kept (steps.Act b ∷ ys) =
      ap (λ o. cons_option o (history_of (map f rs) ys)) (ap (option_and_then submitted) (slice_get-map f rs b) ∙ same_entry (slice_get rs b))
      ∙ ap (cons_option (option_and_then submitted (slice_get rs b))) (history_kept ys)

  -- only the answer that belongs to the submission changes
  module _ (b n : ℕ) (sub : slice_get rs b ≡ Some (records.Sub e.requester e.number e.op n)) where
    other : (c : ℕ) (r : Record) → slice_get rs c ≡ Some r → (partner ps b ≡ Some c → ⊥) → f r ≡ r
    other c (records.Sub i k op m) at apart = refl
    other c (records.Ans i k (replies.Data bytes) m) at apart = refl
    other c (records.Ans i k replies.Unsupported m) at apart = refl
    other c (records.Ans i k replies.Aborted m) at apart = refl
    other c (records.Ans i k replies.Done m) at apart = elim (cases_Bool (is_request i k e)) [
      | inl hit ↦
          let (one, two) = and_parts (i == e.requester) (k == e.number) hit in
          let who : i ≡ e.requester = eqb-true i e.requester one in
          let number : k ≡ e.number = eqb-true k e.number two in
          absurd (apart (p.answer c b e.requester e.number m n e.op replies.Done sub (at ∙ rw (who, number) refl)))
      | inr miss ↦ ap (λ v. records.Ans i k (cond v made replies.Done) m) miss
    ]

    module _ (new : List Record) (some : (a : ℕ) (r : Record) → partner ps b ≡ Some a → slice_get rs a ≡ Some r → new ≡ set rs a (f r)) (past : (a : ℕ) → partner ps b ≡ Some a → slice_get rs a ≡ None → new ≡ rs) (none : partner ps b ≡ None → new ≡ rs) where
      at_answer : (a : ℕ) (o : Option Record) → partner ps b ≡ Some a → slice_get rs a ≡ o → new ≡ map f rs
      at_answer a None is at = past a is at ∙ sym (map_same f rs (λ c r there. other c r there (λ e.
          let same : a ≡ c = same_Some a c (sym is ∙ e) in
          let no : None ≡ Some r = sym at ∙ ap (slice_get rs) same ∙ there in
          cc no)))
      at_answer a (Some r) is at = some a r is at ∙ sym (map_only f rs a r at (λ c q there apart. other c q there (λ e. apart (same_Some a c (sym is ∙ e)))))

      pub is_map : new ≡ map f rs
      is_map = by (partner ps b) refl
        where
          by : (o : Option ℕ) → partner ps b ≡ o → new ≡ map f rs
          by None is = none is ∙ sym (map_same f rs (λ c r there. other c r there (λ e. let no : None ≡ Some c = sym is ∙ e in cc no)))
          by (Some a) is = at_answer a (slice_get rs a) is refl

-- ---- what waits gets the reply

set_itself : {X : Type 0} → (xs : List X) (a : ℕ) (x : X) → slice_get xs a ≡ Some x → xs ≡ set xs a x
set_itself [] a x at = cc
set_itself (y ∷ ys) zero x at = ap (λ z. z ∷ ys) (same_Some y x at)
set_itself (y ∷ ys) (suc a) x at = ap (λ zs. y ∷ zs) (set_itself ys a x at)

-- the record at the place that is told waits for the reply of the entry's request
abbrev pub Waits : List Record → Option ℕ → Entry → ℕ → Type 0
Waits rs other e a = (r : Record) × (other ≡ Some a) × (slice_get rs a ≡ Some r) × (waits e r ≡ true)

-- none does
abbrev pub WaitsNot : List Record → Option ℕ → Entry → Type 0
WaitsNot rs other e = (a : ℕ) (r : Record) → other ≡ Some a → slice_get rs a ≡ Some r → waits e r ≡ false

-- ---- a request acts

-- the same of the records that were lent, and of the partner that was found
pub waits_there : (lent rs : List Record) (ps : List ℕ) (b : ℕ) (o : Option ℕ) (e : Entry) (a : ℕ) → lent ≡ rs → o ≡ partner ps b → Waits lent o e a → Waits rs (partner ps b) e a
waits_there lent rs ps b o e a same is w = subst (λ (ys : List Record). Waits ys (partner ps b) e a) same (subst (λ (p : Option ℕ). Waits lent p e a) is w)

pub waits_not_there : (lent rs : List Record) (ps : List ℕ) (b : ℕ) (o : Option ℕ) (e : Entry) → lent ≡ rs → o ≡ partner ps b → WaitsNot lent o e → WaitsNot rs (partner ps b) e
waits_not_there lent rs ps b o e same is w = subst (λ (ys : List Record). WaitsNot ys (partner ps b) e) same (subst (λ (p : Option ℕ). WaitsNot lent p e) is w)

asked : (o : Option Record) (e : Entry) → option_and_then submitted o ≡ Some e → (n : ℕ) × (o ≡ Some (records.Sub e.requester e.number e.op n))
asked None e is = cc
asked (Some (records.Sub i k op n)) e is = (n, ap (λ (g : Entry). Some (records.Sub g.requester g.number g.op n)) (same_Some _ e is))
asked (Some (records.Ans i k reply n)) e is = cc

pub record Acted (x : Extent) (ps m m' : List ℕ) (b : ℕ) (rs new : List Record) : Type 0 where
  pub same : (ys : List Step) → map (completed x m (history_of rs (steps.Act b ∷ ys))) rs ≡ map (completed x m' (history_of new ys)) new
  pub partners : ArePartners ps new

module _ (x : Extent) (ps m m' : List ℕ) (b : ℕ) (rs : List Record) (e : Entry) (made : Reply) (p : ArePartners ps rs) (entry : Some e ≡ option_and_then submitted (slice_get rs b)) (bytes : m' ≡ after x.base x.block m e.op)
    (reply : made ≡ answer x.base x.block m e.op) where
  acted : (new : List Record) → ((a : ℕ) (r : Record) → partner ps b ≡ Some a → slice_get rs a ≡ Some r → new ≡ set rs a (with_answer e made r)) → ((a : ℕ) → partner ps b ≡ Some a → slice_get rs a ≡ None → new ≡ rs)
      → (partner ps b ≡ None → new ≡ rs) → Acted x ps m m' b rs new
  acted new some past none =
      let (n, sub) = asked (slice_get rs b) e (sym entry) in
      let is : new ≡ map (with_answer e made) rs = is_map ps rs p e made b n sub new some past none in
      record {
        same = λ ys.
            let h = history_of rs ys in
            ap (λ o. map (completed x m (cons_option o h)) rs) (sym entry)
            ∙ sym (map-map (completed x (after x.base x.block m e.op) h) (with_answer e (answer x.base x.block m e.op)) rs)
            ∙ ap (λ r. map (completed x (after x.base x.block m e.op) h) (map (with_answer e r) rs)) (sym reply)
            ∙ ap (λ v. map (completed x v h) (map (with_answer e made) rs)) (sym bytes)
            ∙ ap (λ g. map (completed x m' g) (map (with_answer e made) rs)) (sym (history_kept ps rs p e made ys))
            ∙ ap (λ us. map (completed x m' (history_of us ys)) us) (sym is);
        partners = subst (ArePartners ps) (sym is) (partners_kept ps rs p e made);
      }

  pub acted_told : (a : ℕ) (new : List Record) → Waits rs (partner ps b) e a → ((r : Record) → slice_get rs a ≡ Some r → new ≡ set rs a (with_reply r made)) → Acted x ps m m' b rs new
  acted_told a new waiting told =
      let (r, is, at, waited) = waiting in
      acted new
      (λ c q other there.
      let same : a ≡ c = same_Some a c (sym is ∙ other) in
      let it : r ≡ q = same_Some r q (sym at ∙ ap (slice_get rs) same ∙ there) in
      told r at ∙ ap (λ k. set rs k (with_reply r made)) same ∙ ap (set rs c) (when_waiting e made r waited ∙ ap (with_answer e made) it))
      (λ c other there.
      let same : a ≡ c = same_Some a c (sym is ∙ other) in
      let none : None ≡ Some r = sym there ∙ ap (slice_get rs) (sym same) ∙ at in
      cc none)
      (λ other. let none : None ≡ Some a = sym other ∙ is in cc none)

  pub acted_untold : WaitsNot rs (partner ps b) e → Acted x ps m m' b rs rs
  acted_untold free = acted rs (λ a r other at. set_itself rs a (with_answer e made r) (at ∙ ap Some (when_not_waiting e made r (free a r other at)))) (λ a other at. refl) (λ other. refl)

pub nothing_acts : (x : Extent) (m : List ℕ) (b : ℕ) (rs : List Record) → None ≡ option_and_then submitted (slice_get rs b) → (ys : List Step)
    → map (completed x m (history_of rs (steps.Act b ∷ ys))) rs ≡ map (completed x m (history_of rs ys)) rs
nothing_acts x m b rs entry ys = ap (λ o. map (completed x m (cons_option o (history_of rs ys))) rs) (sym entry)

-- a reply that is set changes no history
pub told_memory : {T E : Type 0} (res : Result T E) (old new : Claim) (a : ℕ) (r : Record) (made : Reply) → slice_get old.records a ≡ Some r
    → OnOk res ((q : Record) → slice_get old.records a ≡ Some q → new ≡ record old { records = set old.records a (with_reply q made) }) → OnErr res (new ≡ old) → new.memory ≡ old.memory
told_memory (Ok x) old new a r made at some err = ap (λ (c : Claim). c.memory) (some r at)
told_memory (Err x) old new a r made at some err = ap (λ (c : Claim). c.memory) err

-- ---- all steps

pub record Filled (x : Extent) (ps first m : List ℕ) (xs : List Step) (rs now : List Record) (at : ℕ) : Type 0 where
  pub partners : ArePartners ps now
  pub same : (ys : List Step) → map (completed x first (history_of rs (take at xs ++ ys))) rs ≡ map (completed x m (history_of now ys)) now

pub filled_start : (x : Extent) (ps m : List ℕ) (xs : List Step) (rs : List Record) → ArePartners ps rs → Filled x ps m m xs rs rs 0
filled_start x ps m xs rs p = record { partners = p; same = λ ys. refl }

one_more : {X : Type 0} → (xs : List X) (i : ℕ) (x : X) (ys : List X) → i < length xs → x ≡ get_or xs i x → take (i + 1) xs ++ ys ≡ take i xs ++ x ∷ ys
one_more xs i x ys l is =
    ap (λ zs. zs ++ ys) (ap (λ k. take k xs) (add-one i) ∙ take-suc xs i x l ∙ ap (λ w. take i xs ++ w ∷ []) (sym is)) ∙ append_assoc (take i xs) (x ∷ []) ys

pub filled_more : (x : Extent) (ps first m m' : List ℕ) (xs : List Step) (rs now new : List Record) (at : ℕ) (s : Step) → Filled x ps first m xs rs now at → at < length xs → s ≡ get_or xs at s
    → ((ys : List Step) → map (completed x m (history_of now (s ∷ ys))) now ≡ map (completed x m' (history_of new ys)) new) → ArePartners ps new → Filled x ps first m' xs rs new (at + 1)
filled_more x ps first m m' xs rs now new at s f l is step partners = record {
  partners = partners;
  same = λ ys. ap (λ zs. map (completed x first (history_of rs zs)) rs) (one_more xs at s ys l is) ∙ f.same (s ∷ ys) ∙ step ys;
}

-- the records have the replies of the steps so far
pub filled_so_far : (x : Extent) (ps first m : List ℕ) (xs : List Step) (rs now : List Record) (at : ℕ) → Filled x ps first m xs rs now at → now ≡ map (completed x first (history_of rs (take at xs))) rs
filled_so_far x ps first m xs rs now at f =
    sym (map_same (completed x m []) now (λ c r there. refl)) ∙ sym (f.same []) ∙ ap (λ zs. map (completed x first (history_of rs zs)) rs) (append-nil (take at xs))

pub filled_end : (x : Extent) (ps first m : List ℕ) (xs : List Step) (rs now : List Record) (at : ℕ) → at ≡ length xs → Filled x ps first m xs rs now at → now ≡ map (completed x first (history_of rs xs)) rs
filled_end x ps first m xs rs now at over f =
    filled_so_far x ps first m xs rs now at f ∙ ap (λ zs. map (completed x first (history_of rs zs)) rs) (ap (λ n. take n xs) over ∙ take-length xs)

-- no step was done
pub filled_none : (x : Extent) (m : List ℕ) (xs : List Step) (rs : List Record) → rs ≡ map (completed x m (history_of rs (take 0 xs))) rs
filled_none x m xs rs = sym (map_same (completed x m []) rs (λ c r there. refl))

-- ---- what was seen has these replies

pub seen_with : (c d : Claim) (h : List Entry) → d.memory ≡ c.memory → d.records ≡ map (completed (observed (seen_by c)) (replicate c.memory.size 0) h) c.records → seen_by d ≡ with_replies h (seen_by c)
seen_with c d h memory records =
    ap (λ (m : MemoryView). record { base = m.base; size = m.size; block = m.block; records = d.records }) memory
    ∙ ap (λ (rs : List Record). record { base = c.memory.base; size = c.memory.size; block = c.memory.block; records = rs }) records

-- ---- where no reply is lacked, nothing changes

same_if : (e : Entry) (made : Reply) (r : Record) → lacks_reply r ≡ false → with_answer e made r ≡ r
same_if e made (records.Sub i k op n) w = refl
same_if e made (records.Ans i k replies.Done n) w = cc
same_if e made (records.Ans i k (replies.Data bytes) n) w = refl
same_if e made (records.Ans i k replies.Unsupported n) w = refl
same_if e made (records.Ans i k replies.Aborted n) w = refl

record_stays : (x : Extent) (m : List ℕ) (h : List Entry) (r : Record) → lacks_reply r ≡ false → completed x m h r ≡ r
record_stays x m [] r w = refl
record_stays x m (e ∷ h) r w = ap (completed x (after x.base x.block m e.op) h) (same_if e (answer x.base x.block m e.op) r w) ∙ record_stays x (after x.base x.block m e.op) h r w

both_false : (a b : Bool) → (a || b) ≡ false → (a ≡ false) × (b ≡ false)
both_false true b e = cc
both_false false b e = (refl, e)

or_left : (a b : Bool) → a ≡ true → (a || b) ≡ true
or_left true b e = refl
or_left false b e = cc

or_right : (a b : Bool) → b ≡ true → (a || b) ≡ true
or_right true b e = refl
or_right false b e = e

or_none : (a b : Bool) → a ≡ false → b ≡ false → (a || b) ≡ false
or_none true b e f = cc
or_none false b e f = f

pub one_lacks : (f : Record → Bool) (rs : List Record) (i : ℕ) → at_place f rs i ≡ true → list_any f rs ≡ true
one_lacks f [] i at = cc
one_lacks f (r ∷ rs) zero at = or_left (f r) (list_any f rs) at
one_lacks f (r ∷ rs) (suc i) at = or_right (f r) (list_any f rs) (one_lacks f rs i at)

none_to : (f : Record → Bool) (rs : List Record) (i : ℕ) → list_any f (take i rs) ≡ false → at_place f rs i ≡ false → list_any f (take (suc i) rs) ≡ false
none_to f [] zero before at = refl
none_to f [] (suc i) before at = refl
none_to f (r ∷ rs) zero before at = or_none (f r) false at refl
none_to f (r ∷ rs) (suc i) before at = let (one, rest) = both_false (f r) (list_any f (take i rs)) before in or_none (f r) (list_any f (take (suc i) rs)) one (none_to f rs i rest at)

pub none_more : (f : Record → Bool) (rs : List Record) (i : ℕ) → list_any f (take i rs) ≡ false → at_place f rs i ≡ false → list_any f (take (i + 1) rs) ≡ false
none_more f rs i before at = ap (λ n. list_any f (take n rs)) (add-one i) ∙ none_to f rs i before at

pub nothing_lacked : (x : Extent) (m : List ℕ) (h : List Entry) (rs : List Record) → list_any lacks_reply rs ≡ false → rs ≡ map (completed x m h) rs
nothing_lacked x m h [] w = refl
nothing_lacked x m h (r ∷ rs) w =
    let (one, rest) = both_false (lacks_reply r) (list_any lacks_reply rs) w in
    ap (λ y. y ∷ rs) (sym (record_stays x m h r one)) ∙ ap (λ ys. completed x m h r ∷ ys) (nothing_lacked x m h rs rest)

-- ---- the form is right

pub joined_if : (o : Option ℕ) (rs : List Record) (P : Type 0) → IsWellFormed rs → IfSome o (MisformedAt rs) → IfNone o P → P
joined_if None rs P formed wrong joined = joined
joined_if (Some a) rs P formed wrong joined = absurd (formed a wrong.0 wrong.1 wrong.2)

pub other_default : {X : Type 0} → (xs : List X) (i : ℕ) (x y : X) → i < length xs → get_or xs i x ≡ get_or xs i y
other_default [] i x y l = absurd (omega arith)
other_default (z ∷ zs) zero x y l = refl
other_default (z ∷ zs) (suc i) x y l = other_default zs i x y (omega arith)
