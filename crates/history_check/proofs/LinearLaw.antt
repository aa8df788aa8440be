-- No flaw at an answer: the trace is linear in the history.
use Rattle.std.proofs.Common.{◌≡◌, ℕ, ◌<◌, ◌≤◌, Bool, true, false, List, length, take, Option, Some, None, refl, sym, ap, ◌∙◌, arith}
use Rattle.std.specs.Prelude.{slice_get, ◌==◌, ◌&&◌, not, nat_lt, nat_le, if◌then◌else◌, option_and_then}
use Rattle.std.specs.List.{list_any}
use Rattle.std.specs.Option.{option_or}
use Rattle.std.proofs.lemmas.Bool.{eqb-true, eq-eqb, and_parts, ltb-true, ltb-false, lt-ltb, le-ltb, leb-true, leb-false, lt-leb}
use Rattle.std.proofs.lemmas.Option.{slice_get_within, same_Some, none-some}
use Rattle.tlp_core.specs.Ops.{Op}
use Rattle.tlp_core.specs.Operation.{is_posted}
use Rattle.seq_memory.specs.Entries.{Entry}
use Rattle.seq_memory.specs.Entries.{Reply}
use Rattle.seq_memory.specs.History.{extent_of, reply_at}
use Rattle.history_words.specs.Records.{Record}
use Rattle.history_words.specs.declared.record.RecordOf.TheVariants as records
use Rattle.history_words.specs.declared.flaws.Flaw.{Flaw}
use Rattle.history_words.specs.declared.flaws.FlawKind.{FlawKind}
use Rattle.history_words.specs.declared.flaws.FlawKind.TheVariants as flaws
use Rattle.history_words.specs.Claim.{Claim}
use Rattle.history_words.specs.Trace.{submissions, IsNumbered, answers_to, is_request, IsLegal, IsExplained, Explains}
use Rattle.history_words.specs.Flaws.{some_and, at_place, first_flaw, first_at, numbering_at, entry_at, answer_at, answer_flaw, asked_flaw, point_flaw, acted_flaw, had_later, asks, moment, same_reply, is_sub, sub_place, place_of, Tells}
use Rattle.history_check.proofs.Entries.{passes}
use Rattle.history_check.proofs.Firsts.{first_at-below}
use Rattle.history_check.proofs.Linked.{op_in, op_at, linked_all}
use Rattle.history_check.proofs.Lists.{take_at, at_take, none_passes, passing, no_one, first_of_any, first_is, first_there, first_below, first_above}
use Rattle.history_check.proofs.LegalLaw.{Linked, linked, first_at-all, on_list, numbered_from, numbered_to, legal_from, legal_to}
use Rattle.history_check.proofs.Same.{reply_same, reply_refl}

-- ---- what an answer without a flaw has

record Clean (x : Claim) (a i k n : ℕ) (reply : Reply) : Type 0 where
  place : ℕ
  submitted : sub_place x.records i k ≡ Some place
  earlier : place < a
  asking : at_place asks x.records place ≡ true
  unanswered : list_any (answers_to i k) (take a x.records) ≡ false
  point : ℕ
  acted : place_of x.memory.entries i k ≡ Some point
  not_early : at_place (λ r. nat_lt point (moment r)) x.records place ≡ false
  not_late : nat_le n point ≡ false
  replied : some_and (reply_at (extent_of x.memory) x.memory.entries point) (same_reply reply) ≡ true
  not_stale : list_any (had_later (place_of x.memory.entries) i point) (take place x.records) ≡ false

four : (a b c d : Bool) (w x y z : FlawKind) → (if a then Some w else (if b then Some x else (if not c then Some y else (if d then Some z else None)))) ≡ None → (a ≡ false) × (b ≡ false) × (c ≡ true) × (d ≡ false)
four true b c d w x y z e = cc
four false true c d w x y z e = cc
four false false false d w x y z e = cc
four false false true true w x y z e = cc
four false false true false w x y z e = (refl, refl, refl, refl)

two : (a b : Bool) (x y : FlawKind) (rest : Option FlawKind) → (if not a then Some x else (if b then Some y else rest)) ≡ None → (a ≡ true) × (b ≡ false) × (rest ≡ None)
two false b x y rest e = cc
two true true x y rest e = cc
two true false x y rest e = (refl, refl, e)

clean_at : (x : Claim) (a i k n b p : ℕ) (reply : Reply) → sub_place x.records i k ≡ Some b → b < a → at_place asks x.records b ≡ true → list_any (answers_to i k) (take a x.records) ≡ false → place_of x.memory.entries i k ≡ Some p → acted_flaw x i reply n b p ≡ None → Clean x a i k n reply
clean_at x a i k n b p reply s l asking new acted e =
    let (f1, f2, f3, f4) = four (at_place (λ r. nat_lt p (moment r)) x.records b) (nat_le n p) (some_and (reply_at (extent_of x.memory) x.memory.entries p) (same_reply reply)) (list_any (had_later (place_of x.memory.entries) i p) (take b x.records)) flaws.Early flaws.Late flaws.Reply flaws.Stale e in
    record { place = b; submitted = s; earlier = l; asking = asking; unanswered = new; point = p; acted = acted; not_early = f1; not_late = f2; replied = f3; not_stale = f4 }

clean_point : (x : Claim) (a i k n b : ℕ) (reply : Reply) (o : Option ℕ) → sub_place x.records i k ≡ Some b → b < a → at_place asks x.records b ≡ true → list_any (answers_to i k) (take a x.records) ≡ false → place_of x.memory.entries i k ≡ o → point_flaw x i reply n b o ≡ None → Clean x a i k n reply
clean_point x a i k n b reply None s l asking new acted e = cc
clean_point x a i k n b reply (Some p) s l asking new acted e = clean_at x a i k n b p reply s l asking new acted e

clean_sub : (x : Claim) (a i k n : ℕ) (reply : Reply) (o : Option ℕ) → sub_place x.records i k ≡ o → asked_flaw x a i k reply n o (place_of x.memory.entries i k) ≡ None → Clean x a i k n reply
clean_sub x a i k n reply None s e = cc
clean_sub x a i k n reply (Some b) s e =
    let (f1, f2, rest) = two (nat_lt b a && at_place asks x.records b) (list_any (answers_to i k) (take a x.records)) flaws.Unasked flaws.Again (point_flaw x i reply n b (place_of x.memory.entries i k)) e in
    let (l, asking) = and_parts (nat_lt b a) (at_place asks x.records b) f1 in
    clean_point x a i k n b reply (place_of x.memory.entries i k) s (ltb-true b a l) asking f2 refl rest

clean_from : (x : Claim) → first_at (answer_at x) (length x.records) ≡ None → (a i k n : ℕ) (reply : Reply) → slice_get x.records a ≡ Some (records.Ans i k reply n) → Clean x a i k n reply
unfolding answer_at
clean_from x e a i k n reply at =
    clean_sub x a i k n reply (sub_place x.records i k) refl
    (sym (ap (λ (o : Option Record). option_and_then (answer_flaw x a) o) at)
    ∙ first_at-below (answer_at x) (length x.records) e a (slice_get_within x.records a (records.Ans i k reply n) at))

clean_is : (x : Claim) (a i k n : ℕ) (reply : Reply) → Clean x a i k n reply → answer_flaw x a (records.Ans i k reply n) ≡ None
clean_is x a i k n reply c =
    rw (c.submitted, lt-ltb c.place a c.earlier, c.asking, c.unanswered, c.acted, c.not_early, c.not_late, c.replied, c.not_stale) refl

flawless : (x : Claim) (a : ℕ) (r : Record) → ((i k n : ℕ) (reply : Reply) → r ≡ records.Ans i k reply n → Clean x a i k n reply) → answer_flaw x a r ≡ None
flawless x a (records.Sub i k op n) h = refl
flawless x a (records.Ans i k reply n) h = clean_is x a i k n reply (h i k n reply refl)

clean_to : (x : Claim) → ((a i k n : ℕ) (reply : Reply) → slice_get x.records a ≡ Some (records.Ans i k reply n) → Clean x a i k n reply) → first_at (answer_at x) (length x.records) ≡ None
unfolding answer_at
clean_to x h =
    first_at-all (answer_at x) (length x.records) (λ a l. on_list x.records a (answer_flaw x a) (λ r at. flawless x a r (λ i k n reply is. h a i k n reply (at ∙ ap Some is))))

-- ---- such an answer is explained

record Asked (o : Option Record) (i k : ℕ) : Type 0 where
  op : Op
  since : ℕ
  is : o ≡ Some (records.Sub i k op since)
  not_posted : is_posted op ≡ false

not_true : (b : Bool) → not b ≡ true → b ≡ false
not_true true e = cc
not_true false e = refl

asked_there : (o : Option Record) (i k : ℕ) → some_and o (is_sub i k) ≡ true → some_and o asks ≡ true → Asked o i k
asked_there None i k e asking = cc
asked_there (Some (records.Sub j m op n)) i k e asking =
    let (e1, e2) = and_parts (i == j) (k == m) e in
    record { op = op; since = n; is = rw (eqb-true i j e1, eqb-true k m e2) refl; not_posted = not_true (is_posted op) asking }
asked_there (Some (records.Ans j m reply n)) i k e asking = cc

entry_is : (i k : ℕ) (op : Op) (e : Entry) → i ≡ e.requester → k ≡ e.number → op ≡ e.op → e ≡ record { requester = i; number = k; op = op }
entry_is i k op e e1 e2 e3 = rw (e1, e2, e3) refl

acted_there : (x : Claim) (i k b p since : ℕ) (op : Op) → Linked x.records → IsLegal (submissions x.records) x.memory.entries → sub_place x.records i k ≡ Some b → slice_get x.records b ≡ Some (records.Sub i k op since) → place_of x.memory.entries i k ≡ Some p → slice_get x.memory.entries p ≡ Some (record { requester = i; number = k; op = op })
acted_there x i k b p since op link legal s at acted =
    let f = first_there (is_request i k) x.memory.entries p acted in
    let (e1, e2) = and_parts (i == f.value.requester) (k == f.value.number) f.passes in
    let own = eqb-true i f.value.requester e1 in
    let number = eqb-true k f.value.number e2 in
    let by_law : slice_get (submissions x.records i) k ≡ Some f.value.op = ap (λ j. slice_get (submissions x.records j) k) own ∙ ap (slice_get (submissions x.records f.value.requester)) number ∙ (legal p f.value f.at).submitted in
    let by_place : slice_get (submissions x.records i) k ≡ Some op = link i k ∙ ap (op_at x.records) s ∙ ap (λ (o : Option Record). option_and_then op_in o) at in
    f.at ∙ ap Some (entry_is i k op f.value own number (same_Some op f.value.op (sym by_place ∙ by_law)))

reply_is : (o : Option Reply) (reply : Reply) → some_and o (same_reply reply) ≡ true → o ≡ Some reply
reply_is None reply e = cc
reply_is (Some r) reply e = ap Some (sym (reply_same reply r e))

explained : (x : Claim) (a i k n : ℕ) (reply : Reply) → Linked x.records → IsLegal (submissions x.records) x.memory.entries → ((a i k n : ℕ) (reply : Reply) → slice_get x.records a ≡ Some (records.Ans i k reply n) → Clean x a i k n reply) → Clean x a i k n reply → IsExplained x.memory (take a x.records) i k reply n
explained x a i k n reply link legal all c =
    let asked = asked_there (slice_get x.records c.place) i k (passes (is_sub i k) x.records c.place c.submitted) c.asking in
    record {
      place = c.place;
      op = asked.op;
      since = asked.since;
      point = c.point;
      asked = at_take x.records a c.place (records.Sub i k asked.op asked.since) c.earlier asked.is;
      not_posted = asked.not_posted;
      unanswered = c.unanswered;
      acted = acted_there x i k c.place c.point asked.since asked.op link legal c.submitted asked.is c.acted;
      after_submission = ltb-false c.point asked.since (sym (ap (λ (o : Option Record). some_and o (λ r. nat_lt c.point (moment r))) asked.is) ∙ c.not_early);
      before_answer = leb-false n c.point c.not_late;
      replied = reply_is (reply_at (extent_of x.memory) x.memory.entries c.point) reply c.replied;
      above = λ d j m r l at.
          let (there, within) = take_at x.records a d (records.Ans i j r m) at in
          let q = all d i j m r there in
          let low = none_passes (had_later (place_of x.memory.entries) i c.point) (take c.place x.records) d (records.Ans i j r m) (at_take x.records c.place d (records.Ans i j r m) l there) c.not_stale in
          let test : nat_le c.point q.point ≡ false = sym (rw (eq-eqb i i refl, q.acted) refl) ∙ low in
          first_below (is_request i j) x.memory.entries c.point q.point q.acted (leb-false c.point q.point test);
    }

-- ---- an explained answer has no flaw

has_op : (i k : ℕ) (r : Record) → is_sub i k r ≡ true → (op : Op) × (op_in r ≡ Some op)
has_op i k (records.Sub j m op n) e = (op, refl)
has_op i k (records.Ans j m reply n) e = cc

-- the submission is the first with its number
pub first_sub : (rs : List Record) (b i k n : ℕ) (op : Op) → IsNumbered rs → slice_get rs b ≡ Some (records.Sub i k op n) → sub_place rs i k ≡ Some b
first_sub rs b i k n op numbered at =
    first_is (is_sub i k) rs b (records.Sub i k op n) at (rw (eq-eqb i i refl, eq-eqb k k refl) refl) (no_one (is_sub i k) (take b rs) (λ earlier.
    let (c, place) = first_of_any (is_sub i k) (take b rs) earlier in
    let f = first_there (is_sub i k) (take b rs) c place in
    let (other, is) = has_op i k f.value f.passes in
    let within : b < length rs = slice_get_within rs b (records.Sub i k op n) at in
    let old : slice_get (submissions (take b rs) i) k ≡ Some other = linked_all rs b numbered (omega arith) i k ∙ ap (op_at (take b rs)) place ∙ ap (λ (o : Option Record). option_and_then op_in o) f.at ∙ is in
    let small : k < length (submissions (take b rs) i) = slice_get_within (submissions (take b rs) i) k other old in
    let same : k ≡ length (submissions (take b rs) i) = numbered b i k n op at in
    omega arith))

record Later (place : ℕ → ℕ → Option ℕ) (i p : ℕ) (r : Record) : Type 0 where
  number : ℕ
  reply : Reply
  n : ℕ
  point : ℕ
  is : r ≡ records.Ans i number reply n
  acted : place i number ≡ Some point
  later : p ≤ point

at_least : (o : Option ℕ) (p : ℕ) → some_and o (nat_le p) ≡ true → (q : ℕ) × (o ≡ Some q) × (p ≤ q)
at_least None p e = cc
at_least (Some q) p e = (q, refl, leb-true p q e)

later_there : (place : ℕ → ℕ → Option ℕ) (i p : ℕ) (r : Record) → had_later place i p r ≡ true → Later place i p r
later_there place i p (records.Sub j m op n) e = cc
later_there place i p (records.Ans j m reply n) e =
    let (e1, e2) = and_parts (i == j) (some_and (place j m) (nat_le p)) e in
    let own = eqb-true i j e1 in
    let (q, acted, later) = at_least (place j m) p e2 in
    record { number = m; reply = reply; n = n; point = q; is = ap (λ j. records.Ans j m reply n) (sym own); acted = ap (λ j. place j m) own ∙ acted; later = later }

clean_of : (x : Claim) (a i k n : ℕ) (reply : Reply) → IsNumbered x.records → IsLegal (submissions x.records) x.memory.entries → IsExplained x.memory (take a x.records) i k reply n → Clean x a i k n reply
clean_of x a i k n reply numbered legal e =
    let (at, earlier) = take_at x.records a e.place (records.Sub i k e.op e.since) e.asked in
    let entry : Entry = record { requester = i; number = k; op = e.op } in
    record {
      place = e.place;
      submitted = first_sub x.records e.place i k e.since e.op numbered at;
      earlier = earlier;
      asking = ap (λ (o : Option Record). some_and o asks) at ∙ ap not e.not_posted;
      unanswered = e.unanswered;
      point = e.point;
      acted = first_is (is_request i k) x.memory.entries e.point entry e.acted (rw (eq-eqb i i refl, eq-eqb k k refl) refl) (legal e.point entry e.acted).once;
      not_early = ap (λ (o : Option Record). some_and o (λ r. nat_lt e.point (moment r))) at ∙ le-ltb e.point e.since e.after_submission;
      not_late = lt-leb n e.point e.before_answer;
      replied = ap (λ (o : Option Reply). some_and o (same_reply reply)) e.replied ∙ reply_refl reply;
      not_stale = no_one (had_later (place_of x.memory.entries) i e.point) (take e.place x.records) (λ some.
          let f = passing (had_later (place_of x.memory.entries) i e.point) (take e.place x.records) some in
          let (there, l) = take_at x.records e.place f.place f.value f.at in
          let h = later_there (place_of x.memory.entries) i e.point f.value f.passes in
          let before : slice_get (take a x.records) f.place ≡ Some (records.Ans i h.number h.reply h.n) = at_take x.records a f.place (records.Ans i h.number h.reply h.n) (omega arith) (there ∙ ap Some h.is) in
          let low = first_above (is_request i h.number) x.memory.entries e.point h.point h.acted (e.above f.place h.number h.n h.reply l before) in
          let high = h.later in
          omega arith);
    }

-- ---- the law

both_none : (a b : Option (FlawKind × ℕ)) → option_or a b ≡ None → (a ≡ None) × (b ≡ None)
both_none None b e = (refl, e)
both_none (Some x) b e = cc

pub explains_from : (x : Claim) → first_flaw x ≡ None → Explains x
explains_from x e =
    let (e1, rest) = both_none (first_at (numbering_at x.records) (length x.records)) (option_or (first_at (entry_at x.records x.memory.entries) (length x.memory.entries)) (first_at (answer_at x) (length x.records))) e in
    let (e2, e3) = both_none (first_at (entry_at x.records x.memory.entries) (length x.memory.entries)) (first_at (answer_at x) (length x.records)) rest in
    let numbered = numbered_from x.records e1 in
    let link = linked x.records numbered in
    let legal = legal_from x.records x.memory.entries link e2 in
    let clean = clean_from x e3 in
    record { numbered = numbered; legal = legal; linear = λ a i k n reply at. explained x a i k n reply link legal clean (clean a i k n reply at) }

pub explains_to : (x : Claim) → Explains x → first_flaw x ≡ None
explains_to x good =
    let link = linked x.records good.numbered in
    let e1 = numbered_to x.records good.numbered in
    let e2 = legal_to x.records x.memory.entries link good.legal in
    let e3 = clean_to x (λ a i k n reply at. clean_of x a i k n reply good.numbered good.legal (good.linear a i k n reply at)) in
    ap (λ (o : Option (FlawKind × ℕ)). option_or o (option_or (first_at (entry_at x.records x.memory.entries) (length x.memory.entries)) (first_at (answer_at x) (length x.records)))) e1
    ∙ ap (λ (o : Option (FlawKind × ℕ)). option_or o (first_at (answer_at x) (length x.records))) e2 ∙ e3

-- a flaw that is told refutes it
pub refutes : (x : Claim) (f : Flaw) → Tells (first_flaw x) f → (f.kind ≡ flaws.Memory → ⊥) → Explains x → ⊥
refutes x f t known good = none-some (f.kind, f.place) (sym (explains_to x good) ∙ t.told known)
