-- A run is a history that explains the log.
use Rattle.std.proofs.Common.{◌≡◌, ◌∙◌, ℕ, suc, ◌+◌, ◌<◌, ◌≤◌, true, false, List, [], ◌∷◌, ◌++◌, Option, Some, None, take, drop, length, map, refl, sym, ap, subst, arith, inl, inr, add-one, append_assoc, length-append}
use Rattle.std.specs.Prelude.{slice_get, option_map, option_and_then, replicate}
use Rattle.std.specs.List.{list_any, cons_option}
use Rattle.std.proofs.lemmas.Bool.{cases_lt, cases_eq, cases_Bool, eq-eqb}
use Rattle.std.proofs.lemmas.List.{append-nil, take-append-le, map-append}
use Rattle.std.proofs.Math.Seq.{take-append_seam, take-length, drop-length}
use Rattle.std.proofs.lemmas.Option.{slice_get_within, same_Some}
use Rattle.tlp_core.specs.Ops.{Op}
use Rattle.tlp_core.specs.Operation.{is_posted}
use Rattle.seq_memory.specs.Entries.{Entry}
use Rattle.seq_memory.specs.Entries.{Reply}
use Rattle.seq_memory.specs.declared.reply.ReplyOf.TheVariants as replies
use Rattle.seq_memory.specs.Step.{answer}
use Rattle.seq_memory.specs.History.{contents, contents_at}
use Rattle.history_words.specs.Records.{Record}
use Rattle.history_words.specs.declared.record.RecordOf.TheVariants as records
use Rattle.history_words.specs.TraceView.{TraceView, observed}
use Rattle.history_words.specs.Claim.{claim_of}
use Rattle.history_words.specs.Flaws.{moment}
use Rattle.history_words.specs.Trace.{submissions, answers_to, is_request, stands, IsNumbered, IsLawful, IsLegal, IsExplained, Explains}
use Rattle.history_words.specs.Clocks.{IsClocked}
use Rattle.log_runs.specs.EventView.{EventView}
use Rattle.log_runs.specs.EventView as events
use Rattle.log_runs.specs.declared.Step.{Step}
use Rattle.log_runs.specs.declared.Step.TheVariants as steps
use Rattle.log_runs.specs.LogView.{LogView}
use Rattle.log_runs.specs.Explainable.{AreSeenAs, SeenAlike}
use Rattle.log_runs.specs.Histories.{history_of, timed_from, timed, completed, with_replies}
use Rattle.trace_store.specs.Changes.{submitted, with_n}
use Rattle.log_runs.specs.Runs.{State, MayPass, MayAct, Allowed, Leads, Live, start, next, has_acted, reply_of}
use Rattle.log_runs.specs.Tasks.{known, Says, AreAllEvents, IsWellFormed}
use Rattle.log_runs.proofs.Lists.{some_at, take_more_at, from_take, to_take}
use Rattle.log_runs.proofs.ButN as but
use Rattle.log_runs.proofs.ButN.{without_n, ans_alike}
use Rattle.log_runs.proofs.Alike.{same_submissions, same_answers, same_prefix, sub_alike, sub_back}
use Rattle.log_runs.proofs.Completing.{of_sub, of_known, of_answer, of_done, same_moment, all_seen, timed_completed, completed_at, completed_there}
use Rattle.log_runs.proofs.Numbers.{number_rises, unique, listed, located}
use Rattle.log_runs.proofs.Standing.{stands_at}
use Rattle.log_runs.proofs.Matching.{Matches, matches_start, matches_act}
use Rattle.log_runs.proofs.Ends.{front_or_last, get_front, drop_at, stood, find_asked, Asked}

module _ (t : TraceView) (es : List EventView) (formed : IsWellFormed t.records) (all : AreAllEvents t.records es) where
  abbrev rs : List Record
  rs = t.records

  abbrev log : LogView
  log = record { extent = observed t; events = es }

  abbrev with_records : List Record → TraceView
  with_records us = record { base = t.base; size = t.size; block = t.block; records = us }

  numbered : IsNumbered rs
  numbered a i k n op at = elim (cases_eq k (length (submissions (take a rs) i))) [
    | inl e ↦ e
    | inr d ↦ absurd (formed a (records.Sub i k op n) at d)
  ]

  asked : (a i k n : ℕ) (r : Reply) → slice_get rs a ≡ Some (records.Ans i k r n) → Asked (take a rs) i k
  asked a i k n r at = find_asked (take a rs) i k (λ never. formed a (records.Ans i k r n) at (inl never))

  unanswered : (a i k n : ℕ) (r : Reply) → slice_get rs a ≡ Some (records.Ans i k r n) → list_any (answers_to i k) (take a rs) ≡ false
  unanswered a i k n r at = elim (cases_Bool (list_any (answers_to i k) (take a rs))) [
    | inl twice ↦ absurd (formed a (records.Ans i k r n) at (inr twice))
    | inr none ↦ none
  ]

  -- the submission of an entry has an n that isn't above the index
  record Since (us : List Record) (p : ℕ) (e : Entry) : Type 0 where
    place : ℕ
    n : ℕ
    at : slice_get us place ≡ Some (records.Sub e.requester e.number e.op n)
    before : n ≤ p

  -- after some steps: the records that were passed, with their n's, and the history so far
  record Passed (s : State) (us : List Record) (h : List Entry) : Type 0 where
    count : length us ≡ s.event
    alike : map without_n us ≡ map without_n (take s.event rs)
    matches : Matches rs log s h
    legal : IsLegal (submissions rs) h
    rises : (a b : ℕ) (r q : Record) → a < b → slice_get us a ≡ Some r → slice_get us b ≡ Some q → moment r ≤ moment q
    bounded : (a : ℕ) (r : Record) → slice_get us a ≡ Some r → moment r ≤ length h
    since : (p : ℕ) (e : Entry) → slice_get h p ≡ Some e → Since us p e
    acted : (a i k n : ℕ) (r : Reply) → slice_get us a ≡ Some (records.Ans i k r n) → stands (take n h) i k ≡ true
    replied : (p b n : ℕ) (e : Entry) (r : Reply) → slice_get h p ≡ Some e → slice_get rs b ≡ Some (records.Sub e.requester e.number e.op n) → slice_get es b ≡ Some (events.Sub e.requester e.op (Some r))
        → answer t.base t.block (contents (observed t) (take p h)) e.op ≡ r

  nothing : Passed (start log) [] []
  nothing = record {
    count = refl;
    alike = refl;
    matches = matches_start rs log all.right.len;
    legal = λ p e at. absurd (cc);
    rises = λ a b r q l at there. absurd (cc);
    bounded = λ a r at. absurd (cc);
    since = λ p e at. absurd (cc);
    acted = λ a i k n r at. absurd (cc);
    replied = λ p b n e r at sub event. absurd (cc);
  }

  -- ---- a record is passed

  last_answer : (s : State) (us : List Record) (h : List Entry) → Passed s us h → Allowed log s steps.Pass → (q : Record) → slice_get rs s.event ≡ Some q
      → (i k n : ℕ) (r : Reply) → with_n (length h) q ≡ records.Ans i k r n → stands (take n h) i k ≡ true
  last_answer s us h x a (records.Sub j l op m) at i k n r e = absurd (cc)
  last_answer s us h x a (records.Ans j l w m) at i k n r e =
      let (b, due) = all.due s.event j l m w at in
      let (op, o, sub) = all.right.at s.event (records.Ans j l w m) (events.Due b) at due in
      let done : has_acted s b = subst (MayPass s) due a in
      let stood : stands h j l ≡ true = same_Some (stands h j l) true (sym (x.matches.table b j l o op sub) ∙ done) in
      let one : j ≡ i = cc in
      let two : l ≡ k = cc in
      let three : length h ≡ n = cc in
      rw (← one, ← two, ← three) (ap (λ (g : List Entry). stands g j l) (take-length h) ∙ stood)

  moment_with : (n : ℕ) (q : Record) → moment (with_n n q) ≡ n
  moment_with n (records.Sub i k op m) = refl
  moment_with n (records.Ans i k r m) = refl

  without_with : (n : ℕ) (q : Record) → without_n (with_n n q) ≡ without_n q
  without_with n (records.Sub i k op m) = refl
  without_with n (records.Ans i k r m) = refl

  pass : (s : State) (us : List Record) (h : List Entry) → Passed s us h → Allowed log s steps.Pass → (q : Record) → slice_get rs s.event ≡ Some q
      → Passed (next log s steps.Pass) (us ++ with_n (length h) q ∷ []) h
  pass s us h x a q at =
      let new = with_n (length h) q in
      record {
        count = length-append us (new ∷ []) ∙ ap (λ c. c + 1) x.count;
        alike =
            map-append without_n us (new ∷ []) ∙ ap (λ (ys : List Record). ys ++ without_n new ∷ []) x.alike
            ∙ ap (λ (y : Record). map without_n (take s.event rs) ++ y ∷ []) (without_with (length h) q)
            ∙ sym (ap (map without_n) (take_more_at rs s.event q at) ∙ map-append without_n (take s.event rs) (q ∷ []));
        matches = record { table = x.matches.table; bytes = x.matches.bytes };
        legal = x.legal;
        rises = λ c d r p l here there. front_or_last us new d p (moment r ≤ moment p) there
            (λ m e. front_or_last us new c r (moment r ≤ moment p) here (λ k f. x.rises c d r p l f e) (λ k f. absurd (omega arith)))
            (λ m e.
            let last : moment p ≡ length h = ap moment (sym e) ∙ moment_with (length h) q in
            front_or_last us new c r (moment r ≤ moment p) here (λ k f. omega (arith, x.bounded c r f)) (λ k f. absurd (omega arith)));
        bounded = λ c r here. front_or_last us new c r (moment r ≤ length h) here
            (λ m e. x.bounded c r e)
            (λ m e. let last : moment r ≡ length h = ap moment (sym e) ∙ moment_with (length h) q in omega arith);
        since = λ p e there.
            let f = x.since p e there in
            record { place = f.place; n = f.n; at = get_front us new f.place (records.Sub e.requester e.number e.op f.n) f.at; before = f.before };
        acted = λ c i k n r here. front_or_last us new c (records.Ans i k r n) (stands (take n h) i k ≡ true) here
            (λ m e. x.acted c i k n r e)
            (λ m e. last_answer s us h x a q at i k n r e);
        replied = x.replied;
      }

  -- ---- a request acts

  record Named (b i : ℕ) (op : Op) : Type 0 where
    number : ℕ
    n : ℕ
    at : slice_get rs b ≡ Some (records.Sub i number op n)

  named_by : (b i : ℕ) (op : Op) (told : Option Reply) (r : Record) → slice_get rs b ≡ Some r → Says rs r (events.Sub i op told) → Named b i op
  named_by b i op told (records.Sub j k w n) at says = record { number = k; n = n; at = rw (← says.0, ← says.1) at }
  named_by b i op told (records.Ans j k reply n) at says = absurd says

  named : (b i : ℕ) (op : Op) (told : Option Reply) → slice_get es b ≡ Some (events.Sub i op told) → Named b i op
  named b i op told at =
      let (r, there) = some_at rs b (subst (λ l. b < l) all.right.len (slice_get_within es b (events.Sub i op told) at)) in
      named_by b i op told r there (all.right.at b r (events.Sub i op told) there at)

  told_by : (c i k n : ℕ) (w : Op) (e : EventView) → slice_get es c ≡ Some e → Says rs (records.Sub i k w n) e → (o : Option Reply) × (slice_get es c ≡ Some (events.Sub i w o))
  told_by c i k n w (events.Sub j v o) at says = (o, rw (says.0, says.1) at)
  told_by c i k n w (events.Due d) at says = absurd says
  told_by c i k n w events.Free at says = absurd says

  told : (c i k n : ℕ) (w : Op) → slice_get rs c ≡ Some (records.Sub i k w n) → (o : Option Reply) × (slice_get es c ≡ Some (events.Sub i w o))
  told c i k n w at =
      let (e, there) = some_at es c (subst (λ l. c < l) (sym all.right.len) (slice_get_within rs c (records.Sub i k w n) at)) in
      told_by c i k n w e there (all.right.at c (records.Sub i k w n) e at there)

  abbrev entry : ℕ → ℕ → Op → Entry
  entry i k op = record { requester = i; number = k; op = op }

  lawful : (s : State) (h : List Entry) (b : ℕ) → Matches rs log s h → (a : MayAct log s b) → (m : Named b a.requester a.op) → IsLawful (submissions rs) h (entry a.requester m.number a.op)
  lawful s h b matches a m = record {
    submitted = listed rs numbered b a.requester m.number m.n a.op m.at;
    once = same_Some (stands h a.requester m.number) false (sym (matches.table b a.requester m.number m.n a.op m.at) ∙ a.once);
    ordered = λ j w less at posted.
        let (c, n, sub) = located rs numbered a.requester j w at in
        let (o, event) = told c a.requester j n w sub in
        let before : c < b = elim (cases_lt c b) [
          | inl l ↦ l
          | inr g ↦ elim (cases_eq b c) [
            | inl same ↦
                let eq : Some (records.Sub a.requester m.number a.op m.n) ≡ Some (records.Sub a.requester j w n) = sym m.at ∙ ap (slice_get rs) same ∙ sub in
                let number : m.number ≡ j = cc in
                absurd (omega arith)
            | inr other ↦ absurd (omega (arith, number_rises rs numbered b c a.requester m.number j m.n n a.op w m.at sub (omega arith)))
          ]
        ] in
        same_Some (stands h a.requester j) true (sym (matches.table c a.requester j n w sub) ∙ a.ordered c w o before event posted);
  }

  reply_there : (s : State) (h : List Entry) (b : ℕ) (e : Entry) (r : Reply) → Matches rs log s h → (a : MayAct log s b) → e.op ≡ a.op → slice_get es b ≡ Some (events.Sub e.requester e.op (Some r))
      → answer t.base t.block (contents (observed t) h) e.op ≡ r
  unfolding reply_of
  reply_there s h b e r matches a same event =
      let eq : Some (events.Sub a.requester a.op a.told) ≡ Some (events.Sub e.requester e.op (Some r)) = sym a.submitted ∙ event in
      let is : a.told ≡ Some r = cc in
      rw same (ap (λ m. answer t.base t.block m a.op) (sym matches.bytes) ∙ a.replied r is)

  act : (s : State) (us : List Record) (h : List Entry) (b : ℕ) → Passed s us h → (a : MayAct log s b) → (m : Named b a.requester a.op)
      → Passed (next log s (steps.Act b)) us (h ++ entry a.requester m.number a.op ∷ [])
  act s us h b x a m =
      let e = entry a.requester m.number a.op in
      let front : (p : ℕ) → p ≤ length h → take p (h ++ e ∷ []) ≡ take p h = λ p l. take-append-le p h (e ∷ []) l in
      record {
        count = x.count;
        alike = x.alike;
        matches = matches_act rs log s h b m.n a.requester e a.told numbered m.at a.submitted x.matches;
        legal = λ p f at. front_or_last h e p f (IsLawful (submissions rs) (take p (h ++ e ∷ [])) f) at
            (λ l there. subst (λ g. IsLawful (submissions rs) g f) (sym (front p (omega arith))) (x.legal p f there))
            (λ l same. subst (λ g. IsLawful (submissions rs) g f) (sym (ap (λ q. take q (h ++ e ∷ [])) l ∙ take-append_seam h (e ∷ []))) (subst (IsLawful (submissions rs) h) same (lawful s h b x.matches a m)));
        rises = x.rises;
        bounded = λ c r at. omega (arith, x.bounded c r at, length-append h (e ∷ []));
        since = λ p f at. front_or_last h e p f (Since us p f) at
            (λ l there. x.since p f there)
            (λ l same.
            let inside : slice_get (take s.event rs) b ≡ Some (records.Sub a.requester m.number a.op m.n) = to_take_here s b (records.Sub a.requester m.number a.op m.n) a.since m.at in
            let (n, there) = but.sub_alike (take s.event rs) us (sym x.alike) b a.requester m.number m.n a.op inside in
            subst (Since us p) same (record { place = b; n = n; at = there; before = omega (arith, l, x.bounded b (records.Sub a.requester m.number a.op n) there) }));
        acted = λ c i k n r at. ap (λ (g : List Entry). stands g i k) (front n (x.bounded c (records.Ans i k r n) at)) ∙ x.acted c i k n r at;
        replied = λ p c n f r at sub event. front_or_last h e p f (answer t.base t.block (contents (observed t) (take p (h ++ e ∷ []))) f.op ≡ r) at
            (λ l there. ap (λ (g : List Entry). answer t.base t.block (contents (observed t) g) f.op) (front p (omega arith)) ∙ x.replied p c n f r there sub event)
            (λ l same.
            let here : c ≡ b = unique rs numbered c b a.requester m.number n m.n f.op a.op (rw (← same_who same, ← same_number same) sub) m.at in
            ap (λ (g : List Entry). answer t.base t.block (contents (observed t) g) f.op) (ap (λ q. take q (h ++ e ∷ [])) l ∙ take-append_seam h (e ∷ []))
            ∙ reply_there s h b f r x.matches a (sym (ap (λ (y : Entry). y.op) same)) (ap (slice_get es) (sym here) ∙ event));
      }
    where
      to_take_here : (s : State) (b : ℕ) (r : Record) → b < s.event → slice_get rs b ≡ Some r → slice_get (take s.event rs) b ≡ Some r
      to_take_here s b r l at = to_take rs s.event b r l at

      same_who : {e f : Entry} → e ≡ f → f.requester ≡ e.requester
      same_who same = sym (ap (λ (y : Entry). y.requester) same)

      same_number : {e f : Entry} → e ≡ f → f.number ≡ e.number
      same_number same = sym (ap (λ (y : Entry). y.number) same)

  -- ---- a whole run

  -- all records were passed
  record Whole (us : List Record) (h : List Entry) : Type 0 where
    last : State
    over : last.event ≡ length es
    passed : Passed last us h

  get_all : (s : State) → s.event ≡ length es → drop s.event rs ≡ []
  get_all s over = ap (λ n. drop n rs) (over ∙ all.right.len) ∙ drop-length rs

  record_there : (s : State) → Allowed log s steps.Pass → (q : Record) × (slice_get rs s.event ≡ Some q)
  record_there s a = some_at rs s.event (subst (λ l. s.event < l) all.right.len (within (slice_get es s.event) refl a))
    where
      within : (o : Option EventView) → slice_get es s.event ≡ o → MayPass s o → s.event < length es
      within None at a = absurd a
      within (Some e) at a = slice_get_within es s.event e at

  whole : (xs : List Step) (s last : State) (us : List Record) (h : List Entry) → Leads log s xs last → last.event ≡ length es → Passed s us h
      → Whole (us ++ timed_from (length h) xs (drop s.event rs)) (h ++ history_of rs xs)
  whole [] s last us h leads over x =
      let end : s.event ≡ length es = ap (λ (y : State). y.event) leads ∙ over in
      subst (λ vs. Whole vs (h ++ [])) (sym (ap (λ zs. us ++ zs) (get_all s end) ∙ append-nil us))
      (subst (λ g. Whole us g) (sym (append-nil h)) (record { last = s; over = end; passed = x }))
  whole (steps.Pass ∷ xs) s last us h leads over x =
      let (q, at) = record_there s leads.0 in
      let new = with_n (length h) q in
      let rest = timed_from (length h) xs (drop (s.event + 1) rs) in
      let shown : us ++ timed_from (length h) (steps.Pass ∷ xs) (drop s.event rs) ≡ (us ++ new ∷ []) ++ rest =
      ap (λ ys. us ++ timed_from (length h) (steps.Pass ∷ xs) ys) (drop_at rs s.event q at) ∙ sym (append_assoc us (new ∷ []) rest) in
      subst (λ vs. Whole vs (h ++ history_of rs xs)) (sym shown)
      (whole xs (next log s steps.Pass) last (us ++ new ∷ []) h leads.1 over (pass s us h x leads.0 q at))
  whole (steps.Act b ∷ xs) s last us h leads over x =
      let a = leads.0 in
      let m = named b a.requester a.op a.told a.submitted in
      let e = entry a.requester m.number a.op in
      let more : h ++ history_of rs (steps.Act b ∷ xs) ≡ (h ++ e ∷ []) ++ history_of rs xs =
      ap (λ o. h ++ cons_option (option_and_then submitted o) (history_of rs xs)) m.at ∙ sym (append_assoc h (e ∷ []) (history_of rs xs)) in
      let count : length (h ++ e ∷ []) ≡ suc (length h) = length-append h (e ∷ []) ∙ add-one (length h) in
      subst (λ g. Whole (us ++ timed_from (suc (length h)) xs (drop s.event rs)) g) (sym more)
      (subst (λ c. Whole (us ++ timed_from c xs (drop s.event rs)) ((h ++ e ∷ []) ++ history_of rs xs)) count
      (whole xs (next log s (steps.Act b)) last us (h ++ e ∷ []) leads.1 over (act s us h b x a m)))

  -- ---- what is whole is explained with the replies of its history, and clocked

  module _ (us : List Record) (h : List Entry) (w : Whole us h) where
    x : Passed w.last us h
    x = w.passed

    alike : map without_n us ≡ map without_n rs
    alike = x.alike ∙ ap (λ n. map without_n (take n rs)) (w.over ∙ all.right.len) ∙ ap (map without_n) (take-length rs)

    abbrev zeros : List ℕ
    zeros = replicate t.size 0

    abbrev vs : List Record
    vs = map (completed (observed t) zeros h) us

    seen : AreSeenAs rs vs
    seen = all_seen (observed t) zeros h rs us (sym alike)

    numbered_now : IsNumbered vs
    numbered_now a i k n op at =
        let (m, there) = sub_back rs vs seen a i k n op at in
        numbered a i k m op there ∙ ap length (same_submissions i (take a rs) (take a vs) (same_prefix a rs vs seen))

    legal : IsLegal (submissions vs) h
    legal p e at =
        let f = x.legal p e at in
        let same : submissions rs e.requester ≡ submissions vs e.requester = same_submissions e.requester rs vs seen in
        record {
          submitted = ap (λ ys. slice_get ys e.number) (sym same) ∙ f.submitted;
          once = f.once;
          ordered = λ j op less listed_there posted. f.ordered j op less (ap (λ ys. slice_get ys j) same ∙ listed_there) posted;
        }

    since : (p b n : ℕ) (e : Entry) (op : Op) → slice_get h p ≡ Some e → slice_get vs b ≡ Some (records.Sub e.requester e.number op n) → (n ≤ p) × (op ≡ e.op)
    since p b n e op at sub =
        let f = x.since p e at in
        let there : slice_get vs f.place ≡ Some (records.Sub e.requester e.number e.op f.n) =
        completed_there (observed t) zeros h us f.place (records.Sub e.requester e.number e.op f.n) f.at ∙ ap Some (of_sub (observed t) zeros h e.requester e.number f.n e.op) in
        let same : b ≡ f.place = unique vs numbered_now b f.place e.requester e.number n f.n op e.op sub there in
        let eq : Some (records.Sub e.requester e.number op n) ≡ Some (records.Sub e.requester e.number e.op f.n) = sym sub ∙ ap (slice_get vs) same ∙ there in
        let one : f.n ≡ n = cc in
        let two : op ≡ e.op = cc in
        (subst (λ m. m ≤ p) one f.before, two)

    rises : (a b : ℕ) (r q : Record) → a < b → slice_get vs a ≡ Some r → slice_get vs b ≡ Some q → moment r ≤ moment q
    rises a b r q l at there =
        let (r', here, one) = completed_at (observed t) zeros h us a r at in
        let (q', near, two) = completed_at (observed t) zeros h us b q there in
        subst (λ m. m ≤ moment q) (sym (same_moment (observed t) zeros h r') ∙ ap moment one)
        (subst (λ m. moment r' ≤ m) (sym (same_moment (observed t) zeros h q') ∙ ap moment two) (x.rises a b r' q' l here near))

    bounded : (a : ℕ) (r : Record) → slice_get vs a ≡ Some r → moment r ≤ length h
    bounded a r at =
        let (r', here, one) = completed_at (observed t) zeros h us a r at in
        subst (λ m. m ≤ length h) (sym (same_moment (observed t) zeros h r') ∙ ap moment one) (x.bounded a r' here)

    still : (i k n p : ℕ) → stands (take n h) i k ≡ true → n ≤ p → stands (take p h) i k ≡ true
    still i k n p e l =
        let f = stood h n i k e in
        stands_at h f.point p (entry i k f.op) f.at (omega (arith, f.before))

    -- an answer, before it had a reply
    record Told (a i k n : ℕ) (made : Reply) : Type 0 where
      told : Reply
      at : slice_get us a ≡ Some (records.Ans i k told n)
      becomes : completed (observed t) zeros h (records.Ans i k told n) ≡ records.Ans i k made n

    told_of : (a i k n : ℕ) (made : Reply) (r : Record) → slice_get us a ≡ Some r → completed (observed t) zeros h r ≡ records.Ans i k made n → Told a i k n made
    told_of a i k n made (records.Sub j l op m) at is = absurd (let no : records.Sub j l op m ≡ records.Ans i k made n = sym (of_sub (observed t) zeros h j l m op) ∙ is in cc no)
    told_of a i k n made (records.Ans j l y m) at is =
        let c = of_answer (observed t) zeros h j l m y in
        let same : records.Ans j l c.made m ≡ records.Ans i k made n = sym c.is ∙ is in
        let one : j ≡ i = cc in
        let two : l ≡ k = cc in
        let three : m ≡ n = cc in
        record { told = y; at = rw (← one, ← two, ← three) at; becomes = rw (← one, ← two, ← three) (is ∙ rw (one, two, three) refl) }

    told_at : (a i k n : ℕ) (made : Reply) → slice_get vs a ≡ Some (records.Ans i k made n) → Told a i k n made
    told_at a i k n made at =
        let (r, there, is) = completed_at (observed t) zeros h us a (records.Ans i k made n) at in
        told_of a i k n made r there is

    -- the memory's reply is the answer's
    module _ (a i k n p b l : ℕ) (op : Op) (made : Reply) (c : Told a i k n made) (at : slice_get h p ≡ Some (entry i k op)) (sub : slice_get rs b ≡ Some (records.Sub i k op l)) (not_posted : is_posted op ≡ false) where
      made_is : answer t.base t.block (contents (observed t) (take p h)) op ≡ made
      unfolding contents
      made_is = by c.told refl
        where
          same_reply : {y z : Reply} → ◌≡◌ {A = Record} (records.Ans i k y n) (records.Ans i k z n) → y ≡ z
          same_reply e = cc

          own : is_request i k (entry i k op) ≡ true
          own = rw (eq-eqb i i refl, eq-eqb k k refl) refl

          is_known : (y : Reply) → c.told ≡ y → known y ≡ Some y → answer t.base t.block (contents (observed t) (take p h)) op ≡ made
          is_known y e kn =
              let ans : slice_get us a ≡ Some (records.Ans i k y n) = c.at ∙ ap (λ z. Some (records.Ans i k z n)) e in
              let (m, there) = ans_alike us rs alike a i k n y ans in
              let event : slice_get es b ≡ Some (events.Sub i op (Some y)) = all.replied a b i k l m op y sub there ∙ ap (λ o. Some (events.Sub i op o)) kn in
              let stays : records.Ans i k y n ≡ records.Ans i k made n = sym (of_known (observed t) zeros h i k n y kn) ∙ ap (λ z. completed (observed t) zeros h (records.Ans i k z n)) (sym e) ∙ c.becomes in
              x.replied p b l (entry i k op) y at sub event ∙ same_reply stays

          by : (y : Reply) → c.told ≡ y → answer t.base t.block (contents (observed t) (take p h)) op ≡ made
          by replies.Done e =
              same_reply (sym (of_done (observed t) zeros h p i k n (entry i k op) at own (x.legal p (entry i k op) at).once not_posted)
              ∙ ap (λ y. completed (observed t) zeros h (records.Ans i k y n)) (sym e) ∙ c.becomes)
          by (replies.Data bytes) e = is_known (replies.Data bytes) e refl
          by replies.Unsupported e = is_known replies.Unsupported e refl
          by replies.Aborted e = is_known replies.Aborted e refl

    explained : (a i k n : ℕ) (reply : Reply) → slice_get vs a ≡ Some (records.Ans i k reply n)
        → IsExplained (record { base = t.base; size = t.size; block = t.block; entries = h }) (take a vs) i k reply n
    explained a i k n reply at =
        let c = told_at a i k n reply at in
        let (m, there) = ans_alike us rs alike a i k n c.told c.at in
        let q = asked a i k m c.told there in
        let (l, sub) = sub_alike (take a rs) (take a vs) (same_prefix a rs vs seen) q.place i k q.n q.op q.at in
        let (whole_sub, before) = from_take vs a q.place (records.Sub i k q.op l) sub in
        let (whole_rs, _) = from_take rs a q.place (records.Sub i k q.op q.n) q.at in
        let f = stood h n i k (x.acted a i k n c.told c.at) in
        let (low, same) = since f.point q.place l (entry i k f.op) q.op f.at whole_sub in
        record {
          place = q.place;
          op = q.op;
          since = l;
          point = f.point;
          asked = sub;
          not_posted = q.not_posted;
          unanswered = sym (same_answers i k (take a rs) (take a vs) (same_prefix a rs vs seen)) ∙ unanswered a i k m c.told there;
          acted = f.at ∙ ap (λ o. Some (entry i k o)) (sym same);
          after_submission = low;
          before_answer = f.before;
          replied =
              ap (option_map (λ (e : Entry). answer t.base t.block (contents_at (observed t) h f.point) e.op)) f.at
              ∙ ap Some (made_is a i k n f.point q.place q.n f.op reply c f.at (rw (← same) whole_rs) (rw (← same) q.not_posted));
          above = λ d j o r less ans.
              let (whole_ans, _) = from_take vs a d (records.Ans i j r o) ans in
              let g = told_at d i j o r whole_ans in
              still i j o f.point (x.acted d i j o g.told g.at)
              (omega (arith, rises d q.place (records.Ans i j r o) (records.Sub i k q.op l) less whole_ans whole_sub, low));
        }

    explains : Explains (claim_of (with_records vs) h)
    explains = record { numbered = numbered_now; legal = legal; linear = explained }

    clocked : IsClocked (claim_of (with_records vs) h)
    clocked = record {
      rises = rises;
      bounded = bounded;
      after_submission = λ p b n e op at sub. (since p b n e op at sub).0;
    }

  module _ (run : Live log (start log)) where
    abbrev history : List Entry
    history = history_of rs run.steps

    abbrev made : List Record
    made = timed_from 0 run.steps (map (completed (observed t) (replicate t.size 0) history) rs)

    all_passed : Whole (timed_from 0 run.steps rs) history
    all_passed = whole run.steps (start log) run.last [] [] run.leads run.over nothing

    order : map (completed (observed t) (replicate t.size 0) history) (timed_from 0 run.steps rs) ≡ made
    order = sym (timed_completed (observed t) (replicate t.size 0) history 0 run.steps rs)

    pub run_explains : Explains (claim_of (timed run.steps (with_replies history t)) history)
    run_explains = subst (λ ys. Explains (claim_of (with_records ys) history)) order (explains (timed_from 0 run.steps rs) history all_passed)

    pub run_clocked : IsClocked (claim_of (timed run.steps (with_replies history t)) history)
    run_clocked = subst (λ ys. IsClocked (claim_of (with_records ys) history)) order (clocked (timed_from 0 run.steps rs) history all_passed)

    pub run_alike : SeenAlike t (timed run.steps (with_replies history t))
    run_alike = record { base = refl; size = refl; block = refl; records = subst (AreSeenAs rs) order (seen (timed_from 0 run.steps rs) history all_passed) }
