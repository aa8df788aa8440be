-- An explainable log has a run.
use Rattle.std.proofs.Common.{◌≡◌, ◌∙◌, ℕ, zero, suc, ◌+◌, ◌-◌, ◌<◌, ◌≤◌, true, List, [], ◌∷◌, Option, Some, None, take, length, refl, sym, ap, subst, arith, inl, inr}
use Rattle.std.specs.Prelude.{slice_get, option_map}
use Rattle.std.proofs.lemmas.Bool.{cases_lt, cases_eq}
use Rattle.std.proofs.lemmas.Option.{slice_get_within, same_Some}
use Rattle.tlp_core.specs.Ops.{Op}
use Rattle.seq_memory.specs.Entries.{Entry}
use Rattle.seq_memory.specs.Entries.{Reply}
use Rattle.seq_memory.specs.Limits.{Extent}
use Rattle.seq_memory.specs.Step.{answer}
use Rattle.seq_memory.specs.History.{contents, contents_at, reply_at}
use Rattle.history_words.specs.Records.{Record}
use Rattle.history_words.specs.declared.record.RecordOf.TheVariants as records
use Rattle.history_words.specs.TraceView.{TraceView, observed}
use Rattle.history_words.specs.Claim.{claim_of}
use Rattle.history_words.specs.Flaws.{moment}
use Rattle.history_words.specs.Trace.{stands, Explains}
use Rattle.history_words.specs.Clocks.{IsClocked}
use Rattle.log_runs.specs.EventView.{EventView}
use Rattle.log_runs.specs.EventView as events
use Rattle.log_runs.specs.declared.Step.{Step}
use Rattle.log_runs.specs.declared.Step.TheVariants as steps
use Rattle.log_runs.specs.LogView.{LogView}
use Rattle.log_runs.specs.Explainable.{MayBe, IsSeenAs, AreSeenAs, IsExplainable}
use Rattle.log_runs.specs.Runs.{State, MayPass, MayAct, Allowed, Live, start, next, reply_of}
use Rattle.log_runs.specs.Tasks.{known, Says, AreEvents}
use Rattle.log_runs.proofs.Lists.{clash, some_at, take_more_at}
use Rattle.log_runs.proofs.Alike.{same_length, sub_alike, ans_alike, alike_back}
use Rattle.log_runs.proofs.Numbers.{number_rises, listed, located}
use Rattle.log_runs.proofs.Standing.{stands_at}
use Rattle.log_runs.proofs.Matching.{Matches, matches_start, matches_act}

here : (log : LogView) (s : State) → s.event ≡ length log.events → Live log s
here log s e = record { steps = []; last = s; leads = refl; over = e }

pub before : (log : LogView) (s : State) (x : Step) → Allowed log s x → Live log (next log s x) → Live log s
before log s x a l = record { steps = x ∷ l.steps; last = l.last; leads = (a, l.leads); over = l.over }

-- the events of a submission and of an answer
record SubEvent (rs : List Record) (es : List EventView) (b i k : ℕ) (op : Op) : Type 0 where
  told : Option Reply
  at : slice_get es b ≡ Some (events.Sub i op told)
  because : (r : Reply) → told ≡ Some r → (a : ℕ) × (m : ℕ) × (slice_get rs a ≡ Some (records.Ans i k r m))

sub_event : (rs : List Record) (es : List EventView) (b i k n : ℕ) (op : Op) (e : EventView) → slice_get es b ≡ Some e → Says rs (records.Sub i k op n) e → SubEvent rs es b i k op
sub_event rs es b i k n op (events.Sub j w told) at says =
    record {
      told = told;
      at = rw (says.0, says.1) at;
      because = λ r is.
          let (a, m, ans, is_known) = says.2 r is in
          (a, m, ans);
    }
sub_event rs es b i k n op (events.Due c) at says = absurd says
sub_event rs es b i k n op events.Free at says = absurd says

record Named (rs : List Record) (b i : ℕ) (op : Op) : Type 0 where
  number : ℕ
  n : ℕ
  at : slice_get rs b ≡ Some (records.Sub i number op n)

named : (rs : List Record) (es : List EventView) (b i : ℕ) (op : Op) (told : Option Reply) (r : Record) → slice_get rs b ≡ Some r → Says rs r (events.Sub i op told) → Named rs b i op
named rs es b i op told (records.Sub j k w n) at says = record { number = k; n = n; at = rw (← says.0, ← says.1) at }
named rs es b i op told (records.Ans j k reply n) at says = absurd says

module _ (u : TraceView) (h : List Entry) (x : Explains (claim_of u h)) (c : IsClocked (claim_of u h)) (es : List EventView) (ev : AreEvents u.records es) where
  abbrev log : LogView
  log = record { extent = observed u; events = es }

  inside : (b : ℕ) (r : Record) → slice_get u.records b ≡ Some r → (e : EventView) × (slice_get es b ≡ Some e)
  inside b r at = some_at es b (subst (λ l. b < l) (sym ev.len) (slice_get_within u.records b r at))

  record_of : (b : ℕ) → b < length es → (r : Record) × (slice_get u.records b ≡ Some r)
  record_of b l = some_at u.records b (subst (λ l. b < l) ev.len l)

  event_of : (b i k n : ℕ) (op : Op) → slice_get u.records b ≡ Some (records.Sub i k op n) → SubEvent u.records es b i k op
  event_of b i k n op at =
      let (e, there) = inside b (records.Sub i k op n) at in
      sub_event u.records es b i k n op e there (ev.at b (records.Sub i k op n) e at there)

  name_of : (b i : ℕ) (op : Op) (told : Option Reply) → slice_get es b ≡ Some (events.Sub i op told) → Named u.records b i op
  name_of b i op told at =
      let (r, there) = record_of b (slice_get_within es b (events.Sub i op told) at) in
      named u.records es b i op told r there (ev.at b r (events.Sub i op told) there at)

  -- no request stands twice
  one_point : (p q : ℕ) (e f : Entry) → slice_get h p ≡ Some e → slice_get h q ≡ Some f → e.requester ≡ f.requester → e.number ≡ f.number → p ≡ q
  one_point p q e f at there one two = elim (cases_lt p q) [
    | inl l ↦ absurd (clash (subst (λ k. stands (take q h) f.requester k ≡ true) two (subst (λ i. stands (take q h) i e.number ≡ true) one (stands_at h p q e at l))) (x.legal q f there).once)
    | inr g ↦ elim (cases_lt q p) [
      | inl l ↦ absurd (clash (subst (λ k. stands (take p h) e.requester k ≡ true) (sym two) (subst (λ i. stands (take p h) i f.number ≡ true) (sym one) (stands_at h q p f there l))) (x.legal p e at).once)
      | inr k ↦ omega arith
    ]
  ]

  -- ---- a record is passed

  passes : (s : State) (p : ℕ) (r : Record) (e : EventView) → Matches u.records log s (take p h) → slice_get u.records s.event ≡ Some r → slice_get es s.event ≡ Some e → Says u.records r e → moment r ≤ p → MayPass s (Some e)
  passes s p (records.Sub i k op n) (events.Sub j w told) m at there says due = tt
  passes s p (records.Sub i k op n) (events.Due b) m at there says due = absurd says
  passes s p (records.Sub i k op n) events.Free m at there says due = absurd says
  passes s p (records.Ans i k reply n) events.Free m at there says due = tt
  passes s p (records.Ans i k reply n) (events.Sub j w told) m at there says due = absurd says
  passes s p (records.Ans i k reply n) (events.Due b) m at there says due =
      let f = x.linear s.event i k n reply at in
      let (op, l, sub) = says in
      m.table b i k l op sub ∙ ap Some (stands_at h f.point p (record { requester = i; number = k; op = f.op }) f.acted (omega (arith, f.before_answer)))

  may_pass : (s : State) (p : ℕ) (r : Record) → Matches u.records log s (take p h) → slice_get u.records s.event ≡ Some r → moment r ≤ p → Allowed log s steps.Pass
  may_pass s p r m at due =
      let (e, there) = inside s.event r at in
      subst (MayPass s) (sym there) (passes s p r e m at there (ev.at s.event r e at there) due)

  -- ---- a request acts

  replies : (p i k a n : ℕ) (e : Entry) (r : Reply) → slice_get h p ≡ Some e → e.requester ≡ i → e.number ≡ k → slice_get u.records a ≡ Some (records.Ans i k r n)
      → answer u.base u.block (contents (observed u) (take p h)) e.op ≡ r
  replies p i k a n e r at one two ans =
      let f = x.linear a i k n r ans in
      let same : f.point ≡ p = one_point f.point p (record { requester = i; number = k; op = f.op }) e f.acted at (sym one) (sym two) in
      let told : reply_at (observed u) h p ≡ Some r = subst (λ q. reply_at (observed u) h q ≡ Some r) same f.replied in
      same_Some _ r (sym (ap (λ (o : Option Entry). option_map (λ (e : Entry). answer u.base u.block (contents_at (observed u) h p) e.op) o) at) ∙ told)

  record Acting (p : ℕ) (e : Entry) : Type 0 where
    place : ℕ
    n : ℕ
    sub : slice_get u.records place ≡ Some (records.Sub e.requester e.number e.op n)
    event : SubEvent u.records es place e.requester e.number e.op
    since : n ≤ p

  acting : (p : ℕ) (e : Entry) → slice_get h p ≡ Some e → Acting p e
  acting p e at =
      let (b, n, sub) = located u.records x.numbered e.requester e.number e.op (x.legal p e at).submitted in
      record { place = b; n = n; sub = sub; event = event_of b e.requester e.number n e.op sub; since = c.after_submission p b n e e.op at sub }

  may_act : (s : State) (p : ℕ) (e : Entry) (at : slice_get h p ≡ Some e) (a : Acting p e) → Matches u.records log s (take p h) → a.place < s.event → MayAct log s a.place
  unfolding reply_of
  may_act s p e at a m since = record {
    requester = e.requester;
    op = e.op;
    told = a.event.told;
    submitted = a.event.at;
    since = since;
    once = m.table a.place e.requester e.number a.n e.op a.sub ∙ ap Some (x.legal p e at).once;
    ordered = λ b w r l there posted.
        let f = name_of b e.requester w r there in
        m.table b e.requester f.number f.n w f.at
        ∙ ap Some ((x.legal p e at).ordered f.number w (number_rises u.records x.numbered b a.place e.requester f.number e.number f.n a.n w e.op f.at a.sub l) (listed u.records x.numbered b e.requester f.number f.n w f.at) posted);
    replied = λ r is.
        let (b, l, ans) = a.event.because r is in
        ap (λ y. answer u.base u.block y e.op) m.bytes ∙ replies p e.requester e.number b l e r at refl refl ans;
  }

  matches_next : (s : State) (p : ℕ) (e : Entry) (at : slice_get h p ≡ Some e) (a : Acting p e) → Matches u.records log s (take p h) → Matches u.records log (next log s (steps.Act a.place)) (take (p + 1) h)
  matches_next s p e at a m =
      subst (λ g. Matches u.records log (next log s (steps.Act a.place)) g) (sym (take_more_at h p e at))
      (matches_act u.records log s (take p h) a.place a.n e.requester e a.event.told x.numbered a.sub a.event.at m)

  -- from the state after p entries, with n steps to the end
  run_from : (n : ℕ) (s : State) (p : ℕ) → Matches u.records log s (take p h) → s.event ≤ length es → p ≤ length h → (length es - s.event) + (length h - p) ≡ n → Live log s
  run_from zero s p m le lp e = here log s (omega arith)
  run_from (suc n) s p m le lp e = elim (cases_lt s.event (length es)) [
    | inl within ↦
        let (r, at) = record_of s.event within in
        elim (cases_lt p (moment r)) [
          | inl early ↦
              let lq : p < length h = omega (arith, c.bounded s.event r at) in
              let (f, there) = some_at h p lq in
              let a = acting p f there in
              let since : a.place < s.event = elim (cases_lt a.place s.event) [
                | inl l ↦ l
                | inr g ↦ elim (cases_eq s.event a.place) [
                  | inl same ↦
                      let eq : Some r ≡ Some (records.Sub f.requester f.number f.op a.n) = sym at ∙ ap (slice_get u.records) same ∙ a.sub in
                      let n_is : moment r ≡ a.n = ap moment (same_Some r (records.Sub f.requester f.number f.op a.n) eq) in
                      absurd (omega (arith, a.since))
                  | inr other ↦
                      let rises : moment r ≤ a.n = c.rises s.event a.place r (records.Sub f.requester f.number f.op a.n) (omega arith) at a.sub in
                      absurd (omega (arith, a.since))
                ]
              ] in
              before log s (steps.Act a.place) (may_act s p f there a m since) (run_from n (next log s (steps.Act a.place)) (p + 1) (matches_next s p f there a m) le (omega arith) (omega arith))
          | inr due ↦
              before log s steps.Pass (may_pass s p r m at due)
              (run_from n (next log s steps.Pass) p (record { table = m.table; bytes = m.bytes }) (omega arith) lp (omega arith))
        ]
    | inr over ↦ here log s (omega arith)
  ]

  pub run_of : Live (record { extent = observed u; events = es }) (start (record { extent = observed u; events = es }))
  run_of = run_from (length es + length h) (start log) 0 (matches_start u.records log ev.len) (omega arith) (omega arith) (omega arith)

-- ---- n's of some choice, and replies that the log doesn't have

-- a reply that is known is the one
the_reply : (told made : Reply) → MayBe told made → known told ≡ Some told → told ≡ made
the_reply told made (inl done) is = absurd (let nothing : None ≡ Some told = sym (ap known done) ∙ is in cc nothing)
the_reply told made (inr same) is = same

says_alike : (rs us : List Record) → AreSeenAs rs us → (r s : Record) (e : EventView) → IsSeenAs r s → Says rs r e → Says us s e
says_alike rs us same (records.Sub i k op n) (records.Sub j l w m) (events.Sub v y told) eq says = (
  sym eq.0 ∙ says.0,
  sym eq.2 ∙ says.1,
  λ r is.
      let (a, n, at, is_known) = says.2 r is in
      let (made, p, there, may) = ans_alike rs us same a i k n r at in
      let one : r ≡ made = the_reply r made may is_known in
      (a, p, rw (← eq.0, ← eq.1) (there ∙ ap (λ q. Some (records.Ans i k q p)) (sym one)), is_known),
)
says_alike rs us same (records.Sub i k op n) (records.Sub j l w m) (events.Due b) eq says = absurd says
says_alike rs us same (records.Ans i k r n) (records.Ans j l w m) (events.Due b) eq says =
    let (op, p, at) = says in
    let (q, there) = sub_alike rs us same b i k p op at in
    (op, q, rw (← eq.0, ← eq.1) there)
says_alike rs us same (records.Ans i k r n) (records.Ans j l w m) (events.Sub v y told) eq says = absurd says
says_alike rs us same (records.Sub i k op n) (records.Sub j l w m) events.Free eq says = absurd says
says_alike rs us same (records.Ans i k r n) (records.Ans j l w m) events.Free eq says = tt
says_alike rs us same (records.Sub i k op n) (records.Ans j l w m) e eq says = absurd eq
says_alike rs us same (records.Ans i k r n) (records.Sub j l w m) e eq says = absurd eq

pub events_alike : (rs us : List Record) → AreSeenAs rs us → (es : List EventView) → AreEvents rs es → AreEvents us es
events_alike rs us same es ev = record {
  len = ev.len ∙ same_length rs us same;
  at = λ a s e at there.
      let (r, back, eq) = alike_back rs us same a s at in
      says_alike rs us same r s e eq (ev.at a r e back there);
}

pub has_a_run : (t : TraceView) (es : List EventView) → AreEvents t.records es → IsExplainable t → Live (record { extent = observed t; events = es }) (start (record { extent = observed t; events = es }))
has_a_run t es ev (u, h, alike, explains, clocked) =
    let same : observed u ≡ observed t = rw (alike.base, alike.size, alike.block) refl in
    subst (λ (y : Extent). Live (record { extent = y; events = es }) (start (record { extent = y; events = es }))) same
    (run_of u h explains clocked es (events_alike t.records u.records alike.records es ev))
