-- What a seat knows is true of the fabric.
use Rattle.std.proofs.Common.{◌≡◌, ℕ, zero, suc, ◌<◌, ◌≤◌, true, false, List, [], ◌∷◌, ◌++◌, length, take, refl, sym, ap, ◌∙◌, subst, arith, ⊎_elim, Some}
use Rattle.std.specs.Prelude.{slice_get}
use Rattle.std.specs.List.{list_any}
use mathlib.Core.Logic.{dite}
use native.Mathlib.Decide.{ℕ_discrete, dec_lt}
use Rattle.tlp_core.specs.Ops.{Op}
use Rattle.tlp_core.specs.Operation.{is_posted}
use Rattle.seq_memory.specs.Entries.{Entry}
use Rattle.history_words.specs.declared.record.RecordOf.TheVariants.{Sub, Ans}
use Rattle.history_words.specs.Trace.{submissions, answers_to, is_request}
use Rattle.fabric_steps.specs.Whole.{view}
use Rattle.fabric_steps.specs.Trace.{IsMade}
use Rattle.fabric_steps.specs.Fabric.{Fabric, whole_of}
use Rattle.fabric_core.specs.Runs.{Runs}
use Rattle.hall_laws.proofs.Lists.{answer_is}
use Rattle.hall_laws.specs.declared.token.Knowledge.{Knowledge}
use Rattle.hall_laws.specs.declared.token.Token.{Token}
use Rattle.hall_laws.specs.declared.token.Start.{Start}
use Rattle.hall_laws.specs.Standing.{Table, Seated}
use Rattle.hall_laws.specs.Story.{Tells, Ran, events_in}
use Rattle.hall_laws.specs.Rule.{Traced, IsSoundTraced, Fits, Kept, parts}
use Rattle.hall_laws.specs.Tells.{Has, AnsweredStand}
use Rattle.hall_laws.specs.Knows.{IsTrueOf, IsRuled}
use Rattle.hall_laws.proofs.Totals.{each_map}
use Rattle.hall_laws.proofs.Story.{tells_runs}
use Rattle.hall_laws.proofs.Events.{seat_of}
use Rattle.hall_laws.proofs.Told.{own_request}
use Rattle.hall_laws.proofs.Waits.{test, waits, made_by, any_found, any_at, NoAnswer, Asked, asked_behind, more_made}

get_front : {X : Type 0} (xs ys : List X) (n : ℕ) (x : X) → n < length xs → slice_get (xs ++ ys) n ≡ Some x → slice_get xs n ≡ Some x
get_front [] ys n x less e = absurd (omega arith)
get_front (z ∷ xs) ys zero x less e = e
get_front (z ∷ xs) ys (suc n) x less e = get_front xs ys n x (omega arith) e

get_taken : {X : Type 0} (xs : List X) (n m : ℕ) (x : X) → slice_get (take n xs) m ≡ Some x → (slice_get xs m ≡ Some x) × (m < n)
get_taken [] zero m x e = absurd (cc)
get_taken [] (suc n) m x e = absurd (cc)
get_taken (z ∷ xs) zero m x e = absurd (cc)
get_taken (z ∷ xs) (suc n) zero x e = (e, omega arith)
get_taken (z ∷ xs) (suc n) (suc m) x e = let r = get_taken xs n m x e in (r.0, (let l = r.1 in omega arith))

module _ (s : Traced) (w : Knowledge) (sound : IsSoundTraced s) (f : Fits s w) where
  abbrev own : ℕ
  own = suc w.number

  -- the record that a pending number has, which no record answers
  asked : (k n : ℕ) → Has (k, n) w.pending → (a : ℕ) × (op : Op) × (slice_get s.records a ≡ Some (Sub own k op n)) × (is_posted op ≡ false) × (list_any (answers_to own k) s.records ≡ false)
  asked k n h = ⊎_elim
      (λ (none : Has {X = ℕ × ℕ} (k, n) [] × NoAnswer own k s.records). absurd none.0)
      (λ (x : Asked own k n s.records). (
        x.0,
        x.1,
        x.2,
        x.3,
        ⊎_elim
            (λ (t : list_any (answers_to own k) s.records ≡ true). absurd (
            let b = any_found (answers_to own k) s.records t in
            let is = answer_is own k b.1 b.3 in
            let at : slice_get s.records b.0 ≡ Some (Ans own k is.0 is.1) = b.2 ∙ ap Some is.2 in
            let e = sound.belongs.linear b.0 own k is.1 is.0 at in
            let before = get_taken s.records b.0 e.place (Sub own k e.op e.since) e.asked in
            dite (dec_lt x.0 b.0)
            (λ (behind : x.0 < b.0). x.4 b.0 is.0 is.1 behind at)
            (λ not_behind. dite (ℕ_discrete b.0 x.0)
            (λ same. let two : Some (Sub own k x.1 n) ≡ Some (Ans own k is.0 is.1) = sym x.2 ∙ (ap (slice_get s.records) (sym same) ∙ at) in cc)
            (λ other.
            let first : k ≡ length (submissions (take e.place s.records) own) = sound.belongs.numbered e.place own k e.since e.op before.0 in
            let second : k ≡ length (submissions (take x.0 s.records) own) = sound.belongs.numbered x.0 own k n x.1 x.2 in
            let less : length (submissions (take e.place s.records) own) < length (submissions (take x.0 s.records) own) = more_made own k e.since e.place x.0 e.op s.records before.0 (let l = before.1 in omega arith) in
            omega arith))))
            (λ (t : list_any (answers_to own k) s.records ≡ false). t)
            (test (list_any (answers_to own k) s.records)),
      ))
      (asked_behind own k n [] s.records (subst (Has (k, n)) f.pending h))

  answered_seen : AnsweredStand w w.seen
  answered_seen k op made np no_wait =
      let m = made_by own k op s.records (subst (λ (l : List Op). slice_get l k ≡ Some op) f.made made) in
      let same : m.1 ≡ k = sound.belongs.numbered m.0 own m.1 m.2 op m.3 ∙ m.4 in
      let there : slice_get s.records m.0 ≡ Some (Sub own k op m.2) = m.3 ∙ ap (λ (z : ℕ). Some (Sub own z op m.2)) same in
      ⊎_elim
      (λ (t : list_any (answers_to own k) s.records ≡ true).
      let a = any_found (answers_to own k) s.records t in
      let is = answer_is own k a.1 a.3 in
      let at : slice_get s.records a.0 ≡ Some (Ans own k is.0 is.1) = a.2 ∙ ap Some is.2 in
      let x = sound.belongs.linear a.0 own k is.1 is.0 at in
      let seen : is.1 ≤ length w.seen = f.told a.0 (Ans own k is.0 is.1) at refl in
      let point : x.point < length w.seen = (let l = x.before_answer in omega arith) in
      let acted : slice_get w.seen x.point ≡ Some (record { requester = own; number = k; op = x.op }) = get_front w.seen f.seen.0 x.point (record { requester = own; number = k; op = x.op }) point (ap (λ (l : List Entry). slice_get l x.point) (sym f.seen.1) ∙ x.acted) in
      any_at (is_request own k) w.seen x.point (record { requester = own; number = k; op = x.op }) acted (own_request own k x.op))
      (λ (t : list_any (answers_to own k) s.records ≡ false). absurd (no_wait m.2 (subst (Has (k, m.2)) (sym f.pending) (waits own k m.2 m.0 op s.records there np t))))
      (test (list_any (answers_to own k) s.records))

  pub is_true : IsTrueOf s.fabric w
  is_true = record {
    config = f.config;
    seen = f.seen;
    made = subst (IsMade own (view (whole_of s.fabric) own)) (sym f.made) (sound.belongs.made own);
    open_pending = λ k (t, e). let p = sound.belongs.pending own t k e in (p.since, subst (Has (k, p.since)) (sym f.pending) (waits own k p.since p.place p.op s.records p.asked p.not_posted p.unanswered));
    pending_open = λ k n h. let x = asked k n h in sound.belongs.opened x.0 own k n x.1 x.2 x.3 x.4;
    pending_seen = λ k n h. let x = asked k n h in f.told x.0 (Sub own k x.1 n) x.2 refl;
    pending_later = λ k n h. let x = asked k n h in sound.belongs.later x.0 own k n x.1 x.2;
    answered = answered_seen;
    served = f.served;
  }

-- what threads did is a run
pub all_ran : (s : Traced) (w : Knowledge) → IsSoundTraced s → Fits s w → Ran w s.fabric
all_ran s w sound f = record { acts = s.acts; told = s.records; tells = subst (λ (g : Fabric). Tells g s.acts s.records s.fabric) (sym f.opened) sound.tells; own = f.did; belongs = sound.belongs }

pub run_of : (w : Knowledge) (f : Fabric) (r : Ran w f) → Runs w.opened (events_in r.acts) r.told f
run_of w f r = tells_runs w.opened f r.acts r.told r.tells

-- the whole rule
pub ruled : (about : Start) (s : Table) → Kept about s → IsRuled s
ruled about s r = record {
  state = r.whole.fabric;
  sound = r.sound.sound;
  opened = r.whole.opened;
  acts = r.whole.acts;
  records = r.whole.records;
  ran = r.sound.tells;
  belongs = r.sound.belongs;
  seats = r.whole.seats;
  by = r.sound.by;
  wide = r.wide;
  deep = r.deep;
  at_home = r.at_home;
  held = r.holder;
  holds = λ j ts at. each_map (λ (t : Token) (h : Seated parts IsSoundTraced Fits r.whole s.words t). h.0) ts (r.tokens j ts at);
  one_seat = r.apart;
  one_serving = r.served;
  did = λ j ts at. each_map (λ (t : Token) (h : Seated parts IsSoundTraced Fits r.whole s.words t). (h.1.opened, h.1.seats, seat_of r.whole t.knows h.1, h.1.did)) ts (r.tokens j ts at);
  knows = λ j ts at. each_map (λ (t : Token) (h : Seated parts IsSoundTraced Fits r.whole s.words t). is_true r.whole t.knows r.sound h.1) ts (r.tokens j ts at);
}
