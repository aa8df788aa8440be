-- What a release owes, from what an event or a put back says.
use Rattle.std.proofs.Common.{◌≡◌, ◌≢◌, ℕ, subst, suc, ◌+◌, ◌<◌, ◌≤◌, ◌⊎◌, List, [], ◌∷◌, ◌++◌, length, sym, refl, ap, ◌∙◌, inl, inr, ⊎_elim, arith, cond, Bool, true, false, length-set, length-append, append_assoc, map, drop, ne_eqb, Some}
use Rattle.std.specs.Prelude.{slice_get, is_some}
use Rattle.std.proofs.lemmas.List.{append-nil}
use mathlib.Core.Option.{some, some-injective}
use mathlib.Core.Logic.{dite}
use native.Mathlib.Decide.{ℕ_discrete}
use lib.ListN.{get_elem?}
use Rattle.hall_laws.proofs.Lists.{set_here, set_else}
use Rattle.tlp_core.specs.Ops.{Op}
use Rattle.tlp_core.specs.TlpView.{TlpView}
use Rattle.tlp_core.specs.Operation.{op_of, is_posted}
use Rattle.seq_memory.specs.Entries.{Entry}
use Rattle.lane_core.specs.Calls.{content}
use Rattle.history_words.specs.Records.{Record}
use Rattle.history_words.specs.declared.record.RecordOf.TheVariants.{Sub, Ans}
use Rattle.fabric_steps.specs.Lists.{Each}
use Rattle.fabric_steps.specs.Fabric.{Fabric, whole_of}
use Rattle.fabric_steps.specs.Whole.{Whole}
use Rattle.fabric_steps.specs.Sound.{Sound}
use Rattle.fabric_steps.specs.Routed.{IsRouted}
use Rattle.fabric_steps.specs.Steps.{Step, Run, stays, goes}
use Rattle.fabric_steps.specs.Trace.{Belongs, moment}
use Rattle.hall_laws.proofs.Lists.{made_own, made_ans}
use Rattle.hall_laws.proofs.Lists.{each_at}
use Rattle.fabric_steps.specs.Event.{Event, Seen}
use Rattle.fabric_core.specs.Kept.{IsSoundFabric, records_of}
use Rattle.fabric_core.specs.Answers.{Happens}
use Rattle.hall_laws.specs.declared.part.PartValue.{PartValue}
use Rattle.hall_laws.specs.declared.part.PartValue.TheVariants.{Memory}
use Rattle.hall_laws.specs.declared.token.Done.{Done}
use Rattle.hall_laws.specs.declared.token.Token.{Token}
use Rattle.hall_laws.specs.declared.token.Knowledge.{Knowledge}
use Rattle.hall_laws.specs.Story.{Act, done_by}
use Rattle.hall_laws.specs.Waiting.{requester_in, without}
use Rattle.hall_laws.specs.Parts.{parts_of}
use Rattle.hall_laws.specs.Standing.{Values, Covers, Outside, times, one_if_same, token_of, others_of, AreAlike}
use Rattle.hall_laws.specs.Rule.{Traced, IsSoundTraced, Begins, Fits, Goes, Releases, Agrees, Apart, write, learned_also, with_done, parts, dropped_first, dropped_seen, having_seen, history_in}
use Rattle.hall_laws.proofs.Totals.{each_map, each_two, covered, covers_outside, at_length, total_append, one_is, same_alike}
use Rattle.hall_laws.proofs.Records.{made_append_other, waiting_append_other, waiting_submitted, waiting_answered, by_append_other, by_append_own, get_append}
use Rattle.hall_laws.proofs.Story.{one_more, by_own, by_other}
use Rattle.hall_laws.proofs.Learning.{config_stays, Learning, silent, submits, collects, serves, learning}

write_length : (l : List PartValue) (h : Values) → length (write l h) ≡ length l
write_length l [] = refl
write_length l (kv ∷ h) = length-set (write l h) kv.0 kv.1 ∙ write_length l h

write_outside : (l : List PartValue) (h : Values) (j : ℕ) → Outside j h → get_elem? (write l h) j ≡ get_elem? l j
write_outside l [] j o = refl
write_outside l (kv ∷ h) j o = set_else (write l h) kv.0 j kv.1 o.0 ∙ write_outside l h j o.1

write_here : (l : List PartValue) (h : Values) → Apart h → Each (λ (kv : ℕ × PartValue). kv.0 < length l) h → Each (λ (kv : ℕ × PartValue). get_elem? (write l h) kv.0 ≡ some kv.1) h
write_here l [] a e = tt
write_here l (kv ∷ h) a e = (
  set_here (write l h) kv.0 kv.1 (omega (arith, write_length l h, e.0)),
  each_two (λ (x : ℕ × PartValue) (o : kv.0 ≢ x.0) (g : get_elem? (write l h) x.0 ≡ some x.1). set_else (write l h) kv.0 x.0 kv.1 (λ s. o (sym s)) ∙ g) h a.0 (write_here l h a.1 e.1),
)

pub begins_trans : {X : Type 0} (xs ys zs : List X) → Begins xs ys → Begins ys zs → Begins xs zs
begins_trans xs ys zs a b = (a.0 ++ b.0, b.1 ∙ (ap (λ l. l ++ b.0) a.1 ∙ append_assoc xs a.0 b.0))

pub begins_length : {X : Type 0} (xs ys : List X) → Begins xs ys → length xs ≤ length ys
begins_length xs ys a = let e = ap length a.1 ∙ length-append xs a.0 in omega arith

-- ---- knowledge over an event

each_snoc : {X : Type 0} (P : X → Type 0) (es : List X) (e : X) → Each P es → P e → Each P (es ++ e ∷ [])
each_snoc P [] e h p = (p, tt)
each_snoc P (x ∷ xs) e h p = (h.0, each_snoc P xs e h.1 p)

pub seat_of : (s : Traced) (w : Knowledge) → Fits s w → w.number < s.seats
seat_of s w f = let small = f.seat in let same = f.seats in omega arith

-- the seat with this number made the event happen, which led to f'
abbrev pub act : ℕ → Event → Seen → Act
act by event what = record { by = by; done = record { event = event; what = what } }

abbrev pub after_act : Traced → ℕ → Event → Seen → Fabric → Traced
after_act s by event what f' = record { seats = s.seats; opened = s.opened; acts = s.acts ++ act by event what ∷ []; fabric = f'; records = s.records ++ records_of event what (length s.fabric.memory.entries) }

module _ (s : Traced) (f' : Fabric) (grows : Begins s.fabric.memory.entries f'.memory.entries) where
  longer : length s.fabric.memory.entries ≤ length f'.memory.entries
  longer = begins_length s.fabric.memory.entries f'.memory.entries grows

  still_served : (ns : List ℕ) → Each (λ (n : ℕ). n < length s.fabric.memory.entries) ns → Each (λ (n : ℕ). n < length f'.memory.entries) ns
  still_served ns e = let le = longer in each_map (λ (n : ℕ) (h : n < length s.fabric.memory.entries). let g : n < length f'.memory.entries = omega arith in g) ns e

  -- another seat has no part in the records
  other_fits : (u : Knowledge) (by : ℕ) → u.number ≢ by → (event : Event) (what : Seen) → Each (λ (r : Record). requester_in r ≡ suc by) (records_of event what (length s.fabric.memory.entries)) → Happens s.fabric event what f' → Fits s u → Fits (after_act s by event what f') u
  other_fits u by apart event what own x f = let i : ℕ = suc by in let new : List Record = records_of event what (length s.fabric.memory.entries) in let ne : i ≢ suc u.number = λ e. apart (omega arith) in record {
    config = config_stays s.fabric event what f' u.config x f.config;
    opened = f.opened;
    seats = f.seats;
    seat = f.seat;
    seen = begins_trans u.seen s.fabric.memory.entries f'.memory.entries f.seen grows;
    made = f.made ∙ sym (made_append_other (suc u.number) i s.records new ne own);
    pending = f.pending ∙ sym (waiting_append_other (suc u.number) i s.records new ne own);
    records = f.records ∙ sym (by_append_other (suc u.number) i s.records new ne own);
    told = λ a r at mine. ⊎_elim (λ (old : slice_get s.records a ≡ Some r). f.told a r old mine)
        (λ (y : (b : ℕ) × (slice_get new b ≡ Some r)). absurd (ne (sym (each_at (λ (z : Record). requester_in z ≡ i) new y.0 r y.1 own) ∙ mine))) (get_append s.records new a r at);
    served = still_served u.served f.served;
    did = f.did ∙ sym (by_other s.acts u.number by (record { event = event; what = what }) (λ e. apart (sym e)));
  }

-- the seat of the event, by what it learned
own_fits : (s : Traced) (f' : Fabric) (event : Event) (what : Seen) (w : Knowledge) → IsSoundTraced s → Begins s.fabric.memory.entries f'.memory.entries → Happens s.fabric event what f' → Fits s w
    → Learning s.fabric.memory.entries event what w f'.memory.entries
    → Fits (after_act s w.number event what f') (learned_also event what s.fabric.memory.entries w)
own_fits s f' event what w sound grows x f l =
    let h : List Entry = s.fabric.memory.entries in
    let d : Done = record { event = event; what = what } in
    let S : List Record → Traced = λ rs. record { seats = s.seats; opened = s.opened; acts = s.acts ++ act w.number event what ∷ []; fabric = f'; records = rs } in
    let F : List Record → Knowledge → Type 0 = λ rs k. Fits (S (s.records ++ rs)) (with_done event what k) in
    let did : w.did ++ d ∷ [] ≡ done_by w.number (s.acts ++ act w.number event what ∷ []) = ap (λ (z : List Done). z ++ d ∷ []) f.did ∙ sym (by_own s.acts w.number d) in
    let config = config_stays s.fabric event what f' w.config x f.config in
    let le = begins_length h f'.memory.entries grows in
    let served : Each (λ (n : ℕ). n < length f'.memory.entries) w.served = still_served s f' grows w.served f.served in
    let nothing : (ns : List Record) → ns ≡ [] → s.records ++ ns ≡ s.records = λ ns e. ap (λ (z : List Record). s.records ++ z) e ∙ append-nil s.records in
    -- a record of the length of the history
    let heard : (one : Record) → moment one ≡ length h → (a : ℕ) (r : Record) → slice_get (s.records ++ one ∷ []) a ≡ Some r → moment r ≤ length h =
    (λ one at_end a r at. ⊎_elim (λ (old : slice_get s.records a ≡ Some r). sound.belongs.within a r old)
    (λ (y : (b : ℕ) × (slice_get (one ∷ []) b ≡ Some r)). let e = each_at (λ (z : Record). moment z ≡ length h) (one ∷ []) y.0 r y.1 (at_end, tt) in omega arith) (get_append s.records (one ∷ []) a r at)) in
    elim l [
      | silent none same ↦ subst (F (records_of event what (length h))) (sym same) (subst (λ (rs : List Record). Fits (S rs) (with_done event what w)) (sym (nothing _ none)) (record {
        config = config;
        opened = f.opened;
        seats = f.seats;
        seat = f.seat;
        seen = begins_trans w.seen h f'.memory.entries f.seen grows;
        made = f.made;
        pending = f.pending;
        records = f.records;
        told = f.told;
        served = served;
        did = did;
      }))
      | submits op k is same ↦ subst (F (records_of event what (length h))) (sym same) (subst (λ (rs : List Record). F rs (record w { seen = h; made = w.made ++ op ∷ []; pending = Rattle.std.specs.Prelude.if◌then◌else◌ (is_posted op) w.pending (w.pending ++ (k, length h) ∷ []); records = w.records ++ Sub (suc w.number) k op (length h) ∷ [] })) (sym is) (record {
        config = config;
        opened = f.opened;
        seats = f.seats;
        seat = f.seat;
        seen = grows;
        made = ap (λ (z : List Op). z ++ op ∷ []) f.made ∙ sym (made_own (suc w.number) k (length h) op s.records);
        pending = ap (λ (z : List (ℕ × ℕ)). Rattle.std.specs.Prelude.if◌then◌else◌ (is_posted op) z (z ++ (k, length h) ∷ [])) f.pending ∙ sym (waiting_submitted (suc w.number) k (length h) op s.records);
        records = ap (λ (z : List Record). z ++ Sub (suc w.number) k op (length h) ∷ []) f.records ∙ sym (by_append_own (suc w.number) (Sub (suc w.number) k op (length h)) s.records refl);
        told = λ a r at mine. heard (Sub (suc w.number) k op (length h)) refl a r at;
        served = served;
        did = did;
      }))
      | collects x is same ↦ subst (F (records_of event what (length h))) (sym same) (subst (λ (rs : List Record). F rs (record w { seen = h; pending = without x.number w.pending; records = w.records ++ Ans (suc w.number) x.number x.reply (length h) ∷ [] })) (sym is) (record {
        config = config;
        opened = f.opened;
        seats = f.seats;
        seat = f.seat;
        seen = grows;
        made = f.made ∙ sym (made_ans (suc w.number) (suc w.number) x.number x.reply (length h) s.records);
        pending = ap (without x.number) f.pending ∙ sym (waiting_answered (suc w.number) x.number (length h) x.reply s.records);
        records = ap (λ (z : List Record). z ++ Ans (suc w.number) x.number x.reply (length h) ∷ []) f.records ∙ sym (by_append_own (suc w.number) (Ans (suc w.number) x.number x.reply (length h)) s.records refl);
        told = λ a r at mine. heard (Ans (suc w.number) x.number x.reply (length h)) refl a r at;
        served = served;
        did = did;
      }))
      | serves none same more ↦ subst (F (records_of event what (length h))) (sym same) (subst (λ (rs : List Record). Fits (S rs) (with_done event what (record w { served = w.served ++ length h ∷ [] }))) (sym (nothing _ none)) (record {
        config = config;
        opened = f.opened;
        seats = f.seats;
        seat = f.seat;
        seen = begins_trans w.seen h f'.memory.entries f.seen grows;
        made = f.made;
        pending = f.pending;
        records = f.records;
        told = f.told;
        served = each_snoc (λ (n : ℕ). n < length f'.memory.entries) w.served (length h) served more;
        did = did;
      }))
    ]

-- ---- kind 2

pub not_same : (m n : ℕ) → m ≢ n → one_if_same m n ≡ 0
not_same m n ne = let P : Bool → Type 0 = λ b. ◌≡◌ {A = ℕ} (cond b 1 0) 0 in let start : P false = refl in subst P (sym (ne_eqb m n ne)) start

times_none : (b n : ℕ) (ns : List ℕ) → b ≤ n → Each (λ (x : ℕ). x < b) ns → times n ns ≡ 0
times_none b n [] le e = refl
times_none b n (x ∷ xs) le e = let a : one_if_same n x ≡ 0 = not_same n x (λ s. let h = e.0 in omega arith) in let r = times_none b n xs le e.1 in let u : ℕ = one_if_same n x in let v : ℕ = times n xs in let a' : u ≡ 0 = a in let r' : v ≡ 0 = r in let g : u + v ≡ 0 = omega arith in g

served_more : (n at : ℕ) (ns : List ℕ) (F : Knowledge → Type 0) → ((u : Knowledge) → F u → Each (λ (x : ℕ). x < at) u.served) → Each (λ (x : ℕ). x < at) ns
    → (times n (ns ++ at ∷ []) ≤ times n ns) ⊎ ((times n (ns ++ at ∷ []) ≤ 1) × ((u : Knowledge) → F u → times n u.served ≡ 0))
served_more n at ns F below mine = let more = total_append (one_if_same n) ns at in dite (ℕ_discrete n at)
    (λ same. let one = one_is n at same in let none = times_none at n ns (omega arith) mine in inr (omega arith, λ u f. times_none at n u.served (omega arith) (below u f)))
    (λ ne. let zero_here = not_same n at ne in inl (omega arith))

outside_all : (j : ℕ) (h k : Values) → Outside j h → Each (λ (kv : ℕ × PartValue). Covers h kv.0) k → Outside j k
outside_all j h k o e = each_map (λ (kv : ℕ × PartValue) (c : Covers h kv.0). covers_outside h j kv.0 o c) k e

-- what the crates below say of each event
pub record Laws : Type 0 where
  pub step : (f f' : Fabric) (event : Event) (what : Seen) → IsSoundFabric f → Happens f event what f' → Step (whole_of f) (whole_of f') (records_of event what (length f.memory.entries))
  pub sound : (f f' : Fabric) (event : Event) (what : Seen) → IsSoundFabric f → Happens f event what f' → IsSoundFabric f'
  pub belongs : (p p' : Whole) (rs ss : List Record) → Sound p → Belongs p rs → Run p p' ss → Belongs p' (rs ++ ss)
  pub begins : (p p' : Whole) (rs : List Record) → Sound p → Run p p' rs → (new : List Entry) × (p'.history ≡ p.history ++ new)
  pub asks : (f : Fabric) (place mark : ℕ) (t : TlpView) → IsRouted f → slice_get (content f.inward) place ≡ Some (t, mark) → is_some (op_of t) ≡ true

module _ (laws : Laws) where
  one_step : (f f' : Fabric) (event : Event) (what : Seen) → IsSoundFabric f → Happens f event what f' → Run (whole_of f) (whole_of f') (records_of event what (length f.memory.entries))
  one_step f f' event what s x = goes stays (laws.step f f' event what s x)

  pub grows_by : (f f' : Fabric) (event : Event) (what : Seen) → IsSoundFabric f → Happens f event what f' → Begins f.memory.entries f'.memory.entries
  grows_by f f' event what s x = laws.begins (whole_of f) (whole_of f') (records_of event what (length f.memory.entries)) s.sound (one_step f f' event what s x)

  pub stays_sound : (s : Traced) (by : ℕ) (f' : Fabric) (event : Event) (what : Seen) → by < s.seats → IsSoundTraced s → Happens s.fabric event what f' → IsSoundTraced (after_act s by event what f')
  stays_sound s by f' event what small sound x = record {
    sound = laws.sound s.fabric f' event what sound.sound x;
    belongs = laws.belongs (whole_of s.fabric) (whole_of f') s.records (records_of event what (length s.fabric.memory.entries)) sound.sound.sound sound.belongs (one_step s.fabric f' event what sound.sound x);
    tells = one_more s.opened s.fabric f' s.acts s.records (act by event what) sound.tells x;
    by = each_snoc (λ (a : Act). a.by < s.seats) s.acts (act by event what) sound.by small;
  }

  -- kind 2, for all events at once
  pub goes_releases : (event : Event) (what : Seen) (t : Token) (ts : List Token) (k : ℕ) (v : PartValue) (t' : Token) → t'.knows.number ≡ t.knows.number → Goes event what t k v t' → Releases (t ∷ ts) k v (t' ∷ ts)
  goes_releases event what t ts k v t' number g = record {
    some_token = omega arith;
    number = number;
    alike = same_alike ts;
    covers = g.covers;
    others = g.others;
    keeps = g.keeps;
    becomes = λ s sound a fits apart.
        let n = g.step s sound a fits.0 in
        let x : Happens s.fabric event what n.after = n.happens in
        let s' : Traced = after_act s t.knows.number event what n.after in
        let grows = grows_by s.fabric n.after event what sound.sound x in
        let news : Values = (k, v) ∷ t'.held in
        let is : parts_of n.after ≡ write (parts s) news = n.parts in
        let small : (j : ℕ) → Covers t.held j → j < length (parts s) = λ j c. covered (λ (kv : ℕ × PartValue). get_elem? (parts s) kv.0 ≡ some kv.1) (λ j. j < length (parts s)) (λ kv e. at_length (parts s) kv.0 kv.1 e) t.held j a c in
        let news_apart : Apart news = (each_map {Q = λ (kv : ℕ × PartValue). k ≢ kv.0} (λ (kv : ℕ × PartValue) (o : (kv.0 ≢ k) × Covers t.held kv.0) (same : k ≡ kv.0). o.0 (sym same)) t'.held g.others, g.apart) in
        let inside : Each (λ (kv : ℕ × PartValue). kv.0 < length (parts s)) news = (small k g.covers, each_map (λ (kv : ℕ × PartValue) (o : (kv.0 ≢ k) × Covers t.held kv.0). small kv.0 o.1) t'.held g.others) in
        let here : Each (λ (kv : ℕ × PartValue). get_elem? (write (parts s) news) kv.0 ≡ some kv.1) news = write_here (parts s) news news_apart inside in
        let all : Each (λ (kv : ℕ × PartValue). get_elem? (parts s') kv.0 ≡ some kv.1) news = subst (λ (l : List PartValue). Each (λ (kv : ℕ × PartValue). get_elem? l kv.0 ≡ some kv.1) news) (sym is) here in
        let other : (u : Knowledge) → u.number ≢ t.knows.number → Fits s u → Fits s' u = λ u ne f. other_fits s n.after grows u t.knows.number ne event what (g.own (length s.fabric.memory.entries)) x f in
        let mine : Fits s' t'.knows = subst (Fits s') (sym n.knows) (own_fits s n.after event what t.knows sound grows x fits.0 (learning laws.asks s.fabric event what n.after t.knows sound.sound.routed x g.own)) in (
          s',
          (
            stays_sound s t.knows.number n.after event what (seat_of s t.knows fits.0) sound x,
            ap length is ∙ write_length (parts s) news,
            (λ j y o at. ap (λ (l : List PartValue). get_elem? l j) is ∙ (write_outside (parts s) news j (covers_outside t.held j k o g.covers, outside_all j t.held t'.held o (each_map (λ (kv : ℕ × PartValue) (q : (kv.0 ≢ k) × Covers t.held kv.0). q.1) t'.held g.others)) ∙ at)),
            all.0,
            all.1,
            (mine, each_two (λ (u : Token) (f : Fits s u.knows) (ne : u.knows.number ≢ t.knows.number). other u.knows ne f) ts fits.1 apart),
            other,
          ),
        );
    served = λ s sound a f n.
        let go = g.step s sound a f in
        let h : List Entry = s.fabric.memory.entries in
        let knows : t'.knows ≡ learned_also event what h t.knows = go.knows in
        let Claim : Knowledge → Type 0 = λ w. (times n w.served ≤ times n t.knows.served) ⊎ ((times n w.served ≤ 1) × ((u : Knowledge) → Fits s u → times n u.served ≡ 0)) in
        let kept : (w : Knowledge) → w.served ≡ t.knows.served → Claim w = λ w e. inl (let z = ap (times n) e in omega arith) in
        subst Claim (sym knows) (elim (learning laws.asks s.fabric event what go.after t.knows sound.sound.routed go.happens g.own) [
          | silent none same ↦ kept (learned_also event what h t.knows) (ap (λ (w : Knowledge). w.served) same)
          | submits op k' is same ↦ kept (learned_also event what h t.knows) (ap (λ (w : Knowledge). w.served) same)
          | collects x is same ↦ kept (learned_also event what h t.knows) (ap (λ (w : Knowledge). w.served) same)
          | serves none same more ↦ subst (λ (w : Knowledge). Claim (with_done event what w)) (sym same) (served_more n (length h) t.knows.served (Fits s) (λ u e. e.served) f.served)
        ]);
  }

-- a seat that learns the history at its event has seen all of it, as long as the event leaves it as it was
pub learns_all : (laws : Laws) (s : Traced) (event : Event) (what : Seen) (t : Token) (after : Fabric) (h : List Entry) → IsSoundTraced s → Fits s t.knows → ((n : ℕ) → Each (λ (r : Record). requester_in r ≡ suc t.knows.number) (records_of event what n))
    → Happens s.fabric event what after → after.memory.entries ≡ h → s.fabric.memory.entries ≡ h
    → (s' : Traced) × IsSoundTraced s' × Fits s' (learned_also event what h t.knows) × (s'.fabric.memory.entries ≡ h)
learns_all laws s event what t after h sound f own x now is =
    let s' : Traced = after_act s t.knows.number event what after in
    let fits : Fits s' (learned_also event what s.fabric.memory.entries t.knows) = own_fits s after event what t.knows sound (grows_by laws s.fabric after event what sound.sound x) x f (learning laws.asks s.fabric event what after t.knows sound.sound.routed x own) in
    (s', stays_sound laws s t.knows.number after event what (seat_of s t.knows f) sound x, subst (λ (l : List Entry). Fits s' (learned_also event what l t.knows)) is fits, now)

-- ---- kinds 3 and 4

module _ (t : Token) (ts us : List Token) (k : ℕ) (v : PartValue) (h : Values) (held : t.held ≡ (k, v) ∷ h) (apart : Outside k h) where
  covers_rest : Each (λ (kv : ℕ × PartValue). (kv.0 ≢ k) × Covers t.held kv.0) h
  covers_rest = subst (λ (l : Values). Each (λ (kv : ℕ × PartValue). (kv.0 ≢ k) × Covers l kv.0) h) (sym held) (each_two (λ (kv : ℕ × PartValue) (o : k ≢ kv.0) (c : Covers h kv.0). ((λ s. o (sym s)), inr c)) h apart (all_covered h))
    where
      all_covered : (l : Values) → Each (λ (kv : ℕ × PartValue). Covers l kv.0) l
      all_covered [] = tt
      all_covered (x ∷ xs) = (inl refl, each_map (λ (kv : ℕ × PartValue) (c : Covers xs kv.0). inr c) xs (all_covered xs))

  pub back_releases : (know : Knowledge) → know.number ≡ t.knows.number → AreAlike ts us
      → ((s : Traced) → IsSoundTraced s → get_elem? (parts s) k ≡ some v → Each (λ (u : Token). Fits s u.knows) (t ∷ ts) → Fits s know × Each (λ (u : Token). Fits s u.knows) us) → know.served ≡ t.knows.served
      → Releases (t ∷ ts) k v (record { knows = know; held = h } ∷ us)
  back_releases know num alike fit same = record {
    some_token = omega arith;
    number = num;
    alike = alike;
    covers = subst (λ (l : Values). Covers l k) (sym held) (inl refl);
    others = covers_rest;
    keeps = λ j ne c. ⊎_elim (λ (same : k ≡ j). absurd (ne (sym same))) (λ (d : Covers h j). d) (subst (λ (l : Values). Covers l j) held c);
    becomes = λ p s a f far. let b : Agrees p ((k, v) ∷ h) = subst (Agrees p) held a in let g = fit p s b.0 f in (p, (s, refl, (λ j x o at. at), b.0, b.1, (g.0, g.1), λ u ne g. g));
    served = λ p s a f n. inl (let e = ap (times n) same in omega arith);
  }

-- a seat may have seen all of the history
pub seen_fits : (s : Traced) (w : Knowledge) → Fits s w → Fits s (record w { seen = s.fabric.memory.entries })
seen_fits s w f = record {
  config = f.config;
  opened = f.opened;
  seats = f.seats;
  seat = f.seat;
  seen = ([], sym (append-nil s.fabric.memory.entries));
  made = f.made;
  pending = f.pending;
  records = f.records;
  told = λ a r at mine. let le = begins_length w.seen s.fabric.memory.entries f.seen in let m = f.told a r at mine in omega arith;
  served = f.served;
  did = f.did;
}

pub seen_alike : (h : List Entry) (ts : List Token) → AreAlike ts (map (having_seen h) ts)
seen_alike h [] = tt
seen_alike h (t ∷ ts) = ((refl, refl, refl), seen_alike h ts)

pub all_seen_fit : (s : Traced) (h : List Entry) (ts : List Token) → s.fabric.memory.entries ≡ h → Each (λ (u : Token). Fits s u.knows) ts → Each (λ (u : Token). Fits s u.knows) (map (having_seen h) ts)
all_seen_fit s h [] is e = tt
all_seen_fit s h (t ∷ ts) is e = (subst (λ (l : List Entry). Fits s (record t.knows { seen = l })) is (seen_fits s t.knows e.0), all_seen_fit s h ts is e.1)

-- the view is put back as it was
pub put_back_releases : (ts : List Token) (k : ℕ) (v : PartValue) → 0 < length ts → (token_of ts).held ≡ (k, v) ∷ drop 1 (token_of ts).held → Outside k (drop 1 (token_of ts).held) → Releases ts k v (dropped_first ts)
put_back_releases [] k v some_token held apart = absurd (omega arith)
put_back_releases (t ∷ ts) k v some_token held apart = back_releases t ts ts k v (drop 1 t.held) held apart t.knows refl (same_alike ts) (λ s sound at f. f) refl

-- the memory is put back, and all tokens have seen its history
pub put_back_seen_releases : (ts : List Token) (k : ℕ) (m : Rattle.seq_memory.specs.History.MemoryView) → k ≡ 0 → 0 < length ts → (token_of ts).held ≡ (k, Memory m) ∷ drop 1 (token_of ts).held → Outside k (drop 1 (token_of ts).held)
    → Releases ts k (Memory m) (dropped_seen m.entries ts)
put_back_seen_releases [] k m is some_token held apart = absurd (omega arith)
put_back_seen_releases (t ∷ ts) k m is some_token held apart = back_releases t ts (map (having_seen m.entries) ts) k (Memory m) (drop 1 t.held) held apart (record t.knows { seen = m.entries }) refl (seen_alike m.entries ts)
    (λ s sound at f.
    let here : Memory s.fabric.memory ≡ Memory m = some-injective (Memory s.fabric.memory) (Memory m) (ap (get_elem? (parts s)) (sym is) ∙ at) in
    let same : s.fabric.memory.entries ≡ m.entries = ap history_in here in
    let all = all_seen_fit s m.entries (t ∷ ts) same f in (all.0, all.1)) refl

pub event_releases : (laws : Laws) (event : Event) (what : Seen) (ts : List Token) (k : ℕ) (v : PartValue) (t' : Token) → 0 < length ts → t'.knows.number ≡ (token_of ts).knows.number → Goes event what (token_of ts) k v t' → Releases ts k v (t' ∷ others_of ts)
event_releases laws event what [] k v t' some_token number g = absurd (omega arith)
event_releases laws event what (t ∷ ts) k v t' some_token number g = goes_releases laws event what t ts k v t' number g
