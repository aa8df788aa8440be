-- A trace that belongs to a fabric, and the record of a step behind it.
use Rattle.std.proofs.Common.{◌≡◌, ◌≢◌, ℕ, zero, suc, ◌+◌, ◌<◌, ◌≤◌, true, List, [], ◌∷◌, ◌++◌, length, take, map, set, refl, sym, ap, ◌∙◌, subst, arith, inl, inr, ◌⊎◌, ⊎_elim, Some}
use Rattle.std.specs.Prelude.{slice_get}
use Rattle.std.proofs.lemmas.List.{length_push}
use native.Mathlib.Decide.{ℕ_discrete, dec_lt}
use mathlib.Core.Logic.{dite}
use Rattle.fabric_steps.specs.Lists.{Each, one_if, count}
use Rattle.fabric_steps.specs.Whole.{Op, is_posted, Entry, MarkedPacket, reply_after, RequesterView, View, Whole, view, path, up_of, down_of, requester_of, open_number, entry_of, marked_request, memory, memory_of, Extent, Reply}
use Rattle.history_words.specs.Trace.{is_request}
use Rattle.fabric_steps.specs.Sound.{times, Sound, SoundAt, IsReply}
use Rattle.fabric_steps.specs.Trace.{IsMade}
use Rattle.history_words.specs.Records.{Record}
use Rattle.history_words.specs.declared.record.RecordOf.TheVariants.{Sub, Ans}
use Rattle.history_words.specs.Trace.{answers_to, stands, IsExplained, IsLinear, IsNumbered}
use Rattle.fabric_steps.specs.Trace.{moment, IsRising, IsPending, Belongs}
use Rattle.fabric_steps.proofs.Records.{made, made_ans, made_own, made_other, made_at, answer_is, none_any, none_counted, some_any, reply_there}
use Rattle.fabric_steps.specs.Steps.{IsOpened, IsClosed}
use Rattle.fabric_steps.proofs.Lists.{each_append, each_split, each_weaken, each_at, count_push, get_before, get_seam, get_within, take_before, take_all}
use Rattle.fabric_steps.proofs.Numbers.{hit, miss_left, miss_right, both_same, path_times, not_counted}
use Rattle.fabric_steps.proofs.Places.{count_take_above, found_at}
use Rattle.fabric_steps.proofs.Submit.{opening, old, new, still_open, new_number, longer}
use Rattle.fabric_steps.proofs.Collect.{collected, acted_counted, still}
use Rattle.fabric_steps.proofs.Views.{view_submit, view_submit_other, view_collect, view_collect_other}

-- lists that grow by one

pub get_push : {X : Type 0} (xs : List X) (y : X) (n : ℕ) (x : X) → slice_get (xs ++ y ∷ []) n ≡ Some x → ((n < length xs) × (slice_get xs n ≡ Some x)) ⊎ ((n ≡ length xs) × (y ≡ x))
get_push [] y zero x e = inr (refl, cc)
get_push [] y (suc n) x e = absurd (cc)
get_push (z ∷ xs) y zero x e = inl (omega arith, e)
get_push (z ∷ xs) y (suc n) x e = ⊎_elim
    (λ (h : (n < length xs) × (slice_get xs n ≡ Some x)). let l : n < length xs = h.0 in inl (omega arith, h.1))
    (λ (h : (n ≡ length xs) × (y ≡ x)). inr (ap suc h.0, h.1))
    (get_push xs y n x e)

-- explanations as history and trace grow

grown : (g : Extent) (h t : List Entry) (before : List Record) (i k : ℕ) (r : Reply) (n : ℕ) → IsExplained (memory g h) before i k r n → IsExplained (memory g (h ++ t)) before i k r n
grown g h t before i k r n x =
    let w : x.point < length h = get_within h x.point (record { requester = i; number = k; op = x.op }) x.acted in
    let same : take x.point (h ++ t) ≡ take x.point h = take_before h t x.point (omega arith) in
    record {
      place = x.place;
      op = x.op;
      since = x.since;
      point = x.point;
      asked = x.asked;
      not_posted = x.not_posted;
      unanswered = x.unanswered;
      acted = get_before h t x.point (record { requester = i; number = k; op = x.op }) x.acted;
      after_submission = x.after_submission;
      before_answer = x.before_answer;
      replied = reply_there g (h ++ t) x.point (record { requester = i; number = k; op = x.op }) (get_before h t x.point (record { requester = i; number = k; op = x.op }) x.acted)
          ∙ (ap (λ (l : List Entry). Some (reply_after g l x.op)) same ∙ (sym (reply_there g h x.point (record { requester = i; number = k; op = x.op }) x.acted) ∙ x.replied));
      above = λ c j m a less at. subst (λ (l : List Entry). stands l i j ≡ true) (sym same) (x.above c j m a less at);
    }

pub record Silent (p p' : Whole) : Type 1 where
  pub same_extent : p'.extent ≡ p.extent
  pub new : List Entry
  pub grows : p'.history ≡ p.history ++ new
  pub requesters : (j : ℕ) → requester_of p' j ≡ requester_of p j
  pub paths : (j : ℕ) (P : Entry → Type 0) → ((e : Entry) → e.requester ≢ j → P e) → Each P (path (view p j)) → Each P (path (view p' j))

pub silent_belongs : (p p' : Whole) (rs : List Record) → Silent p p' → Belongs p rs → Belongs p' rs
silent_belongs p p' rs c b = record {
  linear = subst (λ (m : Extent). IsLinear (memory m p'.history) rs) (sym c.same_extent) (subst (λ (h : List Entry). IsLinear (memory p.extent h) rs) (sym c.grows) (λ a i k n r at. grown p.extent p.history c.new (take a rs) i k r n (b.linear a i k n r at)));
  numbered = b.numbered;
  rising = b.rising;
  within = λ a r at.
      let w : moment r ≤ length p.history = b.within a r at in
      let l : length p'.history ≡ length (p.history ++ c.new) = ap length c.grows in
      let m : length p.history ≤ length (p.history ++ c.new) = grows_by p.history c.new in
      omega arith;
  made = λ i. record {
    spent = (b.made i).spent ∙ ap (λ (q : RequesterView). q.next) (sym (c.requesters i));
    each = c.paths i (λ (e : Entry). e.requester ≡ i → slice_get (made i rs) e.number ≡ Some e.op) (λ e ne own. absurd (ne own)) (b.made i).each;
  };
  pending = λ i t k e. b.pending i t k (ap (λ (q : RequesterView). open_number q t) (sym (c.requesters i)) ∙ e);
  opened = λ a i k n o at np un. let (t, e) = b.opened a i k n o at np un in (t, ap (λ (q : RequesterView). open_number q t) (c.requesters i) ∙ e);
  later = λ a i k n o at.
      let w : n ≤ length p.history = b.within a (Sub i k o n) at in
      ap (λ (h : List Entry). stands (take n h) i k) c.grows ∙ (ap (λ (h : List Entry). stands h i k) (take_before p.history c.new n w) ∙ b.later a i k n o at);
}
  where
    grows_by : (xs ys : List Entry) → length xs ≤ length (xs ++ ys)
    grows_by [] ys = omega arith
    grows_by (x ∷ xs) ys = let r : length xs ≤ length (xs ++ ys) = grows_by xs ys in omega arith

-- a record with the history's length keeps the moments rising

module _ (h : List Entry) (rs : List Record) (new_one : Record) (at_end : moment new_one ≡ length h) (within : (a : ℕ) (r : Record) → slice_get rs a ≡ Some r → moment r ≤ length h) where
  pub still_within : (a : ℕ) (r : Record) → slice_get (rs ++ new_one ∷ []) a ≡ Some r → moment r ≤ length h
  still_within a r e = ⊎_elim
      (λ (g : (a < length rs) × (slice_get rs a ≡ Some r)). within a r g.1)
      (λ (g : (a ≡ length rs) × (new_one ≡ r)). let m : moment new_one ≡ moment r = ap moment g.1 in omega arith)
      (get_push rs new_one a r e)

  pub still_rising : IsRising rs → IsRising (rs ++ new_one ∷ [])
  still_rising up a b r s less e f = ⊎_elim
      (λ (g : (b < length rs) × (slice_get rs b ≡ Some s)). ⊎_elim
      (λ (k : (a < length rs) × (slice_get rs a ≡ Some r)). up a b r s less k.1 g.1)
      (λ (k : (a ≡ length rs) × (new_one ≡ r)). absurd (let x : b < length rs = g.0 in let y : a ≡ length rs = k.0 in omega arith))
      (get_push rs new_one a r e))
      (λ (g : (b ≡ length rs) × (new_one ≡ s)). let m : moment new_one ≡ moment s = ap moment g.1 in let w : moment r ≤ length h = still_within a r e in omega arith)
      (get_push rs new_one b s f)

unmade : (i k : ℕ) (v : View) → SoundAt i v → v.requester.next ≤ k → times i k v.history ≡ 0
unmade i k v s h =
    let a : times i k (path v) ≡ times i k v.history + (times i k (map entry_of v.inward) + times i k (map entry_of v.up)) = path_times i k v in
    let b : times i k (path v) ≡ 0 = s.whole k ∙ not_counted v.requester.next k h in
    omega arith

-- what wasn't submitted has no answer
unanswered : (p : Whole) (rs : List Record) (i k : ℕ) → Sound p → Belongs p rs → (requester_of p i).next ≤ k → count (answers_to i k) rs ≡ 0
unanswered p rs i k s b h = dite (dec_lt 0 (count (answers_to i k) rs))
    (λ (some : 0 < count (answers_to i k) rs). absurd (
    let (a, r, at, t) = found_at (answers_to i k) rs (omega arith) in
    let (x, n, is) = answer_is i k r t in
    let e : IsExplained (memory_of p) (take a rs) i k x n = b.linear a i k n x (at ∙ ap Some is) in
    let c : 1 ≤ times i k p.history = acted_counted i k e.op p.history e.point e.acted in
    let z : times i k p.history ≡ 0 = unmade i k (view p i) (s i) h in
    omega arith))
    (λ none. omega arith)

-- Submit

module _ (p : Whole) (i tag : ℕ) (op : Op) (q' : RequesterView) (rs : List Record) (s : Sound p) (b : Belongs p rs)
    (o : IsOpened (requester_of p i) tag op q') (has_up : i < length p.up) (known : i < length p.requesters) where
  abbrev next : ℕ
  next = (requester_of p i).next

  abbrev said : Record
  said = Sub i next op (length p.history)

  abbrev now : Whole
  now = record p { up = set p.up i (up_of p i ++ marked_request i tag next op ∷ []); requesters = set p.requesters i q' }

  requester_now : requester_of now i ≡ q'
  requester_now = ap (λ (v : View). v.requester) (view_submit p i (up_of p i ++ marked_request i tag next op ∷ []) q' has_up known)

  requester_else : (j : ℕ) → j ≢ i → requester_of now j ≡ requester_of p j
  requester_else j ne = ap (λ (v : View). v.requester) (view_submit_other p i j (up_of p i ++ marked_request i tag next op ∷ []) q' ne)

  linear : IsLinear (memory_of p) (rs ++ said ∷ [])
  linear a j k n r e = ⊎_elim
      (λ (g : (a < length rs) × (slice_get rs a ≡ Some (Ans j k r n))).
      let l : a < length rs = g.0 in
      subst (λ (x : List Record). IsExplained (memory_of p) x j k r n) (sym (take_before rs (said ∷ []) a (omega arith))) (b.linear a j k n r g.1))
      (λ (g : (a ≡ length rs) × (said ≡ Ans j k r n)). absurd (let h : said ≡ Ans j k r n = g.1 in cc))
      (get_push rs said a (Ans j k r n) e)

  numbered : IsNumbered (rs ++ said ∷ [])
  numbered a j k n z e = ⊎_elim
      (λ (g : (a < length rs) × (slice_get rs a ≡ Some (Sub j k z n))).
      let l : a < length rs = g.0 in
      b.numbered a j k n z g.1 ∙ ap (λ (x : List Record). length (made j x)) (sym (take_before rs (said ∷ []) a (omega arith))))
      (λ (g : (a ≡ length rs) × (said ≡ Sub j k z n)).
      let h : said ≡ Sub j k z n = g.1 in
      let own : i ≡ j = cc in
      let num : next ≡ k = cc in
      let all : take a (rs ++ said ∷ []) ≡ rs = ap (λ (m : ℕ). take m (rs ++ said ∷ [])) g.0 ∙ (take_before rs (said ∷ []) (length rs) (omega arith) ∙ take_all rs) in
      sym num ∙ (sym (b.made i).spent ∙ (ap (λ (m : ℕ). length (made m rs)) own ∙ ap (λ (x : List Record). length (made j x)) (sym all))))
      (get_push rs said a (Sub j k z n) e)

  submissions : (j : ℕ) → IsMade j (view now j) (made j (rs ++ said ∷ []))
  submissions j = dite (ℕ_discrete j i)
      (λ is. subst (λ (m : ℕ). IsMade m (view now m) (made m (rs ++ said ∷ []))) (sym is)
      (subst (λ (v : View). IsMade i v (made i (rs ++ said ∷ []))) (sym (view_submit p i (up_of p i ++ marked_request i tag next op ∷ []) q' has_up known))
      (subst (IsMade i (record (view p i) { up = up_of p i ++ marked_request i tag next op ∷ []; requester = q' })) (sym (made_own i next (length p.history) op rs))
      (record {
        spent = length_push (made i rs) op ∙ (ap (λ (n : ℕ). n + 1) (b.made i).spent ∙ sym o.next);
        each = subst (Each (λ (e : Entry). e.requester ≡ i → slice_get (made i rs ++ op ∷ []) e.number ≡ Some e.op)) (sym (longer i tag op (view p i) q' (s i) o))
            (each_append (λ (e : Entry). e.requester ≡ i → slice_get (made i rs ++ op ∷ []) e.number ≡ Some e.op) (path (view p i)) (entry_of (marked_request i tag next op) ∷ [])
            (each_weaken (λ (e : Entry). e.requester ≡ i → slice_get (made i rs) e.number ≡ Some e.op) (λ (e : Entry). e.requester ≡ i → slice_get (made i rs ++ op ∷ []) e.number ≡ Some e.op) (path (view p i))
            (λ e f own. get_before (made i rs) (op ∷ []) e.number e.op (f own)) (b.made i).each)
            ((λ own. subst (λ (n : ℕ). slice_get (made i rs ++ op ∷ []) n ≡ Some op) (b.made i).spent (get_seam (made i rs) [] op)), tt));
      }))))
      (λ ne. subst (λ (v : View). IsMade j v (made j (rs ++ said ∷ []))) (sym (view_submit_other p i j (up_of p i ++ marked_request i tag next op ∷ []) q' ne))
      (subst (IsMade j (view p j)) (sym (made_other j i next (length p.history) op rs (λ h. ne (sym h)))) (b.made j)))

  older : (j k : ℕ) → IsPending rs j k → IsPending (rs ++ said ∷ []) j k
  older j k x =
      let c : count (answers_to j k) (rs ++ said ∷ []) ≡ count (answers_to j k) rs + 0 = count_push (answers_to j k) rs said in
      let u : count (answers_to j k) rs ≡ 0 = none_counted (answers_to j k) rs x.unanswered in
      record { place = x.place; op = x.op; since = x.since; asked = get_before rs (said ∷ []) x.place (Sub j k x.op x.since) x.asked; not_posted = x.not_posted; unanswered = none_any (answers_to j k) (rs ++ said ∷ []) (omega arith) }

  pending_own : (t k : ℕ) → open_number q' t ≡ Some k → IsPending (rs ++ said ∷ []) i k
  pending_own t k e = elim (opening (requester_of p i) tag op q' o t) [
    | old h ↦ older i k (b.pending i t k (sym h ∙ e))
    | new at n ↦
        let is : k ≡ next = new_number i tag op (view p i) q' (s i) o t k at n e in
        let c : count (answers_to i k) (rs ++ said ∷ []) ≡ count (answers_to i k) rs + 0 = count_push (answers_to i k) rs said in
        let u : count (answers_to i k) rs ≡ 0 = unanswered p rs i k s b (omega arith) in
        record { place = length rs; op = op; since = length p.history; asked = get_seam rs [] said ∙ ap (λ (m : ℕ). Some (Sub i m op (length p.history))) (sym is); not_posted = n; unanswered = none_any (answers_to i k) (rs ++ said ∷ []) (omega arith) }
  ]

  pub submit_belongs : Belongs now (rs ++ said ∷ [])
  submit_belongs = record {
    linear = linear;
    numbered = numbered;
    rising = still_rising p.history rs said refl b.within b.rising;
    within = still_within p.history rs said refl b.within;
    made = submissions;
    pending = λ j t k e. dite (ℕ_discrete j i)
        (λ is. subst (λ (m : ℕ). IsPending (rs ++ said ∷ []) m k) (sym is) (pending_own t k (ap (λ (q : RequesterView). open_number q t) (sym requester_now) ∙ (ap (λ (m : ℕ). open_number (requester_of now m) t) (sym is) ∙ e))))
        (λ ne. older j k (b.pending j t k (ap (λ (q : RequesterView). open_number q t) (sym (requester_else j ne)) ∙ e)));
    opened = λ a j k n z e np un.
        let c : count (answers_to j k) (rs ++ said ∷ []) ≡ count (answers_to j k) rs + 0 = count_push (answers_to j k) rs said in
        ⊎_elim
        (λ (g : (a < length rs) × (slice_get rs a ≡ Some (Sub j k z n))).
        let (t, f) = b.opened a j k n z g.1 np (none_any (answers_to j k) rs (let w : count (answers_to j k) (rs ++ said ∷ []) ≡ 0 = none_counted (answers_to j k) (rs ++ said ∷ []) un in omega arith)) in (
          t,
          dite (ℕ_discrete j i)
              (λ is. ap (λ (m : ℕ). open_number (requester_of now m) t) is ∙ (ap (λ (q : RequesterView). open_number q t) requester_now ∙ still_open i tag op (view p i) q' (s i) o t k (ap (λ (m : ℕ). open_number (requester_of p m) t) (sym is) ∙ f)))
              (λ ne. ap (λ (q : RequesterView). open_number q t) (requester_else j ne) ∙ f),
        ))
        (λ (g : (a ≡ length rs) × (said ≡ Sub j k z n)).
        let h : said ≡ Sub j k z n = g.1 in
        let own : i ≡ j = cc in
        let num : next ≡ k = cc in
        let same_op : op ≡ z = cc in
        (tag, ap (λ (m : ℕ). open_number (requester_of now m) tag) (sym own) ∙ (ap (λ (q : RequesterView). open_number q tag) requester_now ∙ (o.opened (ap is_posted same_op ∙ np) ∙ ap Some num))))
        (get_push rs said a (Sub j k z n) e);
    later = λ a j k n z e. ⊎_elim
        (λ (g : (a < length rs) × (slice_get rs a ≡ Some (Sub j k z n))). b.later a j k n z g.1)
        (λ (g : (a ≡ length rs) × (said ≡ Sub j k z n)).
        let h : said ≡ Sub j k z n = g.1 in
        let own : i ≡ j = cc in
        let num : next ≡ k = cc in
        let len : length p.history ≡ n = cc in
        none_any (is_request j k) (take n p.history) (subst (λ (m : ℕ). times j k (take m p.history) ≡ 0) len (subst (λ (l : List Entry). times j k l ≡ 0) (sym (take_all p.history))
        (subst (λ (m : ℕ). times m k p.history ≡ 0) own (unmade i k (view p i) (s i) (omega arith))))))
        (get_push rs said a (Sub j k z n) e);
  }

-- Collect

module _ (p : Whole) (i number : ℕ) (reply : Reply) (rest : List MarkedPacket) (c : MarkedPacket) (q' : RequesterView) (rs : List Record) (s : Sound p) (b : Belongs p rs)
    (first : down_of p i ≡ c ∷ rest) (z : IsClosed (requester_of p i) c.tag number q') (is_reply : reply ≡ c.reply) (has_down : i < length p.down) (known : i < length p.requesters) where
  abbrev answer : Record
  answer = Ans i number reply (length p.history)

  abbrev after : Whole
  after = record p { down = set p.down i rest; requesters = set p.requesters i q' }

  requester_after : requester_of after i ≡ q'
  requester_after = ap (λ (v : View). v.requester) (view_collect p i rest q' has_down known)

  requester_kept : (j : ℕ) → j ≢ i → requester_of after j ≡ requester_of p j
  requester_kept j ne = ap (λ (v : View). v.requester) (view_collect_other p i j rest q' ne)

  sound_here : SoundAt i (record (view p i) { down = c ∷ rest })
  sound_here = subst (λ (d : List MarkedPacket). SoundAt i (record (view p i) { down = d })) first (s i)

  pub the_reply : IsReply p.extent i (requester_of p i) p.history c
  the_reply = collected i p.extent p.history p.inward p.outward (up_of p i) rest (requester_of p i) q' c number sound_here z

  number_is : the_reply.number ≡ number
  number_is = let a : open_number (requester_of p i) c.tag ≡ Some the_reply.number = the_reply.open_tag in let d : open_number (requester_of p i) c.tag ≡ Some number = z.was_open in cc

  acted_there : slice_get p.history the_reply.point ≡ Some (record { requester = i; number = number; op = the_reply.op })
  acted_there = subst (λ (k : ℕ). slice_get p.history the_reply.point ≡ Some (record { requester = i; number = k; op = the_reply.op })) number_is the_reply.acted

  asked_for : IsPending rs i number
  asked_for = b.pending i c.tag number z.was_open

  same_op : asked_for.op ≡ the_reply.op
  same_op =
      let a : slice_get (made i rs) (length (made i (take asked_for.place rs))) ≡ Some asked_for.op = made_at i number asked_for.since asked_for.place asked_for.op rs asked_for.asked in
      let n : number ≡ length (made i (take asked_for.place rs)) = b.numbered asked_for.place i number asked_for.since asked_for.op asked_for.asked in
      let d : slice_get (made i rs) number ≡ Some the_reply.op =
      each_at (λ (e : Entry). e.requester ≡ i → slice_get (made i rs) e.number ≡ Some e.op) p.history the_reply.point (record { requester = i; number = number; op = the_reply.op }) acted_there
      (each_split (λ (e : Entry). e.requester ≡ i → slice_get (made i rs) e.number ≡ Some e.op) p.history (map entry_of p.inward ++ map entry_of (up_of p i)) (b.made i).each).0 refl in
      let f : slice_get (made i rs) number ≡ Some asked_for.op = ap (slice_get (made i rs)) n ∙ a in
      cc

  since_before : asked_for.since ≤ the_reply.point
  since_before = dite (dec_lt the_reply.point asked_for.since)
      (λ (l : the_reply.point < asked_for.since). absurd (
      let a : 1 ≤ times i number (take asked_for.since p.history) = count_take_above (is_request i number) p.history the_reply.point asked_for.since (record { requester = i; number = number; op = the_reply.op }) acted_there (both_same i number) l in
      let d : times i number (take asked_for.since p.history) ≡ 0 = none_counted (is_request i number) (take asked_for.since p.history) (b.later asked_for.place i number asked_for.since asked_for.op asked_for.asked) in
      omega arith))
      (λ no. omega arith)

  explained : IsExplained (memory_of p) rs i number reply (length p.history)
  explained = record {
    place = asked_for.place;
    op = asked_for.op;
    since = asked_for.since;
    point = the_reply.point;
    asked = asked_for.asked;
    not_posted = asked_for.not_posted;
    unanswered = asked_for.unanswered;
    acted = acted_there ∙ ap (λ (o : Op). Some (record { requester = i; number = number; op = o })) (sym same_op);
    after_submission = since_before;
    before_answer = get_within p.history the_reply.point (record { requester = i; number = number; op = the_reply.op }) acted_there;
    replied = reply_there p.extent p.history the_reply.point (record { requester = i; number = number; op = the_reply.op }) acted_there ∙ ap Some (sym (is_reply ∙ the_reply.replied));
    above = λ d j m r less at.
        let e : IsExplained (memory_of p) (take d rs) i j r m = b.linear d i j m r at in
        let l : m ≤ asked_for.since = b.rising d asked_for.place (Ans i j r m) (Sub i number asked_for.op asked_for.since) (omega arith) at asked_for.asked in
        let k : asked_for.since ≤ the_reply.point = since_before in
        let f : e.point < m = e.before_answer in
        some_any (is_request i j) (take the_reply.point p.history) (count_take_above (is_request i j) p.history e.point the_reply.point (record { requester = i; number = j; op = e.op }) e.acted (both_same i j) (omega arith));
  }

  linear_after : IsLinear (memory_of p) (rs ++ answer ∷ [])
  linear_after a j k n r e = ⊎_elim
      (λ (g : (a < length rs) × (slice_get rs a ≡ Some (Ans j k r n))).
      let l : a < length rs = g.0 in
      subst (λ (x : List Record). IsExplained (memory_of p) x j k r n) (sym (take_before rs (answer ∷ []) a (omega arith))) (b.linear a j k n r g.1))
      (λ (g : (a ≡ length rs) × (answer ≡ Ans j k r n)).
      let h : answer ≡ Ans j k r n = g.1 in
      let own : i ≡ j = cc in
      let num : number ≡ k = cc in
      let rep : reply ≡ r = cc in
      let len : length p.history ≡ n = cc in
      let all : take a (rs ++ answer ∷ []) ≡ rs = ap (λ (m : ℕ). take m (rs ++ answer ∷ [])) g.0 ∙ (take_before rs (answer ∷ []) (length rs) (omega arith) ∙ take_all rs) in
      subst (λ (x : List Record). IsExplained (memory_of p) x j k r n) (sym all)
      (subst (λ (m : ℕ). IsExplained (memory_of p) rs m k r n) own (subst (λ (m : ℕ). IsExplained (memory_of p) rs i m r n) num
      (subst (λ (m : Reply). IsExplained (memory_of p) rs i number m n) rep (subst (λ (m : ℕ). IsExplained (memory_of p) rs i number reply m) len explained)))))
      (get_push rs answer a (Ans j k r n) e)

  numbered_after : IsNumbered (rs ++ answer ∷ [])
  numbered_after a j k n y e = ⊎_elim
      (λ (g : (a < length rs) × (slice_get rs a ≡ Some (Sub j k y n))).
      let l : a < length rs = g.0 in
      b.numbered a j k n y g.1 ∙ ap (λ (x : List Record). length (made j x)) (sym (take_before rs (answer ∷ []) a (omega arith))))
      (λ (g : (a ≡ length rs) × (answer ≡ Sub j k y n)). absurd (let h : answer ≡ Sub j k y n = g.1 in cc))
      (get_push rs answer a (Sub j k y n) e)

  older_sub : (a j k n : ℕ) (y : Op) → slice_get (rs ++ answer ∷ []) a ≡ Some (Sub j k y n) → slice_get rs a ≡ Some (Sub j k y n)
  older_sub a j k n y e = ⊎_elim
      (λ (g : (a < length rs) × (slice_get rs a ≡ Some (Sub j k y n))). g.1)
      (λ (g : (a ≡ length rs) × (answer ≡ Sub j k y n)). absurd (let h : answer ≡ Sub j k y n = g.1 in cc))
      (get_push rs answer a (Sub j k y n) e)

  -- all but the answered one
  older_pending : (j k : ℕ) → one_if (answers_to j k answer) ≡ 0 → IsPending rs j k → IsPending (rs ++ answer ∷ []) j k
  older_pending j k other x =
      let d : count (answers_to j k) (rs ++ answer ∷ []) ≡ count (answers_to j k) rs + one_if (answers_to j k answer) = count_push (answers_to j k) rs answer in
      let u : count (answers_to j k) rs ≡ 0 = none_counted (answers_to j k) rs x.unanswered in
      record { place = x.place; op = x.op; since = x.since; asked = get_before rs (answer ∷ []) x.place (Sub j k x.op x.since) x.asked; not_posted = x.not_posted; unanswered = none_any (answers_to j k) (rs ++ answer ∷ []) (omega arith) }

  pending_after : (t k : ℕ) → open_number q' t ≡ Some k → IsPending (rs ++ answer ∷ []) i k
  pending_after t k e =
      let f : (t ≢ c.tag) × (open_number (requester_of p i) t ≡ Some k) = still i p.extent p.history p.inward p.outward (up_of p i) rest (requester_of p i) q' c number sound_here z t k e in
      older_pending i k (miss_right i k i number (λ is. f.0 ((s i).open_once t c.tag k f.1 (z.was_open ∙ ap Some is)))) (b.pending i t k f.1)

  pub collect_belongs : Belongs after (rs ++ answer ∷ [])
  collect_belongs = record {
    linear = linear_after;
    numbered = numbered_after;
    rising = still_rising p.history rs answer refl b.within b.rising;
    within = still_within p.history rs answer refl b.within;
    made = λ j. record {
      spent = ap length (made_ans j i number reply (length p.history) rs) ∙ ((b.made j).spent ∙ dite (ℕ_discrete j i)
          (λ is. ap (λ (m : ℕ). (requester_of p m).next) is ∙ (sym z.next ∙ (ap (λ (q : RequesterView). q.next) (sym requester_after) ∙ ap (λ (m : ℕ). (requester_of after m).next) (sym is))))
          (λ ne. ap (λ (q : RequesterView). q.next) (sym (requester_kept j ne))));
      each = subst (λ (l : List Op). Each (λ (e : Entry). e.requester ≡ j → slice_get l e.number ≡ Some e.op) (path (view p j))) (sym (made_ans j i number reply (length p.history) rs)) (b.made j).each;
    };
    pending = λ j t k e. dite (ℕ_discrete j i)
        (λ is. subst (λ (m : ℕ). IsPending (rs ++ answer ∷ []) m k) (sym is) (pending_after t k (ap (λ (q : RequesterView). open_number q t) (sym requester_after) ∙ (ap (λ (m : ℕ). open_number (requester_of after m) t) (sym is) ∙ e))))
        (λ ne. older_pending j k (miss_left j k i number (λ h. ne (sym h))) (b.pending j t k (ap (λ (q : RequesterView). open_number q t) (sym (requester_kept j ne)) ∙ e)));
    opened = λ a j k n y e np un.
        let d : count (answers_to j k) (rs ++ answer ∷ []) ≡ count (answers_to j k) rs + one_if (answers_to j k answer) = count_push (answers_to j k) rs answer in
        let w : count (answers_to j k) (rs ++ answer ∷ []) ≡ 0 = none_counted (answers_to j k) (rs ++ answer ∷ []) un in
        let (t, f) = b.opened a j k n y (older_sub a j k n y e) np (none_any (answers_to j k) rs (omega arith)) in (
          t,
          dite (ℕ_discrete j i)
              (λ is.
              let here : open_number (requester_of p i) t ≡ Some k = ap (λ (m : ℕ). open_number (requester_of p m) t) (sym is) ∙ f in
              ap (λ (m : ℕ). open_number (requester_of after m) t) is ∙ (ap (λ (q : RequesterView). open_number q t) requester_after ∙ (z.others t (λ at. absurd (
              let g : open_number (requester_of p i) t ≡ Some number = ap (open_number (requester_of p i)) at ∙ z.was_open in
              let same_number : number ≡ k = cc in
              let one : one_if (answers_to j k answer) ≡ 1 = hit j k i number (sym is) same_number in
              omega arith)) ∙ here)))
              (λ ne. ap (λ (q : RequesterView). open_number q t) (requester_kept j ne) ∙ f),
        );
    later = λ a j k n y e. b.later a j k n y (older_sub a j k n y e);
  }
