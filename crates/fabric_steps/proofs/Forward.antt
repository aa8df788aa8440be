-- A request that goes from `up` to `in`, and a completion that goes from `out` to `down`, keep the fabric sound.
use Rattle.std.proofs.Common.{◌≡◌, ◌≢◌, ℕ, ◌+◌, Bool, true, false, List, [], ◌∷◌, ◌++◌, map, refl, sym, ◌∙◌, subst, arith, append_assoc}
use Rattle.std.proofs.lemmas.List.{map-append}
use Rattle.dllp_core.specs.declared.packet.Class.TheVariants as classes
use Rattle.fabric_steps.specs.Lists.{Each, Pairs, one_if}
use Rattle.fabric_steps.specs.Whole.{Entry, MarkedPacket, Op, Class, class_of_op, is_posted, View, RequesterView, size_at, path, entry_of, Extent}
use Rattle.history_words.specs.Trace.{is_request}
use Rattle.fabric_steps.specs.Sound.{times, is_answer, answers, InOrder, IsRequest, IsRequestOf, IsCompletion, IsCompletionFor, IsTagged, IsAskedBy, IsSized, IsReplyFor, SoundAt}
use Rattle.fabric_steps.proofs.Lists.{each_append, each_split, each_weaken, each_always, each_insert, each_remove, each_overtake, pairs_insert, pairs_overtake, count_insert, count_push, count_map_insert, count_map_push}
use Rattle.fabric_steps.proofs.Numbers.{miss_left, path_times}

overtaken : (o : Op) (c : Class) → c ≡ class_of_op o → c ≢ classes.Posted → is_posted o ≡ false
overtaken o c e n = go (is_posted o) refl
  where
    go : (p : Bool) → is_posted o ≡ p → is_posted o ≡ false
    go false is = is
    go true is = absurd (n (e ∙ rw is refl))

-- what is passed is no posted request
pub passed : (a : MarkedPacket) → IsRequest a → a.class ≢ classes.Posted → is_posted a.op ≡ false
passed a r n = overtaken a.op a.class r n

pub passed_in_order : (i : ℕ) (x : MarkedPacket) (before : List MarkedPacket) → Each IsRequest before → Each (λ (a : MarkedPacket). a.class ≢ classes.Posted) before → Each (InOrder i (entry_of x)) (map entry_of before)
passed_in_order i x [] r p = tt
passed_in_order i x (a ∷ as') r p = ((λ own its posted_a. absurd (let n : is_posted a.op ≡ false = passed a r.0 p.0 in let y : is_posted a.op ≡ true = posted_a in cc)), passed_in_order i x as' r.1 p.1)

module _ (i : ℕ) (g : Extent) (h : List Entry) (w o d before behind : List MarkedPacket) (q : RequesterView) (x : MarkedPacket) where
  abbrev was_up : View
  was_up = record { extent = g; history = h; inward = w; outward = o; up = before ++ x ∷ behind; down = d; requester = q }

  abbrev now_up : View
  now_up = record { extent = g; history = h; inward = w ++ x ∷ []; outward = o; up = before ++ behind; down = d; requester = q }

  path_was : path was_up ≡ (h ++ map entry_of w) ++ (map entry_of before ++ entry_of x ∷ map entry_of behind)
  path_was = simp (map-append, append_assoc)

  path_now : path now_up ≡ (h ++ map entry_of w) ++ entry_of x ∷ (map entry_of before ++ map entry_of behind)
  path_now = simp (map-append, append_assoc)

  -- what holds of each on the path still does
  pub forward_path : (P : Entry → Type 0) → Each P (path was_up) → Each P (path now_up)
  forward_path P a = subst (Each P) (sym path_now) (each_overtake P (h ++ map entry_of w) (map entry_of before) (map entry_of behind) (entry_of x) (subst (Each P) path_was a))

  pub forward_keeps : SoundAt i was_up → Each (λ (a : MarkedPacket). a.class ≢ classes.Posted) before → SoundAt i now_up
  forward_keeps s p =
      let parts : IsRequestOf i x × Each (IsRequestOf i) (before ++ behind) = each_remove (IsRequestOf i) before behind x s.own_requests in
      let asked : Each IsRequest before = each_weaken (IsRequestOf i) IsRequest before (λ a r. r.1) (each_split (IsRequestOf i) before behind parts.1).0 in
      record {
        whole = λ k.
            let a : times i k (path now_up) ≡ times i k h + (times i k (map entry_of (w ++ x ∷ [])) + times i k (map entry_of (before ++ behind))) = path_times i k now_up in
            let b : times i k (path was_up) ≡ times i k h + (times i k (map entry_of w) + times i k (map entry_of (before ++ x ∷ behind))) = path_times i k was_up in
            let c : times i k (map entry_of (w ++ x ∷ [])) ≡ times i k (map entry_of w) + one_if (is_request i k (entry_of x)) = count_map_push (is_request i k) entry_of w x in
            let e : times i k (map entry_of (before ++ x ∷ behind)) ≡ one_if (is_request i k (entry_of x)) + times i k (map entry_of (before ++ behind)) = count_map_insert (is_request i k) entry_of before behind x in
            let f : times i k (path now_up) ≡ times i k (path was_up) = omega arith in
            f ∙ s.whole k;
        ordered = subst (Pairs (InOrder i)) (sym path_now) (pairs_overtake (InOrder i) (h ++ map entry_of w) (map entry_of before) (map entry_of behind) (entry_of x) (passed_in_order i x before asked p) (subst (Pairs (InOrder i)) path_was s.ordered));
        requests = each_append IsRequest w (x ∷ []) s.requests (parts.0.1, tt);
        own_requests = parts.1;
        completions = s.completions;
        own_completions = s.own_completions;
        tagged = subst (Each (IsTagged i q)) (sym (append_assoc w (x ∷ []) (before ++ behind))) (each_overtake (IsTagged i q) w before behind x s.tagged);
        open_below = s.open_below;
        open_asked = λ t k e. forward_path (IsAskedBy i k) (s.open_asked t k e);
        open_sized = λ t k e. forward_path (IsSized i k (size_at q t)) (s.open_sized t k e);
        open_once = s.open_once;
        under_way = s.under_way;
        replies = s.replies;
      }

-- of another requester
module _ (j : ℕ) (v : View) (x : MarkedPacket) (ne : x.requester ≢ j) where
  abbrev more : View
  more = record v { inward = v.inward ++ x ∷ [] }

  path_before : path v ≡ (v.history ++ map entry_of v.inward) ++ map entry_of v.up
  path_before = sym (append_assoc v.history (map entry_of v.inward) (map entry_of v.up))

  path_more : path more ≡ (v.history ++ map entry_of v.inward) ++ entry_of x ∷ map entry_of v.up
  path_more = simp (map-append, append_assoc)

  pub other_path : (P : Entry → Type 0) → ((e : Entry) → e.requester ≢ j → P e) → Each P (path v) → Each P (path more)
  other_path P f a = subst (Each P) (sym path_more) (each_insert P (v.history ++ map entry_of v.inward) (map entry_of v.up) (entry_of x) (subst (Each P) path_before a) (f (entry_of x) ne))

  pub forward_other : SoundAt j v → IsRequest x → SoundAt j more
  forward_other s r = record {
    whole = λ k.
        let a : times j k (path more) ≡ times j k v.history + (times j k (map entry_of (v.inward ++ x ∷ [])) + times j k (map entry_of v.up)) = path_times j k more in
        let b : times j k (path v) ≡ times j k v.history + (times j k (map entry_of v.inward) + times j k (map entry_of v.up)) = path_times j k v in
        let c : times j k (map entry_of (v.inward ++ x ∷ [])) ≡ times j k (map entry_of v.inward) + one_if (is_request j k (entry_of x)) = count_map_push (is_request j k) entry_of v.inward x in
        let z : one_if (is_request j k (entry_of x)) ≡ 0 = miss_left j k x.requester x.mark ne in
        let f : times j k (path more) ≡ times j k (path v) = omega arith in
        f ∙ s.whole k;
    ordered = subst (Pairs (InOrder j)) (sym path_more) (pairs_insert (InOrder j) (v.history ++ map entry_of v.inward) (map entry_of v.up) (entry_of x) (subst (Pairs (InOrder j)) path_before s.ordered)
        (each_always (λ (a : Entry). InOrder j a (entry_of x)) (v.history ++ map entry_of v.inward) (λ a own its y. absurd (ne its)))
        (each_always (InOrder j (entry_of x)) (map entry_of v.up) (λ a own its y. absurd (ne own))));
    requests = each_append IsRequest v.inward (x ∷ []) s.requests (r, tt);
    own_requests = s.own_requests;
    completions = s.completions;
    own_completions = s.own_completions;
    tagged = subst (Each (IsTagged j v.requester)) (sym (append_assoc v.inward (x ∷ []) v.up)) (each_insert (IsTagged j v.requester) v.inward v.up x s.tagged (λ own n. absurd (ne own)));
    open_below = s.open_below;
    open_asked = λ t k e. other_path (IsAskedBy j k) (λ a n own is. absurd (n own)) (s.open_asked t k e);
    open_sized = λ t k e. other_path (IsSized j k (size_at v.requester t)) (λ a n own is. absurd (n own)) (s.open_sized t k e);
    open_once = s.open_once;
    under_way = s.under_way;
    replies = s.replies;
  }

-- a completion

module _ (i : ℕ) (g : Extent) (h : List Entry) (w u d before behind : List MarkedPacket) (q : RequesterView) (c : MarkedPacket) where
  abbrev was_out : View
  was_out = record { extent = g; history = h; inward = w; outward = before ++ c ∷ behind; up = u; down = d; requester = q }

  pub back_keeps : SoundAt i was_out → c.requester ≡ i → SoundAt i (record was_out { outward = before ++ behind; down = d ++ c ∷ [] })
  back_keeps s own =
      let parts : IsCompletion c × Each IsCompletion (before ++ behind) = each_remove IsCompletion before behind c s.completions in
      record {
        whole = s.whole;
        ordered = s.ordered;
        requests = s.requests;
        own_requests = s.own_requests;
        completions = parts.1;
        own_completions = each_append (IsCompletionFor i) d (c ∷ []) s.own_completions ((own, parts.0), tt);
        tagged = s.tagged;
        open_below = s.open_below;
        open_asked = s.open_asked;
        open_sized = s.open_sized;
        open_once = s.open_once;
        under_way = λ t.
            let a : answers i t (before ++ c ∷ behind) ≡ one_if (is_answer i t c) + answers i t (before ++ behind) = count_insert (is_answer i t) before behind c in
            let b : answers i t (d ++ c ∷ []) ≡ answers i t d + one_if (is_answer i t c) = count_push (is_answer i t) d c in
            let e : answers i t (before ++ behind) + answers i t (d ++ c ∷ []) ≡ answers i t (before ++ c ∷ behind) + answers i t d = omega arith in
            e ∙ s.under_way t;
        replies =
            let all : Each (IsReplyFor g i q h) (before ++ c ∷ behind) × Each (IsReplyFor g i q h) d = each_split (IsReplyFor g i q h) (before ++ c ∷ behind) d s.replies in
            let r : IsReplyFor g i q h c × Each (IsReplyFor g i q h) (before ++ behind) = each_remove (IsReplyFor g i q h) before behind c all.0 in
            each_append (IsReplyFor g i q h) (before ++ behind) (d ++ c ∷ []) r.1 (each_append (IsReplyFor g i q h) d (c ∷ []) all.1 (r.0, tt));
      }

  pub back_other : SoundAt i was_out → c.requester ≢ i → SoundAt i (record was_out { outward = before ++ behind })
  back_other s ne = record {
    whole = s.whole;
    ordered = s.ordered;
    requests = s.requests;
    own_requests = s.own_requests;
    completions = (each_remove IsCompletion before behind c s.completions).1;
    own_completions = s.own_completions;
    tagged = s.tagged;
    open_below = s.open_below;
    open_asked = s.open_asked;
    open_sized = s.open_sized;
    open_once = s.open_once;
    under_way = λ t.
        let a : answers i t (before ++ c ∷ behind) ≡ one_if (is_answer i t c) + answers i t (before ++ behind) = count_insert (is_answer i t) before behind c in
        let z : one_if (is_answer i t c) ≡ 0 = miss_left i t c.requester c.tag ne in
        let e : answers i t (before ++ behind) + answers i t d ≡ answers i t (before ++ c ∷ behind) + answers i t d = omega arith in
        e ∙ s.under_way t;
    replies =
        let all : Each (IsReplyFor g i q h) (before ++ c ∷ behind) × Each (IsReplyFor g i q h) d = each_split (IsReplyFor g i q h) (before ++ c ∷ behind) d s.replies in
        each_append (IsReplyFor g i q h) (before ++ behind) d (each_remove (IsReplyFor g i q h) before behind c all.0).1 all.1;
  }
