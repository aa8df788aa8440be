-- A request that acts keeps the fabric sound.
use Rattle.std.proofs.Common.{◌≡◌, ◌≢◌, ℕ, ◌+◌, ◌<◌, ◌==◌, ◌&&◌, Bool, true, false, List, [], ◌∷◌, ◌++◌, length, map, refl, sym, ap, ◌∙◌, subst, arith, append_assoc, inl, inr, ◌⊎◌, ⊎_elim, Option, Some, None}
use Rattle.std.proofs.lemmas.List.{map-append}
use mathlib.Core.Logic.{dite}
use native.Mathlib.Decide.{ℕ_discrete}
use Rattle.dllp_core.specs.declared.packet.Class.TheVariants as classes
use Rattle.fabric_steps.specs.Lists.{Each, Pairs, one_if}
use Rattle.fabric_steps.specs.Whole.{Entry, MarkedPacket, Op, reply_after, is_posted, View, RequesterView, open_number, count_of, FitsSize, size_at, path, entry_of, completions_for, marked_completion, Extent, Reply}
use Rattle.history_words.specs.Trace.{is_request}
use Rattle.fabric_steps.specs.Sound.{times, is_answer, answers, served, InOrder, IsRequest, IsCompletion, IsTagged, IsAskedBy, IsSized, IsReply, IsReplyFor, SoundAt}
use Rattle.fabric_steps.proofs.Lists.{each_append, each_split, each_weaken, each_remove, each_overtake, pairs_overtake, count_append, count_nil, count_one, count_push, count_map_insert, get_before, get_seam, take_before, take_all, get_within}
use Rattle.fabric_steps.proofs.Numbers.{hit, miss_left, miss_right, path_times}
use Rattle.fabric_steps.proofs.Forward.{passed_in_order}

-- what the requester of a completion awaits
answered_by : ℕ → Option ℕ → Entry → ℕ
answered_by i None e = 0
answered_by i (Some k) e = one_if (is_request i k e)

served_grows : (i : ℕ) (a : Option ℕ) (h : List Entry) (e : Entry) → served i a (h ++ e ∷ []) ≡ served i a h + answered_by i a e
unfolding answered_by
served_grows i None h e = refl
served_grows i (Some k) h e = count_push (is_request i k) h e

answered_none : (i : ℕ) (a : Option ℕ) (e : Entry) → ((k : ℕ) → a ≡ Some k → one_if (is_request i k e) ≡ 0) → answered_by i a e ≡ 0
unfolding answered_by
answered_none i None e f = refl
answered_none i (Some k) e f = f k refl

answered_one : (i k : ℕ) (a : Option ℕ) (e : Entry) → a ≡ Some k → one_if (is_request i k e) ≡ 1 → answered_by i a e ≡ 1
unfolding answered_by
answered_one i k None e is one = absurd (cc)
answered_one i k (Some m) e is one = let s : m ≡ k = cc in subst (λ (n : ℕ). one_if (is_request i n e) ≡ 1) (sym s) one

posted_or : (o : Op) → (is_posted o ≡ true) ⊎ (is_posted o ≡ false)
posted_or o = test (is_posted o)
  where
    test : (b : Bool) → (b ≡ true) ⊎ (b ≡ false)
    test true = inl refl
    test false = inr refl

none_for : (x : MarkedPacket) (r : Reply) → is_posted x.op ≡ true → completions_for x r ≡ []
none_for x r p = rw p

one_for : (x : MarkedPacket) (r : Reply) → is_posted x.op ≡ false → completions_for x r ≡ marked_completion x r ∷ []
one_for x r p = rw p

older_reply : (g : Extent) (i : ℕ) (q : RequesterView) (h : List Entry) (e : Entry) (c : MarkedPacket) → IsReply g i q h c → IsReply g i q (h ++ e ∷ []) c
older_reply g i q h e c r =
    let within : r.point < length h = get_within h r.point (record { requester = i; number = r.number; op = r.op }) r.acted in
    record {
      number = r.number;
      point = r.point;
      op = r.op;
      open_tag = r.open_tag;
      sized = r.sized;
      acted = get_before h (e ∷ []) r.point (record { requester = i; number = r.number; op = r.op }) r.acted;
      replied = r.replied ∙ ap (λ (l : List Entry). reply_after g l r.op) (sym (take_before h (e ∷ []) r.point (omega arith)));
    }

module _ (i : ℕ) (g : Extent) (h : List Entry) (o u d before behind : List MarkedPacket) (q : RequesterView) (x : MarkedPacket) where
  abbrev was : View
  was = record { extent = g; history = h; inward = before ++ x ∷ behind; outward = o; up = u; down = d; requester = q }

  abbrev now : View
  now = record { extent = g; history = h ++ entry_of x ∷ []; inward = before ++ behind; outward = o ++ completions_for x (reply_after g h x.op); up = u; down = d; requester = q }

  path_was : path was ≡ h ++ (map entry_of before ++ entry_of x ∷ (map entry_of behind ++ map entry_of u))
  path_was = simp (map-append, append_assoc)

  path_now : path now ≡ h ++ entry_of x ∷ (map entry_of before ++ (map entry_of behind ++ map entry_of u))
  path_now = simp (map-append, append_assoc)

  pub serve_path : (P : Entry → Type 0) → Each P (path was) → Each P (path now)
  serve_path P a = subst (Each P) (sym path_now) (each_overtake P h (map entry_of before) (map entry_of behind ++ map entry_of u) (entry_of x) (subst (Each P) path_was a))

  module _ (s : SoundAt i was) (fits : FitsSize (count_of x.op) (reply_after g h x.op)) where
    -- what is awaited under the tag is answered as often as the request acted
    one_each : (t : ℕ) → answers i t (completions_for x (reply_after g h x.op)) ≡ answered_by i (open_number q t) (entry_of x)
    one_each t = dite (ℕ_discrete x.requester i)
        (λ mine. ⊎_elim
        (λ (p : is_posted x.op ≡ true).
        ap (answers i t) (none_for x (reply_after g h x.op) p) ∙ (count_nil (is_answer i t) ∙ sym (answered_none i (open_number q t) (entry_of x)
        (λ k e. miss_right i k x.requester x.mark (λ is. absurd (
        let a : IsAskedBy i k (entry_of x) × Each (IsAskedBy i k) ((h ++ map entry_of before) ++ (map entry_of behind ++ map entry_of u)) =
        each_remove (IsAskedBy i k) (h ++ map entry_of before) (map entry_of behind ++ map entry_of u) (entry_of x)
        (subst (Each (IsAskedBy i k)) (path_was ∙ sym (append_assoc h (map entry_of before) (entry_of x ∷ (map entry_of behind ++ map entry_of u)))) (s.open_asked t k e)) in
        let n : is_posted x.op ≡ false = a.0 mine is in cc))))))
        (λ (n : is_posted x.op ≡ false).
        let tag_open : open_number q x.tag ≡ Some x.mark = (each_remove (IsTagged i q) before (behind ++ u) x (subst (Each (IsTagged i q)) (append_assoc before (x ∷ behind) u) s.tagged)).0 mine n in
        let counted : answers i t (completions_for x (reply_after g h x.op)) ≡ one_if ((i == x.requester) && (t == x.tag)) =
        ap (answers i t) (one_for x (reply_after g h x.op) n) ∙ count_one (is_answer i t) (marked_completion x (reply_after g h x.op)) in
        counted ∙ dite (ℕ_discrete x.tag t)
        (λ at. hit i t x.requester x.tag mine at ∙ sym (answered_one i x.mark (open_number q t) (entry_of x) (ap (open_number q) (sym at) ∙ tag_open) (hit i x.mark x.requester x.mark mine refl)))
        (λ other. miss_right i t x.requester x.tag other ∙ sym (answered_none i (open_number q t) (entry_of x)
        (λ k e. miss_right i k x.requester x.mark (λ is. other (s.open_once x.tag t k (tag_open ∙ ap Some is) e))))))
        (posted_or x.op))
        (λ ne. ⊎_elim
        (λ (p : is_posted x.op ≡ true). ap (answers i t) (none_for x (reply_after g h x.op) p) ∙ (count_nil (is_answer i t) ∙ nothing ne))
        (λ (n : is_posted x.op ≡ false). ap (answers i t) (one_for x (reply_after g h x.op) n) ∙ (count_one (is_answer i t) (marked_completion x (reply_after g h x.op)) ∙ (miss_left i t x.requester x.tag ne ∙ nothing ne)))
        (posted_or x.op))
      where
        nothing : x.requester ≢ i → 0 ≡ answered_by i (open_number q t) (entry_of x)
        nothing ne = sym (answered_none i (open_number q t) (entry_of x) (λ k e. miss_left i k x.requester x.mark ne))

    new_replies : Each (IsReplyFor g i q (h ++ entry_of x ∷ [])) (completions_for x (reply_after g h x.op))
    new_replies = ⊎_elim
        (λ (p : is_posted x.op ≡ true). subst (Each (IsReplyFor g i q (h ++ entry_of x ∷ []))) (sym (none_for x (reply_after g h x.op) p)) tt)
        (λ (n : is_posted x.op ≡ false). subst (Each (IsReplyFor g i q (h ++ entry_of x ∷ []))) (sym (one_for x (reply_after g h x.op) n)) (
          (λ mine. record {
            number = x.mark;
            point = length h;
            op = x.op;
            sized = fits;
            open_tag = (each_remove (IsTagged i q) before (behind ++ u) x (subst (Each (IsTagged i q)) (append_assoc before (x ∷ behind) u) s.tagged)).0 mine n;
            acted = get_seam h [] (entry_of x) ∙ ap (λ (j : ℕ). Some (record { requester = j; number = x.mark; op = x.op })) mine;
            replied = ap (λ (l : List Entry). reply_after g l x.op) (sym (take_before h (entry_of x ∷ []) (length h) (omega arith) ∙ take_all h));
          }),
          tt,
        ))
        (posted_or x.op)

    new_completions : Each IsCompletion (completions_for x (reply_after g h x.op))
    new_completions = ⊎_elim
        (λ (p : is_posted x.op ≡ true). subst (Each IsCompletion) (sym (none_for x (reply_after g h x.op) p)) tt)
        (λ (n : is_posted x.op ≡ false). subst (Each IsCompletion) (sym (one_for x (reply_after g h x.op) n)) (refl, tt))
        (posted_or x.op)

    pub serve_keeps : Each (λ (a : MarkedPacket). a.class ≢ classes.Posted) before → SoundAt i now
    serve_keeps p =
        let parts : IsRequest x × Each IsRequest (before ++ behind) = each_remove IsRequest before behind x s.requests in
        let all : Each (IsReplyFor g i q h) o × Each (IsReplyFor g i q h) d = each_split (IsReplyFor g i q h) o d s.replies in
        record {
          whole = λ k.
              let a : times i k (path now) ≡ times i k (h ++ entry_of x ∷ []) + (times i k (map entry_of (before ++ behind)) + times i k (map entry_of u)) = path_times i k now in
              let b : times i k (path was) ≡ times i k h + (times i k (map entry_of (before ++ x ∷ behind)) + times i k (map entry_of u)) = path_times i k was in
              let c : times i k (h ++ entry_of x ∷ []) ≡ times i k h + one_if (is_request i k (entry_of x)) = count_push (is_request i k) h (entry_of x) in
              let e : times i k (map entry_of (before ++ x ∷ behind)) ≡ one_if (is_request i k (entry_of x)) + times i k (map entry_of (before ++ behind)) = count_map_insert (is_request i k) entry_of before behind x in
              let f : times i k (path now) ≡ times i k (path was) = omega arith in
              f ∙ s.whole k;
          ordered = subst (Pairs (InOrder i)) (sym path_now) (pairs_overtake (InOrder i) h (map entry_of before) (map entry_of behind ++ map entry_of u) (entry_of x)
              (passed_in_order i x before (each_split IsRequest before behind parts.1).0 p) (subst (Pairs (InOrder i)) path_was s.ordered));
          requests = parts.1;
          own_requests = s.own_requests;
          completions = each_append IsCompletion o (completions_for x (reply_after g h x.op)) s.completions new_completions;
          own_completions = s.own_completions;
          tagged = subst (Each (IsTagged i q)) (sym (append_assoc before behind u)) (each_remove (IsTagged i q) before (behind ++ u) x (subst (Each (IsTagged i q)) (append_assoc before (x ∷ behind) u) s.tagged)).1;
          open_below = s.open_below;
          open_asked = λ t k e. serve_path (IsAskedBy i k) (s.open_asked t k e);
          open_sized = λ t k e. serve_path (IsSized i k (size_at q t)) (s.open_sized t k e);
          open_once = s.open_once;
          under_way = λ t.
              let a : answers i t (o ++ completions_for x (reply_after g h x.op)) ≡ answers i t o + answers i t (completions_for x (reply_after g h x.op)) = count_append (is_answer i t) o (completions_for x (reply_after g h x.op)) in
              let b : answers i t (completions_for x (reply_after g h x.op)) ≡ answered_by i (open_number q t) (entry_of x) = one_each t in
              let c : served i (open_number q t) (h ++ entry_of x ∷ []) ≡ served i (open_number q t) h + answered_by i (open_number q t) (entry_of x) = served_grows i (open_number q t) h (entry_of x) in
              let e : answers i t o + answers i t d ≡ served i (open_number q t) h = s.under_way t in
              omega arith;
          replies = each_append (IsReplyFor g i q (h ++ entry_of x ∷ [])) (o ++ completions_for x (reply_after g h x.op)) d
              (each_append (IsReplyFor g i q (h ++ entry_of x ∷ [])) o (completions_for x (reply_after g h x.op))
              (each_weaken (IsReplyFor g i q h) (IsReplyFor g i q (h ++ entry_of x ∷ [])) o (λ c r own. older_reply g i q h (entry_of x) c (r own)) all.0) new_replies)
              (each_weaken (IsReplyFor g i q h) (IsReplyFor g i q (h ++ entry_of x ∷ [])) d (λ c r own. older_reply g i q h (entry_of x) c (r own)) all.1);
        }
