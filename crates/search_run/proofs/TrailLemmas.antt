-- A step more on a trail, and one less.
use Rattle.std.proofs.Common.{◌≡◌, ◌∙◌, ℕ, suc, ◌+◌, ◌-◌, ◌≤◌, Bool, true, false, List, [], ◌∷◌, ◌++◌, Some, length, take, drop, refl, sym, ap, subst, arith, length-append}
use Rattle.std.specs.Prelude.{slice_index, ◌==◌}
use Rattle.std.specs.List.{All}
use Rattle.std.proofs.lemmas.List.{take_all, take-append-le, drop-append-le, length-drop, append-nil}
use Rattle.std.proofs.lemmas.List.Elements.{All-push, All-pop, All-tail}
use Rattle.std.proofs.lemmas.Bool.{ne_eqb}
use Rattle.log_runs.specs.declared.Step.TheVariants as steps
use Rattle.search_places.specs.declared.steps.Done.{Done}
use Rattle.search_run.specs.Trails.{is_pass, acts_by, size_by, done_by, acts_of, bytes_in, trail_of, IsTrail}

acts_more : (ms : List ℕ) (m : ℕ) → acts_of (ms ++ m ∷ []) ≡ acts_of ms + acts_by (is_pass m)
acts_more [] m = omega arith
acts_more (k ∷ ms) m = let e = acts_more ms m in omega (arith, e)

bytes_more : (ms : List ℕ) (m : ℕ) → bytes_in (ms ++ m ∷ []) ≡ bytes_in ms + size_by (is_pass m) m
bytes_more [] m = omega arith
bytes_more (k ∷ ms) m = let e = bytes_more ms m in omega (arith, e)

-- a mark for each step
pub one_each : (ms bs old : List ℕ) → length (trail_of ms bs old) ≡ length ms
one_each [] bs old = refl
one_each (m ∷ ms) bs old = ap suc (one_each ms (drop (acts_by (is_pass m)) bs) (drop (size_by (is_pass m) m) old))

-- the first request is the same one
same_first : (p : Bool) (bs cs : List ℕ) (bytes : List ℕ) → acts_by p ≤ length bs → done_by p (slice_index (bs ++ cs) 0) bytes ≡ done_by p (slice_index bs 0) bytes
same_first true bs cs bytes l = refl
same_first false [] cs bytes l = absurd (omega (arith, l))
same_first false (b ∷ bs) cs bytes l = refl

pub one_more : (ms bs old : List ℕ) (m : ℕ) (cs new : List ℕ) → length bs ≡ acts_of ms → length old ≡ bytes_in ms → length new ≡ size_by (is_pass m) m
    → trail_of (ms ++ m ∷ []) (bs ++ cs) (old ++ new) ≡ trail_of ms bs old ++ done_by (is_pass m) (slice_index cs 0) new ∷ []
one_more [] [] [] m cs new acts bytes size =
    ap (λ (xs : List ℕ). done_by (is_pass m) (slice_index cs 0) xs ∷ []) (take_all (size_by (is_pass m) m) new (omega (arith, size)))
one_more [] (b ∷ bs) old m cs new acts bytes size = absurd (omega (arith, acts))
one_more [] [] (x ∷ old) m cs new acts bytes size = absurd (omega (arith, bytes))
one_more (k ∷ ms) bs old m cs new acts bytes size =
    let a = acts_by (is_pass k) in
    let n = size_by (is_pass k) k in
    let enough : a ≤ length bs = omega (arith, acts) in
    let long : n ≤ length old = omega (arith, bytes) in
    let first : done_by (is_pass k) (slice_index (bs ++ cs) 0) (take n (old ++ new)) ≡ done_by (is_pass k) (slice_index bs 0) (take n old) =
    ap (λ (xs : List ℕ). done_by (is_pass k) (slice_index (bs ++ cs) 0) xs) (take-append-le n old new long) ∙ same_first (is_pass k) bs cs (take n old) enough in
    let fewer : length (drop a bs) ≡ acts_of ms = length-drop a bs ∙ omega (arith, acts) in
    let shorter : length (drop n old) ≡ bytes_in ms = length-drop n old ∙ omega (arith, bytes) in
    let rest : trail_of (ms ++ m ∷ []) (drop a (bs ++ cs)) (drop n (old ++ new)) ≡ trail_of ms (drop a bs) (drop n old) ++ done_by (is_pass m) (slice_index cs 0) new ∷ [] =
    ap (λ (xs : List ℕ). trail_of (ms ++ m ∷ []) xs (drop n (old ++ new))) (drop-append-le a bs cs enough)
    ∙ ap (λ (xs : List ℕ). trail_of (ms ++ m ∷ []) (drop a bs ++ cs) xs) (drop-append-le n old new long)
    ∙ one_more ms (drop a bs) (drop n old) m cs new fewer shorter size in
    ap (λ (d : Done). d ∷ trail_of (ms ++ m ∷ []) (drop a (bs ++ cs)) (drop n (old ++ new))) first
    ∙ ap (λ (ds : List Done). done_by (is_pass k) (slice_index bs 0) (take n old) ∷ ds) rest

-- a step more
pub put : (ms bs old ns cs new : List ℕ) (m : ℕ) (one bytes : List ℕ) → IsTrail ms bs old → ns ≡ ms ++ m ∷ [] → cs ≡ bs ++ one → new ≡ old ++ bytes
    → length one ≡ acts_by (is_pass m) → length bytes ≡ size_by (is_pass m) m → size_by (is_pass m) m ≤ 128
    → IsTrail ns cs new × (trail_of ns cs new ≡ trail_of ms bs old ++ done_by (is_pass m) (slice_index one 0) bytes ∷ [])
put ms bs old ns cs new m one bytes t en ec eo acts size few =
    let more = acts_more ms m in
    let longer = bytes_more ms m in
    let count : length cs ≡ acts_of ns = ap length ec ∙ length-append bs one ∙ omega (arith, t.acts, acts, more) ∙ ap acts_of (sym en) in
    let room : length new ≡ bytes_in ns = ap length eo ∙ length-append old bytes ∙ omega (arith, t.bytes, size, longer) ∙ ap bytes_in (sym en) in (
      record {
        acts = count;
        bytes = room;
        few = subst (All (λ k. size_by (is_pass k) k ≤ 128)) (sym en) (All-push (λ k. size_by (is_pass k) k ≤ 128) ms m t.few few);
      },
      rw (en, ec, eo) (one_more ms bs old m one bytes t.acts t.bytes size),
    )

-- a step less
pub off : (ms bs old ns cs new : List ℕ) (m : ℕ) (one bytes : List ℕ) → IsTrail ms bs old → ms ≡ ns ++ m ∷ [] → bs ≡ cs ++ one → old ≡ new ++ bytes
    → length one ≡ acts_by (is_pass m) → length bytes ≡ size_by (is_pass m) m
    → IsTrail ns cs new × (trail_of ms bs old ≡ trail_of ns cs new ++ done_by (is_pass m) (slice_index one 0) bytes ∷ [])
off ms bs old ns cs new m one bytes t en ec eo acts size =
    let count : length cs + length one ≡ acts_of ns + acts_by (is_pass m) = sym (length-append cs one) ∙ ap length (sym ec) ∙ t.acts ∙ ap acts_of en ∙ acts_more ns m in
    let room : length new + length bytes ≡ bytes_in ns + size_by (is_pass m) m = sym (length-append new bytes) ∙ ap length (sym eo) ∙ t.bytes ∙ ap bytes_in en ∙ bytes_more ns m in
    let fewer : length cs ≡ acts_of ns = omega (arith, count, acts) in
    let shorter : length new ≡ bytes_in ns = omega (arith, room, size) in (
      record { acts = fewer; bytes = shorter; few = (All-pop (λ k. size_by (is_pass k) k ≤ 128) ms ns (Some m) en t.few).0 },
      rw (en, ec, eo) (one_more ns cs new m one bytes fewer shorter size),
    )

-- what an act took
pub has_act : (ms bs old ns : List ℕ) (m : ℕ) → IsTrail ms bs old → ms ≡ ns ++ m ∷ [] → is_pass m ≡ false → (1 ≤ length bs) × (m ≤ length old) × (m ≤ 128)
has_act ms bs old ns m t en act =
    let one : acts_by (is_pass m) ≡ 1 = ap acts_by act in
    let whole : size_by (is_pass m) m ≡ m = ap (λ p. size_by p m) act in
    let count : length bs ≡ acts_of ns + acts_by (is_pass m) = t.acts ∙ ap acts_of en ∙ acts_more ns m in
    let room : length old ≡ bytes_in ns + size_by (is_pass m) m = t.bytes ∙ ap bytes_in en ∙ bytes_more ns m in
    let few = (All-pop (λ k. size_by (is_pass k) k ≤ 128) ms ns (Some m) en t.few).1 in
    (omega (arith, count, one), omega (arith, room, whole), omega (arith, few, whole))

-- ---- a pass

pub pass_put : (ms bs old ns : List ℕ) → IsTrail ms bs old → ns ≡ ms ++ 255 ∷ []
    → IsTrail ns bs old × (trail_of ns bs old ≡ trail_of ms bs old ++ record { step = steps.Pass; old = record { items = [] } } ∷ [])
pass_put ms bs old ns t e = put ms bs old ns bs old 255 [] [] t e (sym (append-nil bs)) (sym (append-nil old)) refl refl (omega arith)

pub pass_off : (ms bs old ns : List ℕ) (m : ℕ) → IsTrail ms bs old → ms ≡ ns ++ m ∷ [] → m ≡ 255
    → IsTrail ns bs old × (trail_of ms bs old ≡ trail_of ns bs old ++ record { step = steps.Pass; old = record { items = [] } } ∷ [])
pass_off ms bs old ns m t e pass =
    off ms bs old ns bs old 255 [] [] t (e ∙ ap (λ k. ns ++ k ∷ []) pass) (sym (append-nil bs)) (sym (append-nil old)) refl refl

-- ---- an act

pub act_put : (ms bs old ns cs new : List ℕ) (m b : ℕ) (bytes : List ℕ) → IsTrail ms bs old → ns ≡ ms ++ m ∷ [] → cs ≡ bs ++ b ∷ [] → new ≡ old ++ bytes → m ≡ length bytes → length bytes ≤ 128
    → IsTrail ns cs new × (trail_of ns cs new ≡ trail_of ms bs old ++ record { step = steps.Act b; old = record { items = bytes } } ∷ [])
act_put ms bs old ns cs new m b bytes t en ec eo size few =
    let act : is_pass m ≡ false = ne_eqb m 255 (λ e. omega (arith, size, few, e)) in
    let one : 1 ≡ acts_by (is_pass m) = ap acts_by (sym act) in
    let whole : m ≡ size_by (is_pass m) m = ap (λ p. size_by p m) (sym act) in
    let (trail, is) = put ms bs old ns cs new m (b ∷ []) bytes t en ec eo one (sym size ∙ whole) (omega (arith, size, few, whole)) in
    (trail, is ∙ ap (λ p. trail_of ms bs old ++ done_by p b bytes ∷ []) act)

pub act_off : (ms bs old ns cs new : List ℕ) (m b : ℕ) (bytes : List ℕ) → IsTrail ms bs old → ms ≡ ns ++ m ∷ [] → bs ≡ cs ++ b ∷ [] → old ≡ new ++ bytes → is_pass m ≡ false → length bytes ≡ m
    → IsTrail ns cs new × (trail_of ms bs old ≡ trail_of ns cs new ++ record { step = steps.Act b; old = record { items = bytes } } ∷ [])
act_off ms bs old ns cs new m b bytes t en ec eo act size =
    let one : 1 ≡ acts_by (is_pass m) = ap acts_by (sym act) in
    let whole : m ≡ size_by (is_pass m) m = ap (λ p. size_by p m) (sym act) in
    let (trail, is) = off ms bs old ns cs new m (b ∷ []) bytes t en ec eo one (size ∙ whole) in
    (trail, is ∙ ap (λ p. trail_of ns cs new ++ done_by p b bytes ∷ []) act)

-- ---- the steps from the front

-- without its first act
pub behind : (ms bs old : List ℕ) (n : ℕ) → IsTrail ms bs old → (length ms == 0) ≡ false → (slice_index ms 0 ≡ 255 → ⊥) → n ≡ slice_index ms 0
    → IsTrail (take (length ms - 1) (drop 1 ms)) (take (length bs - 1) (drop 1 bs)) (take (length old - n) (drop n old))
behind [] bs old n t some act size = cc
behind (m ∷ ms) bs old n t some act size =
    let kind : is_pass m ≡ false = ne_eqb m 255 act in
    let one : acts_by (is_pass m) ≡ 1 = ap acts_by kind in
    let whole : size_by (is_pass m) m ≡ m = ap (λ p. size_by p m) kind in
    let marks : take (length (m ∷ ms) - 1) ms ≡ ms = take_all (length (m ∷ ms) - 1) ms (omega arith) in
    let requests : take (length bs - 1) (drop 1 bs) ≡ drop 1 bs = take_all (length bs - 1) (drop 1 bs) (let e = length-drop 1 bs in omega (arith, e)) in
    let bytes : take (length old - n) (drop n old) ≡ drop n old = take_all (length old - n) (drop n old) (let e = length-drop n old in omega (arith, e)) in
    rw (marks, requests, bytes) (record {
      acts = length-drop 1 bs ∙ omega (arith, t.acts, one);
      bytes = length-drop n old ∙ omega (arith, t.bytes, whole, size);
      few = All-tail (λ k. size_by (is_pass k) k ≤ 128) m ms t.few;
    })
