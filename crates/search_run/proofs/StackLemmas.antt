-- Frames, cut from the lists of a stack.
use Rattle.std.proofs.Common.{Bool, true, ◌≡◌, ◌∙◌, ℕ, zero, suc, ◌+◌, ◌-◌, ◌<◌, ◌≤◌, List, [], ◌∷◌, ◌++◌, Option, Some, None, length, take, drop, refl, sym, ap, arith, append_assoc, length-append}
use Rattle.std.specs.Prelude.{◌==◌, IsSome, IfNone, option_to_list, get_or, set}
use Rattle.std.proofs.lemmas.List.{take_all, drop_all, drop_at, take-append-le, drop-append-le, take-append-drop, drop-drop, length-take, length-drop}
use Rattle.std.proofs.lemmas.Bool.{false≢true, eqb-true}
use Rattle.log_runs.specs.declared.Step.{Step}
use Rattle.search_places.specs.declared.steps.Done.{Done}
use Rattle.search_run.specs.Trails.{steps_by}
use Rattle.search_run.specs.declared.stack.Mark.{Mark}
use Rattle.search_run.specs.StackView.{FrameView}
use Rattle.search_run.specs.Marks.{taken_by, noted_by, frames_in, IsCut, Lowers, IsLowest}
use Rattle.search_run.specs.Stacked.{close, Notes, Forgets, HasNone, noted_at, Reopens, steps_of}
use Rattle.search_run.proofs.Lists.{take_more}

-- ---- one mark more

taken_more : (ms : List Mark) (m : Mark) → taken_by (ms ++ m ∷ []) ≡ taken_by ms + m.done
taken_more [] m = omega arith
taken_more (k ∷ ms) m = let e = taken_more ms m in omega (arith, e)

noted_more : (ms : List Mark) (m : Mark) → noted_by (ms ++ m ∷ []) ≡ noted_by ms + m.noted
noted_more [] m = omega arith
noted_more (k ∷ ms) m = let e = noted_more ms m in omega (arith, e)

-- the last frame
abbrev last_in : List Mark → Mark → List Done → List Step → FrameView
last_in ms m ds xs = record { done = take m.done (drop (taken_by ms) ds); noted = take m.noted (drop (noted_by ms) xs) }

frames_more : (ms : List Mark) (m : Mark) (ds : List Done) (xs : List Step) → frames_in (ms ++ m ∷ []) ds xs ≡ frames_in ms ds xs ++ last_in ms m ds xs ∷ []
frames_more [] m ds xs = refl
frames_more (k ∷ ms) m ds xs =
    let first : FrameView = record { done = take k.done ds; noted = take k.noted xs } in
    ap (λ (fs : List FrameView). first ∷ fs) (
    frames_more ms m (drop k.done ds) (drop k.noted xs)
    ∙ ap (λ (es : List Done). frames_in ms (drop k.done ds) (drop k.noted xs) ++ record { done = take m.done es; noted = take m.noted (drop (noted_by ms) (drop k.noted xs)) } ∷ [])
    (drop-drop (taken_by ms) k.done ds)
    ∙ ap (λ (ys : List Step). frames_in ms (drop k.done ds) (drop k.noted xs) ++ record { done = take m.done (drop (k.done + taken_by ms) ds); noted = take m.noted ys } ∷ [])
    (drop-drop (noted_by ms) k.noted xs))

-- ---- more steps behind those of the frames

-- that were taken
pub same_frames : (ms : List Mark) (ds es : List Done) (xs : List Step) → taken_by ms ≤ length ds → frames_in ms (ds ++ es) xs ≡ frames_in ms ds xs
same_frames [] ds es xs l = refl
same_frames (m ∷ ms) ds es xs l =
    let here : m.done ≤ length ds = omega (arith, l) in
    let behind : taken_by ms ≤ length (drop m.done ds) = let e = length-drop m.done ds in omega (arith, l, e) in
    ap (λ (fs : List Done). record { done = fs; noted = take m.noted xs } ∷ frames_in ms (drop m.done (ds ++ es)) (drop m.noted xs)) (take-append-le m.done ds es here)
    ∙ ap (λ (fs : List Done). record { done = take m.done ds; noted = take m.noted xs } ∷ frames_in ms fs (drop m.noted xs)) (drop-append-le m.done ds es here)
    ∙ ap (λ (fs : List FrameView). record { done = take m.done ds; noted = take m.noted xs } ∷ fs) (same_frames ms (drop m.done ds) es (drop m.noted xs) behind)

-- that are noted
same_rests : (ms : List Mark) (ds : List Done) (xs ys : List Step) → noted_by ms ≤ length xs → frames_in ms ds (xs ++ ys) ≡ frames_in ms ds xs
same_rests [] ds xs ys l = refl
same_rests (m ∷ ms) ds xs ys l =
    let here : m.noted ≤ length xs = omega (arith, l) in
    let behind : noted_by ms ≤ length (drop m.noted xs) = let e = length-drop m.noted xs in omega (arith, l, e) in
    ap (λ (zs : List Step). record { done = take m.done ds; noted = zs } ∷ frames_in ms (drop m.done ds) (drop m.noted (xs ++ ys))) (take-append-le m.noted xs ys here)
    ∙ ap (λ (zs : List Step). record { done = take m.done ds; noted = take m.noted xs } ∷ frames_in ms (drop m.done ds) zs) (drop-append-le m.noted xs ys here)
    ∙ ap (λ (fs : List FrameView). record { done = take m.done ds; noted = take m.noted xs } ∷ fs) (same_rests ms (drop m.done ds) (drop m.noted xs) ys behind)

-- ---- a step more, and one less

pub put : (ms : List Mark) (n : ℕ) (ds es : List Done) (xs : List Step) (d : Done) → IsCut ms n ds xs → es ≡ ds ++ d ∷ []
    → IsCut ms n es xs × (frames_in ms es xs ≡ frames_in ms ds xs) × (drop n es ≡ drop n ds ++ d ∷ [])
put ms n ds es xs d cut e =
    let far : n ≤ length ds = omega (arith, cut.closed, cut.taken) in
    let size = length-append ds (d ∷ []) in
    rw e (
      record { closed = cut.closed; taken = omega (arith, cut.taken, size); noted = cut.noted },
      same_frames ms ds (d ∷ []) xs cut.taken,
      drop-append-le n ds (d ∷ []) far,
    )

no_more : {X : Type 0} → (o : Option X) → length (option_to_list o) ≤ 1
no_more None = omega arith
no_more (Some x) = omega arith

pub off : (ms : List Mark) (n : ℕ) (ds es : List Done) (xs : List Step) (o : Option Done) → IsCut ms n ds xs → n < length ds → ds ≡ es ++ option_to_list o
    → IsCut ms n es xs × (frames_in ms es xs ≡ frames_in ms ds xs) × (drop n ds ≡ drop n es ++ option_to_list o)
off ms n ds es xs o cut more e =
    let size : length ds ≡ length es + length (option_to_list o) = ap length e ∙ length-append es (option_to_list o) in
    let few = no_more o in
    let far : n ≤ length es = omega (arith, more, size, few) in
    let there : taken_by ms ≤ length es = omega (arith, far, cut.closed) in (
      record { closed = cut.closed; taken = there; noted = cut.noted },
      sym (ap (λ (fs : List Done). frames_in ms fs xs) e ∙ same_frames ms es (option_to_list o) xs there),
      ap (drop n) e ∙ drop-append-le n es (option_to_list o) far,
    )

pub no_step : (n : ℕ) (ds : List Done) (o : Option Done) → IfNone o (ds ≡ []) → IfNone o (drop n ds ≡ [])
no_step n ds None e = drop_all n ds (let z : length ds ≡ 0 = ap length e in omega (arith, z))
no_step n ds (Some d) e = e

-- ---- a frame more

pub closed_by : (ms ks : List Mark) (n k : ℕ) (ds : List Done) (xs : List Step) → IsCut ms n ds xs → k ≡ length ds
    → ks ≡ ms ++ record { done = k - n; noted = 0 } ∷ []
    → IsCut ks k ds xs × (record { frames = frames_in ks ds xs; done = drop k ds } ≡ close (record { frames = frames_in ms ds xs; done = drop n ds }))
closed_by ms ks n k ds xs cut len ek =
    let m : Mark = record { done = k - n; noted = 0 } in
    let whole : k ≡ taken_by ks = let more = taken_more ms m in let e = ap taken_by ek in omega (arith, more, e, len, cut.closed, cut.taken) in
    let all : length xs ≡ noted_by ks = let more = noted_more ms m in let e = ap noted_by ek in omega (arith, more, e, cut.noted) in
    let steps : take m.done (drop (taken_by ms) ds) ≡ drop n ds =
    ap (λ (i : ℕ). take m.done (drop i ds)) (sym cut.closed) ∙ take_all m.done (drop n ds) (let e = length-drop n ds in omega (arith, e, len)) in
    let frames : frames_in ks ds xs ≡ frames_in ms ds xs ++ record { done = drop n ds; noted = [] } ∷ [] =
    ap (λ (hs : List Mark). frames_in hs ds xs) ek
    ∙ frames_more ms m ds xs
    ∙ ap (λ (es : List Done). frames_in ms ds xs ++ record { done = es; noted = [] } ∷ []) steps in
    let nothing : drop k ds ≡ [] = drop_all k ds (omega (arith, len)) in (
      record { closed = whole; taken = omega (arith, whole, len); noted = all },
      rw (frames, nothing) refl,
    )

-- ---- a step of the last frame

set_last : {X : Type 0} → (xs : List X) (i : ℕ) (x : X) → i + 1 ≡ length xs → set xs i x ≡ take i xs ++ x ∷ []
set_last [] i x e = absurd (omega (arith, e))
set_last (y ∷ []) zero x e = refl
set_last (y ∷ z ∷ xs) zero x e = absurd (omega (arith, e))
set_last (y ∷ xs) (suc i) x e = let less : i + 1 ≡ length xs = omega (arith, e) in ap (λ ys. y ∷ ys) (set_last xs i x less)

some_left : (ms ks : List Mark) (n : ℕ) (ds : List Done) (xs : List Step) → IsCut ms n ds xs → Lowers ms ks → 1 ≤ length xs
some_left ms ks n ds xs cut low =
    let more = noted_more low.before low.old-mark in
    let e = ap noted_by low.old in
    omega (arith, more, e, cut.noted, low.less)

taken_off : (ms ks : List Mark) (n : ℕ) (ds : List Done) (xs ys : List Step) (x : Step) → IsCut ms n ds xs → Lowers ms ks → xs ≡ ys ++ x ∷ []
    → IsCut ks n ds ys × Forgets (record { frames = frames_in ms ds xs; done = drop n ds }) (record { frames = frames_in ks ds ys; done = drop n ds })
taken_off ms ks n ds xs ys x cut low ex =
    let before = low.before in
    let old = low.old-mark in
    let new = low.new-mark in
    let size : length xs ≡ length ys + 1 = ap length ex ∙ length-append ys (x ∷ []) in
    let was_left = ap noted_by low.old ∙ noted_more before old in
    let is_left = ap noted_by low.new ∙ noted_more before new in
    let was_taken = ap taken_by low.old ∙ taken_more before old in
    let is_taken = ap taken_by low.new ∙ taken_more before new in
    let same : taken_by ks ≡ taken_by ms = omega (arith, was_taken, is_taken, low.same) in
    let count : length ys ≡ noted_by ks = omega (arith, was_left, is_left, size, cut.noted, low.less) in
    let few : noted_by before ≤ length ys = omega (arith, count, is_left) in
    let long = length-drop (noted_by before) ys in
    let longer = length-drop (noted_by before) xs in
    let here : take old.noted (drop (noted_by before) xs) ≡ take new.noted (drop (noted_by before) ys) ++ x ∷ [] =
    take_all old.noted (drop (noted_by before) xs) (omega (arith, longer, was_left, cut.noted))
    ∙ ap (drop (noted_by before)) ex
    ∙ drop-append-le (noted_by before) ys (x ∷ []) few
    ∙ ap (λ (zs : List Step). zs ++ x ∷ []) (sym (take_all new.noted (drop (noted_by before) ys) (omega (arith, long, is_left, count)))) in (
      record { closed = cut.closed ∙ sym same; taken = omega (arith, same, cut.taken); noted = count },
      record {
        before = frames_in before ds ys;
        frame = last_in before old ds xs;
        rest = take new.noted (drop (noted_by before) ys);
        step = x;
        old = ap (λ (hs : List Mark). frames_in hs ds xs) low.old
            ∙ frames_more before old ds xs
            ∙ ap (λ (fs : List FrameView). fs ++ last_in before old ds xs ∷ []) (ap (frames_in before ds) ex ∙ same_rests before ds ys (x ∷ []) few);
        at = here;
        new = ap (λ (hs : List Mark). frames_in hs ds ys) low.new
            ∙ frames_more before new ds ys
            ∙ ap (λ (k : ℕ). frames_in before ds ys ++ record { done = take k (drop (taken_by before) ds); noted = take new.noted (drop (noted_by before) ys) } ∷ []) low.same;
        done = refl;
      },
    )

pub forgotten : (ms ks : List Mark) (n : ℕ) (ds : List Done) (xs ys : List Step) (o : Option Step) → IsCut ms n ds xs → Lowers ms ks → xs ≡ ys ++ option_to_list o → (1 ≤ length xs → IsSome o)
    → IsCut ks n ds ys × Forgets (record { frames = frames_in ms ds xs; done = drop n ds }) (record { frames = frames_in ks ds ys; done = drop n ds })
forgotten ms ks n ds xs ys None cut low e some = absurd (false≢true (some (some_left ms ks n ds xs cut low)))
forgotten ms ks n ds xs ys (Some x) cut low e some = taken_off ms ks n ds xs ys x cut low e

-- ---- a step is noted

pub noted_last : (ms ks : List Mark) (n : ℕ) (ds : List Done) (xs ys : List Step) (x : Step) → IsCut ms n ds xs → Lowers ks ms → ys ≡ xs ++ x ∷ []
    → IsCut ks n ds ys × Notes (record { frames = frames_in ms ds xs; done = drop n ds }) (record { frames = frames_in ks ds ys; done = drop n ds }) x
noted_last ms ks n ds xs ys x cut low ey =
    let before = low.before in
    let more = low.old-mark in
    let less = low.new-mark in
    let size : length ys ≡ length xs + 1 = ap length ey ∙ length-append xs (x ∷ []) in
    let was_noted = ap noted_by low.new ∙ noted_more before less in
    let is_noted = ap noted_by low.old ∙ noted_more before more in
    let was_taken = ap taken_by low.new ∙ taken_more before less in
    let is_taken = ap taken_by low.old ∙ taken_more before more in
    let same : taken_by ks ≡ taken_by ms = omega (arith, was_taken, is_taken, low.same) in
    let count : length ys ≡ noted_by ks = omega (arith, was_noted, is_noted, size, cut.noted, low.less) in
    let few : noted_by before ≤ length xs = omega (arith, cut.noted, was_noted) in
    let long = length-drop (noted_by before) xs in
    let longer = length-drop (noted_by before) ys in
    let here : take more.noted (drop (noted_by before) ys) ≡ take less.noted (drop (noted_by before) xs) ++ x ∷ [] =
    take_all more.noted (drop (noted_by before) ys) (omega (arith, longer, is_noted, count))
    ∙ ap (drop (noted_by before)) ey
    ∙ drop-append-le (noted_by before) xs (x ∷ []) few
    ∙ ap (λ (zs : List Step). zs ++ x ∷ []) (sym (take_all less.noted (drop (noted_by before) xs) (omega (arith, long, was_noted, cut.noted)))) in (
      record { closed = cut.closed ∙ sym same; taken = omega (arith, same, cut.taken); noted = count },
      record {
        before = frames_in before ds xs;
        frame = last_in before less ds xs;
        old = ap (λ (hs : List Mark). frames_in hs ds xs) low.new ∙ frames_more before less ds xs;
        new = ap (λ (hs : List Mark). frames_in hs ds ys) low.old
            ∙ frames_more before more ds ys
            ∙ ap (λ (fs : List FrameView). fs ++ last_in before more ds ys ∷ []) (ap (frames_in before ds) ey ∙ same_rests before ds xs (x ∷ []) few)
            ∙ ap (λ (zs : List Step). frames_in before ds xs ++ record { done = take more.done (drop (taken_by before) ds); noted = zs } ∷ []) here
            ∙ ap (λ (k : ℕ). frames_in before ds xs ++ record { done = take k (drop (taken_by before) ds); noted = take less.noted (drop (noted_by before) xs) ++ x ∷ [] } ∷ []) (sym low.same);
        done = refl;
      },
    )

-- of the last mark one less
pub lowers : (ms : List Mark) (i : ℕ) (m k : Mark) → i + 1 ≡ length ms → m ≡ get_or ms i m → k.done ≡ m.done → k.noted + 1 ≡ m.noted → Lowers ms (set ms i k)
lowers ms i m k last at same less =
    record {
      before = take i ms;
      old-mark = m;
      new-mark = k;
      old = sym (take_all (i + 1) ms (omega (arith, last))) ∙ take_more ms i m (omega (arith, last)) at;
      new = set_last ms i k last;
      same = same;
      less = less;
    }

pub raises : (ms : List Mark) (i : ℕ) (m k : Mark) → i + 1 ≡ length ms → m ≡ get_or ms i m → k ≡ record { done = m.done; noted = m.noted + 1 } → Lowers (set ms i k) ms
raises ms i m k last at e =
    record {
      before = take i ms;
      old-mark = k;
      new-mark = m;
      old = set_last ms i k last;
      new = sym (take_all (i + 1) ms (omega (arith, last))) ∙ take_more ms i m (omega (arith, last)) at;
      same = sym (ap (λ (g : Mark). g.done) e);
      less = sym (ap (λ (g : Mark). g.noted) e);
    }

not_nil : {X : Type 0} → (xs : List X) (x : X) → [] ≡ xs ++ x ∷ [] → ⊥
not_nil [] x e = cc
not_nil (y ∷ xs) x e = cc

drained_in : (ms : List Mark) (ds : List Done) (xs : List Step) → IsLowest ms → (fs : List FrameView) (f : FrameView) → frames_in ms ds xs ≡ fs ++ f ∷ [] → f.noted ≡ []
drained_in [] ds xs lowest fs f e = absurd (not_nil fs f e)
drained_in (m ∷ []) ds xs lowest [] f e =
    let same : record { done = take m.done ds; noted = take m.noted xs } ≡ f = cc in
    sym (ap (λ (g : FrameView). g.noted) same) ∙ ap (λ (k : ℕ). take k xs) (lowest [] m refl)
drained_in (m ∷ []) ds xs lowest (g ∷ fs) f e = let none : [] ≡ fs ++ f ∷ [] = cc in absurd (not_nil fs f none)
drained_in (m ∷ k ∷ ms) ds xs lowest [] f e = cc
drained_in (m ∷ k ∷ ms) ds xs lowest (g ∷ fs) f e =
    let rest : frames_in (k ∷ ms) (drop m.done ds) (drop m.noted xs) ≡ fs ++ f ∷ [] = cc in
    drained_in (k ∷ ms) (drop m.done ds) (drop m.noted xs) (λ before n en. lowest (m ∷ before) n (ap (λ (hs : List Mark). m ∷ hs) en)) fs f rest

pub drained : (ms : List Mark) (n : ℕ) (ds : List Done) (xs : List Step) → IsLowest ms → HasNone (record { frames = frames_in ms ds xs; done = drop n ds })
drained ms n ds xs lowest = drained_in ms ds xs lowest

-- ---- a frame less

pub is_within : (ms ks : List Mark) (n : ℕ) (ds : List Done) (xs : List Step) (m : Mark) → IsCut ms n ds xs → ms ≡ ks ++ m ∷ [] → (m.done ≤ n) × (m.noted ≤ length xs)
is_within ms ks n ds xs m cut em =
    let was_left = ap noted_by em ∙ noted_more ks m in
    let was_taken = ap taken_by em ∙ taken_more ks m in
    (omega (arith, was_taken, cut.closed), omega (arith, was_left, cut.noted))

pub reopened : (ms ks : List Mark) (n k : ℕ) (ds : List Done) (xs ys : List Step) (m : Mark) → IsCut ms n ds xs → ms ≡ ks ++ m ∷ [] → k + m.done ≡ n
    → ys ≡ take (length xs - m.noted) xs
    → IsCut ks k ds ys × Reopens (record { frames = frames_in ms ds xs; done = drop n ds }) (record { frames = frames_in ks ds ys; done = drop k ds })
reopened ms ks n k ds xs ys m cut em ek ey =
    let was_left = ap noted_by em ∙ noted_more ks m in
    let was_taken = ap taken_by em ∙ taken_more ks m in
    let count : length ys ≡ noted_by ks = ap length ey ∙ length-take (length xs - m.noted) xs ∙ omega (arith, was_left, cut.noted) in
    let closed : k ≡ taken_by ks = omega (arith, was_taken, cut.closed, ek) in
    let same : frames_in ks ds xs ≡ frames_in ks ds ys =
    ap (frames_in ks ds) (sym (take-append-drop (length xs - m.noted) xs) ∙ ap (λ (zs : List Step). zs ++ drop (length xs - m.noted) xs) (sym ey))
    ∙ same_rests ks ds ys (drop (length xs - m.noted) xs) (omega (arith, count)) in (
      record { closed = closed; taken = omega (arith, was_taken, cut.taken); noted = count },
      record {
        frame = last_in ks m ds xs;
        old = ap (λ (hs : List Mark). frames_in hs ds xs) em ∙ frames_more ks m ds xs ∙ ap (λ (fs : List FrameView). fs ++ last_in ks m ds xs ∷ []) same;
        done = sym (take-append-drop m.done (drop k ds))
            ∙ ap (λ (es : List Done). take m.done (drop k ds) ++ es) (drop-drop m.done k ds ∙ ap (λ (i : ℕ). drop i ds) ek)
            ∙ ap (λ (i : ℕ). take m.done (drop i ds) ++ drop n ds) closed;
      },
    )

-- ---- all steps

by_both : (ds es : List Done) → steps_by (ds ++ es) ≡ steps_by ds ++ steps_by es
by_both [] es = refl
by_both (d ∷ ds) es = ap (λ (xs : List Step). d.step ∷ xs) (by_both ds es)

steps_in : (ms : List Mark) (ds : List Done) (xs : List Step) → steps_by ds ≡ steps_of (frames_in ms ds xs) ++ steps_by (drop (taken_by ms) ds)
steps_in [] ds xs = refl
steps_in (m ∷ ms) ds xs =
    ap steps_by (sym (take-append-drop m.done ds))
    ∙ by_both (take m.done ds) (drop m.done ds)
    ∙ ap (λ (ys : List Step). steps_by (take m.done ds) ++ ys) (steps_in ms (drop m.done ds) (drop m.noted xs)
    ∙ ap (λ (es : List Done). steps_of (frames_in ms (drop m.done ds) (drop m.noted xs)) ++ steps_by es) (drop-drop (taken_by ms) m.done ds))
    ∙ sym (append_assoc (steps_by (take m.done ds)) (steps_of (frames_in ms (drop m.done ds) (drop m.noted xs))) (steps_by (drop (m.done + taken_by ms) ds)))

pub all_steps : (ms : List Mark) (n : ℕ) (ds : List Done) (xs : List Step) → IsCut ms n ds xs → steps_by ds ≡ steps_of (frames_in ms ds xs) ++ steps_by (drop n ds)
all_steps ms n ds xs cut = steps_in ms ds xs ∙ ap (λ (k : ℕ). steps_of (frames_in ms ds xs) ++ steps_by (drop k ds)) (sym cut.closed)

-- ---- what is noted

last_same : {X : Type 0} → (xs ys : List X) (x y : X) → xs ++ x ∷ [] ≡ ys ++ y ∷ [] → x ≡ y
last_same [] [] x y e = cc
last_same [] (z ∷ ys) x y e = let none : [] ≡ ys ++ y ∷ [] = cc in absurd (not_nil ys y none)
last_same (z ∷ xs) [] x y e = let none : [] ≡ xs ++ x ∷ [] = cc in absurd (not_nil xs x none)
last_same (w ∷ xs) (z ∷ ys) x y e = let rest : xs ++ x ∷ [] ≡ ys ++ y ∷ [] = cc in last_same xs ys x y rest

pub last_noted : (ms : List Mark) (i : ℕ) (m : Mark) (n : ℕ) (ds : List Done) (xs : List Step) → IsCut ms n ds xs → i + 1 ≡ length ms → m ≡ get_or ms i m
    → (fs : List FrameView) (f : FrameView) → frames_in ms ds xs ≡ fs ++ f ∷ [] → drop (length xs - m.noted) xs ≡ f.noted
last_noted ms i m n ds xs cut size at fs f e =
    let ks : List Mark = take i ms in
    let em : ms ≡ ks ++ m ∷ [] = sym (take_all (i + 1) ms (omega (arith, size))) ∙ take_more ms i m (omega (arith, size)) at in
    let was = ap noted_by em ∙ noted_more ks m in
    let here : length xs - m.noted ≡ noted_by ks = omega (arith, was, cut.noted) in
    let same : last_in ks m ds xs ≡ f =
    last_same (frames_in ks ds xs) fs (last_in ks m ds xs) f (sym (frames_more ks m ds xs) ∙ ap (λ (hs : List Mark). frames_in hs ds xs) (sym em) ∙ e) in
    ap (λ (k : ℕ). drop k xs) here
    ∙ sym (take_all m.noted (drop (noted_by ks) xs) (let long = length-drop (noted_by ks) xs in omega (arith, long, was, cut.noted)))
    ∙ ap (λ (g : FrameView). g.noted) same

pub no_frame : (ms : List Mark) (ds : List Done) (xs : List Step) → frames_in ms ds xs ≡ [] → ms ≡ []
no_frame [] ds xs e = refl
no_frame (m ∷ ms) ds xs e = cc

pub counted : (ms : List Mark) (ds : List Done) (xs : List Step) → noted_by ms ≤ length xs → noted_at (frames_in ms ds xs) ≡ noted_by ms
counted [] ds xs l = refl
counted (m ∷ ms) ds xs l =
    let here = length-take m.noted xs in
    let long = length-drop m.noted xs in
    let behind = counted ms (drop m.done ds) (drop m.noted xs) (omega (arith, l, long)) in
    omega (arith, here, behind, l)

pub some_mark : (ms : List Mark) (ds : List Done) (xs : List Step) → (frames_in ms ds xs ≡ [] → ⊥) → 1 ≤ length ms
some_mark [] ds xs some = absurd (some refl)
some_mark (m ∷ ms) ds xs some = omega arith

pub within : (ms : List Mark) (i : ℕ) (m : Mark) (n : ℕ) (ds : List Done) (xs : List Step) → IsCut ms n ds xs → i + 1 ≡ length ms → m ≡ get_or ms i m → m.noted ≤ length xs
within ms i m n ds xs cut size at =
    (is_within ms (take i ms) n ds xs m cut (sym (take_all (i + 1) ms (omega (arith, size))) ∙ take_more ms i m (omega (arith, size)) at)).1

pub empty_so : (ms : List Mark) (ds : List Done) (xs : List Step) (b : Bool) → b ≡ (length ms == 0) → (b ≡ true → frames_in ms ds xs ≡ []) × (frames_in ms ds xs ≡ [] → b ≡ true)
empty_so [] ds xs b e = (λ so. refl, λ none. e)
empty_so (m ∷ ms) ds xs b e = (λ so. let z : length (m ∷ ms) ≡ 0 = eqb-true (length (m ∷ ms)) 0 (sym e ∙ so) in absurd (omega (arith, z)), λ none. cc)

pub none_there : (ms : List Mark) (ds : List Done) (xs : List Step) → length ms ≡ 0 → (fs : List FrameView) (f : FrameView) → frames_in ms ds xs ≡ fs ++ f ∷ [] → ⊥
none_there [] ds xs size fs f e = not_nil fs f e
none_there (m ∷ ms) ds xs size fs f e = omega (arith, size)
