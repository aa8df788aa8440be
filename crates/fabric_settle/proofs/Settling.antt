-- Each round lowers the hops that are left, until none is, and then nothing moves.
use Rattle.std.proofs.Common.{◌≡◌, ◌∙◌, ◌↔◌, ℕ, zero, suc, ◌+◌, ◌<◌, ◌≤◌, Bool, true, false, [], refl, sym, ap, subst, arith, IsOk, if◌then◌else◌}
use Rattle.std.specs.Prelude.{fold}
use Rattle.fabric_steps.specs.Fabric.{Fabric}
use Rattle.fabric_steps.specs.Event.{Event}
use Rattle.fabric_core.specs.Answers.{answer}
use Rattle.fabric_core.specs.Kept.{IsSoundFabric}
use Rattle.fabric_core.specs.Quiet.{IsQuiet, AreShort, HaveTags}
use Rattle.fabric_settle.specs.Hops.{AreFlushed, IsOldestHop, hops_left}
use Rattle.fabric_settle.specs.Rounds.{Settling, at, settlement, round, rounds, after_rounds, lane_turn, all_lanes, after_lanes}
use Rattle.fabric_settle.specs.Rest.{EndsWithin, Reaches}
use Rattle.fabric_settle.proofs.Reaching.{itself, then_on}
use Rattle.fabric_settle.proofs.Resting as rest
use Rattle.fabric_settle.proofs.Counting.{comes_to_rest}
use Rattle.fabric_settle.proofs.Form.{began, round_is}
use Rattle.fabric_settle.proofs.Trying.{Laws, Keeps, Went, Stays, keeps_all, some_goes, none_goes}
use Rattle.fabric_settle.proofs.Turning.{LaneLaws}
use Rattle.fabric_settle.proofs.Flushing.{Flushes, all_short, are_short, all_flushed, turns_stay, turns_short, turns_flush_all, still_turns}
use Rattle.fabric_settle.proofs.Wires.{ByParts, short_all}
use Rattle.fabric_settle.proofs.Oldest.{are_hops, has_oldest}

-- the laws of the layers below
pub record AllLaws : Type 0 where
  pub fabric : Laws
  pub lane : LaneLaws
  pub flushes : Flushes
  pub parts : ByParts
  pub goes : (f : Fabric) → IsSoundFabric f → AreFlushed f → ¬ IsQuiet f → (event : Event) × IsOldestHop event × IsOk (answer f event)
  pub none : (f : Fabric) → (hops_left f ≡ 0) ↔ IsQuiet f
  pub few : (f : Fabric) → IsSoundFabric f → HaveTags f → hops_left f ≤ 7888

pub record Good (s : Settling) : Type 0 where
  pub sound : IsSoundFabric s.fabric
  pub short : AreShort s.fabric

abbrev moved : Settling → Bool
moved s = s.moved

abbrev pub left : Settling → ℕ
left s = hops_left s.fabric

-- after the turns of the lanes
abbrev flushed : Settling → Settling
flushed s = fold lane_turn (began s) all_lanes

record IsFlushedOf (s t : Settling) : Type 0 where
  stays : Stays s t
  short : AreShort t.fabric
  flush : AreFlushed t.fabric

is_flushed : AllLaws → (s : Settling) → Good s → IsFlushedOf s (flushed s)
is_flushed l s g =
    let k = turns_stay l.fabric all_lanes (began s) g.sound in
    record {
      stays = record { sound = k.sound; same = k.same; reaches = k.reaches };
      short = are_short (flushed s).fabric (turns_short l.fabric l.lane l.flushes all_lanes (began s) g.sound (all_short s.fabric g.short));
      flush = turns_flush_all l.fabric l.lane l.flushes (began s) g.sound (all_short s.fabric g.short);
    }

round_keeps : AllLaws → (s : Settling) → Good s → Keeps (flushed s) (round s)
round_keeps l s g = subst (Keeps (flushed s)) (sym (round_is s)) (keeps_all l.fabric after_lanes (flushed s) are_hops (is_flushed l s g).stays.sound)

keeps : AllLaws → (s : Settling) → Good s → Good (round s)
keeps l s g =
    let k = is_flushed l s g in
    record {
      sound = (round_keeps l s g).sound;
      short = subst (λ (t : Settling). AreShort t.fabric) (sym (round_is s)) (short_all l.fabric l.parts after_lanes (flushed s) are_hops k.stays.sound k.short);
    }

round_goes : AllLaws → (s : Settling) → Good s → 0 < left s → Went (flushed s) (round s)
round_goes l s g some =
    let k = is_flushed l s g in
    let f : Fabric = (flushed s).fabric in
    let e = l.goes f k.stays.sound k.flush (λ quiet. some_left (left s) (hops_left f) some k.stays.same ((l.none f).1 quiet)) in
    subst (Went (flushed s)) (sym (round_is s)) (some_goes l.fabric after_lanes (flushed s) e.0 are_hops k.stays.sound (has_oldest f k.stays.sound.lanes e.0 e.1 e.2) e.2)
  where
    some_left : (a b : ℕ) → 0 < a → b ≡ a → b ≡ 0 → ⊥
    some_left a b p q r = omega arith

lowers : AllLaws → (s : Settling) → Good s → 0 < left s → left (round s) < left s
lowers l s g some = subst (λ n. left (round s) < n) (is_flushed l s g).stays.same (round_goes l s g some).fewer

none : AllLaws → (s : Settling) → Good s → left s ≡ 0 → left (round s) ≡ 0
none l s g zero_left = below (left (round s)) (left (flushed s)) (left s) (round_keeps l s g).fewer (is_flushed l s g).stays.same zero_left
  where
    below : (a b c : ℕ) → a ≤ b → b ≡ c → c ≡ 0 → a ≡ 0
    below a b c p q r = omega arith

-- a round in which no hop is left is the turns of its lanes
only_turns : AllLaws → (s : Settling) → Good s → left s ≡ 0 → round s ≡ flushed s
only_turns l s g zero_left =
    let k = is_flushed l s g in
    round_is s ∙ none_goes l.fabric after_lanes (flushed s) are_hops k.stays.sound (k.stays.same ∙ zero_left)

rests : AllLaws → (s : Settling) → Good s → left s ≡ 0 → moved (round (round s)) ≡ false
rests l s g zero_left =
    let t = round s in
    let turns : t ≡ flushed s = only_turns l s g zero_left in
    let good : Good t = keeps l s g in
    let flush : AreFlushed t.fabric = subst (λ (u : Settling). AreFlushed u.fabric) (sym turns) (is_flushed l s g).flush in
    ap moved (only_turns l t good (none l s g zero_left)) ∙ still_turns l.fabric l.lane l.flushes all_lanes (began t) good.sound (all_flushed t.fabric flush)

settles : AllLaws → rest.Settles round moved Good left
settles l = record { keeps = keeps l; lowers = lowers l; moves = λ s g some. (round_goes l s g some).moved; none = none l; rests = rests l }

-- ---- the rounds of `settle`

rounds_are : (n : ℕ) (s : Settling) → rest.rounds round moved n s ≡ rounds n s
unfolding rest.rounds rounds
rounds_are zero s = refl
rounds_are (suc n) s = ap (λ (t : Settling). if (round s).moved then t else round s) (rounds_are n (round s))

after_are : (n : ℕ) (s : Settling) → rest.after_rounds round moved n s ≡ after_rounds n s
unfolding rest.after_rounds after_rounds
after_are zero s = refl
after_are (suc n) s = after_are n (round s)

itself_most : (n : ℕ) → n ≤ n
itself_most n = omega arith

one_more : (a b : ℕ) → a ≤ suc b → a ≤ b + 1
one_more a b q = omega arith

pub ends : AllLaws → (n : ℕ) (s : Settling) → Good s → left s + 1 < n → EndsWithin (left s + 1) s (rounds n s)
ends l n s g room =
    let e : rest.EndsWithin round moved (suc (left s)) s (rest.rounds round moved n s) = comes_to_rest round moved Good left (settles l) (left s) n s g (itself_most (left s)) room in
    record {
      before = e.before;
      few = one_more e.before (left s) e.few;
      last = sym (rounds_are n s) ∙ e.last ∙ ap round (after_are e.before s);
      still = ap moved (sym (rounds_are n s)) ∙ e.still;
    }

good_after : AllLaws → (n : ℕ) (s : Settling) → Good s → Good (after_rounds n s)
unfolding after_rounds
good_after l zero s g = g
good_after l (suc n) s g = good_after l n (round s) (keeps l s g)

-- a round that moved nothing left a quiet fabric
pub is_quiet_then : AllLaws → (most : ℕ) (s t : Settling) → Good s → EndsWithin most s t → IsQuiet t.fabric
is_quiet_then l most s t g e =
    let u = after_rounds e.before s in
    let good : Good u = good_after l e.before s g in
    (l.none t.fabric).0 (ap left e.last ∙ by_left (left u) refl good)
  where
    above : (m n : ℕ) → m ≡ suc n → 0 < m
    above m n q = omega arith

    by_left : (n : ℕ) → left (after_rounds e.before s) ≡ n → Good (after_rounds e.before s) → left (round (after_rounds e.before s)) ≡ 0
    by_left zero h good = none l (after_rounds e.before s) good h
    by_left (suc n) h good = absurd (
        let some : 0 < left (after_rounds e.before s) = above (left (after_rounds e.before s)) n h in
        let yes : (round (after_rounds e.before s)).moved ≡ true = (round_goes l (after_rounds e.before s) good some).moved in
        let no : (round (after_rounds e.before s)).moved ≡ false = ap moved (sym e.last) ∙ e.still in
        cc)

-- and its lanes are flushed: the turns of that round flushed them, and nothing happened behind these
pub is_flushed_then : AllLaws → (most : ℕ) (s t : Settling) → Good s → EndsWithin most s t → AreFlushed t.fabric
is_flushed_then l most s t g e = subst (λ (x : Settling). AreFlushed x.fabric) (sym e.last) (by_left (left (after_rounds e.before s)) refl (good_after l e.before s g))
  where
    above : (m n : ℕ) → m ≡ suc n → 0 < m
    above m n q = omega arith

    by_left : (n : ℕ) → left (after_rounds e.before s) ≡ n → Good (after_rounds e.before s) → AreFlushed (round (after_rounds e.before s)).fabric
    by_left zero h good = subst (λ (x : Settling). AreFlushed x.fabric) (sym (only_turns l (after_rounds e.before s) good h)) (is_flushed l (after_rounds e.before s) good).flush
    by_left (suc n) h good = absurd (
        let some : 0 < left (after_rounds e.before s) = above (left (after_rounds e.before s)) n h in
        let yes : (round (after_rounds e.before s)).moved ≡ true = (round_goes l (after_rounds e.before s) good some).moved in
        let no : (round (after_rounds e.before s)).moved ≡ false = ap moved (sym e.last) ∙ e.still in
        cc)

-- ---- what happens in the rounds

round_reaches : AllLaws → (s : Settling) → Good s → Reaches s.fabric (round s).fabric
round_reaches l s g = then_on s.fabric (flushed s).fabric (round s).fabric (is_flushed l s g).stays.reaches (round_keeps l s g).reaches

pub rounds_reach : AllLaws → (n : ℕ) (s : Settling) → Good s → Reaches s.fabric (rounds n s).fabric
unfolding rounds
rounds_reach l zero s g = itself s.fabric
rounds_reach l (suc n) s g = by_moved (round s).moved (rounds_reach l n (round s) (keeps l s g))
  where
    by_moved : (b : Bool) → Reaches (round s).fabric (rounds n (round s)).fabric → Reaches s.fabric (if b then rounds n (round s) else round s).fabric
    by_moved true later = then_on s.fabric (round s).fabric (rounds n (round s)).fabric (round_reaches l s g) later
    by_moved false later = round_reaches l s g

-- ---- settlements

room : (n : ℕ) → n ≤ 7888 → n + 1 < 10000
room n h = omega arith

good : (f : Fabric) → IsSoundFabric f → AreShort f → Good (at f [] false)
good f s short = record { sound = s; short = short }

pub soon : AllLaws → (f : Fabric) → IsSoundFabric f → AreShort f → HaveTags f → EndsWithin (hops_left f + 1) (at f [] false) (settlement f)
soon l f s short tags = ends l 10000 (at f [] false) (good f s short) (room (hops_left f) (l.few f s tags))

pub quiet : AllLaws → (f : Fabric) → IsSoundFabric f → AreShort f → HaveTags f → IsQuiet (settlement f).fabric
quiet l f s short tags = is_quiet_then l (hops_left f + 1) (at f [] false) (settlement f) (good f s short) (soon l f s short tags)

pub reached : AllLaws → (f : Fabric) → IsSoundFabric f → AreShort f → Reaches f (settlement f).fabric
reached l f s short = rounds_reach l 10000 (at f [] false) (good f s short)

pub flushed_then : AllLaws → (f : Fabric) → IsSoundFabric f → AreShort f → HaveTags f → AreFlushed (settlement f).fabric
flushed_then l f s short tags = is_flushed_then l (hops_left f + 1) (at f [] false) (settlement f) (good f s short) (soon l f s short tags)
