-- The rule at the start, and what a closed table is.
use Rattle.std.proofs.Common.{◌≡◌, ◌≢◌, ℕ, subst, zero, suc, ◌+◌, ◌<◌, ◌≤◌, List, [], ◌∷◌, length, map, replicate, sym, refl, ap, ◌∙◌, ⊎_elim, arith, Option, Some, None, get_or}
use Rattle.std.specs.Prelude.{slice_get}
use mathlib.Core.Option.{some, some-injective, some-ne-none}
use mathlib.Core.Logic.{dite}
use native.Mathlib.Decide.{ℕ_discrete, dec_lt}
use lib.ListN.{get_elem?, length-map, length-replicate}
use Rattle.atomic_table.specs.Table.{opening, Final, Seen}
use Rattle.hall_core.proofs.Lists.{at_map, at_snoc, count_nil, there, at_length, one_is, not_same, total_one, at_most_one}
use Rattle.lane_core.specs.Steps.{LaneEndsView}
use Rattle.lane_core.specs.Calls.{content}
use Rattle.fabric_steps.specs.Lists.{Each, count}
use Rattle.fabric_steps.specs.Whole.{Whole, up_of, down_of, requester_of, open_number}
use Rattle.fabric_steps.specs.Sound.{Sound, times as stands_times}
use Rattle.fabric_steps.specs.New.{IsNew}
use Rattle.fabric_steps.specs.Trace.{Belongs}
use Rattle.fabric_steps.specs.Fabric.{Fabric, items, whole_of}
use Rattle.fabric_core.specs.declared.config.Config.{Config}
use Rattle.fabric_core.specs.Config.{IsConfig, config_of}
use Rattle.fabric_core.specs.Kept.{IsSoundFabric}
use Rattle.hall_laws.specs.declared.part.PartValue.{PartValue}
use Rattle.hall_laws.specs.declared.token.Token.{Token}
use Rattle.hall_laws.specs.declared.token.Start.{Start}
use Rattle.hall_laws.specs.declared.token.Knowledge.{Knowledge}
use Rattle.hall_laws.specs.Parts.{parts_of}
use Rattle.hall_laws.specs.Standing.{word_of, named, serving, token_of}
use Rattle.hall_laws.specs.Standing as hall
use Rattle.hall_laws.specs.Story.{Act, Tells, IsStoryOf}
use Rattle.hall_laws.specs.Rule.{Traced, IsSoundTraced, Fits, Kept, HasConfig, newcomer, newcomers, parts}
use Rattle.hall_core.specs.Opens.{IsUnused, Leaves, Left}

-- ---- a fabric to which nothing has happened

no_items : (es : List LaneEndsView) (i : ℕ) → ((i : ℕ) (e : LaneEndsView) → slice_get es i ≡ Some e → content e ≡ []) → get_or (map items es) i [] ≡ []
no_items [] i h = refl
no_items (e ∷ es) zero h = ap (map (λ x. _)) (h 0 e refl)
no_items (e ∷ es) (suc i) h = no_items es i (λ j x at. h (suc j) x at)

no_port : (es : List LaneEndsView) (i : ℕ) → ((i : ℕ) (e : LaneEndsView) → slice_get es i ≡ Some e → content e ≡ []) → get_or ([] ∷ map items es) i [] ≡ []
no_port es zero h = refl
no_port es (suc i) h = no_items es i h

none_open : (o : Option ℕ) → ((k : ℕ) → o ≢ Some k) → o ≡ None
none_open None h = refl
none_open (Some k) h = absurd (h k refl)

-- the laws of quiet fabrics
pub record QuietLaws : Type 0 where
  pub acted : (p : Whole) (i k : ℕ) → Sound p → p.inward ≡ [] → up_of p i ≡ [] → k < (requester_of p i).next → stands_times i k p.history ≡ 1
  pub answered : (p : Whole) (i t k : ℕ) → Sound p → p.inward ≡ [] → up_of p i ≡ [] → p.outward ≡ [] → down_of p i ≡ [] → open_number (requester_of p i) t ≢ Some k

pub unused_is_new : QuietLaws → (f : Fabric) → IsSoundFabric f → IsUnused f → IsNew (whole_of f)
unused_is_new laws f s u =
    let p : Whole = whole_of f in
    let inward : p.inward ≡ [] = ap (map (λ x. _)) u.0.inward in
    let outward : p.outward ≡ [] = ap (map (λ x. _)) u.0.outward in
    let up : (i : ℕ) → up_of p i ≡ [] = λ i. no_port f.up i u.0.up in
    let down : (i : ℕ) → down_of p i ≡ [] = λ i. no_port f.down i u.0.down in
    record {
      history = u.1;
      inward = inward;
      outward = outward;
      up = up;
      down = down;
      next = λ i. dite (dec_lt 0 (requester_of p i).next)
          (λ (some : 0 < (requester_of p i).next). absurd (
          let one : stands_times i 0 p.history ≡ 1 = laws.acted p i 0 s.sound inward (up i) some in
          let none : stands_times i 0 p.history ≡ 0 = ap (stands_times i 0) u.1 ∙ count_nil (Rattle.history_words.specs.Trace.is_request i 0) in
          omega arith))
          (λ none. omega arith);
      tags = λ i t. none_open (open_number (requester_of p i) t) (λ k. laws.answered p i t k s.sound inward (up i) outward (down i));
    }

-- ---- the rule at the start

all_zero : (n j x : ℕ) → get_elem? (replicate n 0) j ≡ some x → x ≡ 0
all_zero zero j x e = absurd (some-ne-none x (sym e))
all_zero (suc n) zero x e = sym (some-injective 0 x e)
all_zero (suc n) (suc j) x e = all_zero n j x e

numbered : (c : Config) (f : Fabric) (seats m count n : ℕ) → (named n (newcomers c f seats m count) ≤ 1) × (n < m → named n (newcomers c f seats m count) ≡ 0)
numbered c f seats m zero n = (omega arith, λ h. refl)
numbered c f seats m (suc count) n = let h = numbered c f seats (suc m) count n in dite (ℕ_discrete n m)
    (λ same. let one = one_is n m same in let none = h.1 (omega arith) in (omega arith, λ big. omega arith))
    (λ ne. let zero_here = not_same n m ne in let most = h.0 in (omega arith, λ big. let none = h.1 (omega arith) in omega arith))

unserved : (c : Config) (f : Fabric) (seats m count n : ℕ) → serving n (newcomers c f seats m count) ≡ 0
unserved c f seats m zero n = refl
unserved c f seats m (suc count) n = let h = unserved c f seats (suc m) count n in omega arith

-- nothing has happened since a hall with so many seats was made of this fabric
abbrev pub at_start : Fabric → ℕ → Traced
at_start f seats = record { seats = seats; opened = f; acts = []; fabric = f; records = [] }

new_fits : (f : Fabric) (c : Config) (seats n : ℕ) → n < seats → HasConfig f c → Fits (at_start f seats) (newcomer c f seats n).knows
new_fits f c seats n small config = record {
  config = config;
  opened = refl;
  seats = refl;
  seat = small;
  seen = (f.memory.entries, refl);
  made = refl;
  pending = refl;
  records = refl;
  told = λ a r at. absurd (cc);
  served = tt;
  did = refl;
}

all_seated : (f : Fabric) (words : List ℕ) (c : Config) (seats m count : ℕ) → m + count ≤ seats → HasConfig f c → Each (hall.Seated parts IsSoundTraced Fits (at_start f seats) words) (newcomers c f seats m count)
all_seated f words c seats m zero few config = tt
all_seated f words c seats m (suc count) few config = ((tt, new_fits f c seats m (omega arith) config), all_seated f words c seats (suc m) count (omega arith) config)

pub opens : (f : Fabric) (n m : ℕ) (xs : List (Option PartValue)) (key : Start) → IsSoundFabric f → Belongs (whole_of f) [] → HasConfig f key.config → xs ≡ map Some (parts_of f) → n ≡ word_of (length xs) → Kept key (opening (replicate n 0) xs (newcomers key.config f m 0 m))
opens f n m xs key sound belongs config is count =
    let long : length xs ≡ length (parts_of f) = ap length is ∙ length-map (parts_of f) Some in record {
      whole = at_start f m;
      sound = record { sound = sound; belongs = belongs; tells = (refl, refl); by = tt };
      wide = omega (arith, length-replicate {A = ℕ} n 0);
      deep = length-map xs some ∙ long;
      at_home = λ k v free at. at_map some xs k (Some v) (ap (λ (l : List (Option PartValue)). get_elem? l k) is ∙ at_map Some (parts_of f) k v at);
      holder = λ j k e. let z = all_zero n (word_of j) (suc k) e in absurd (omega arith);
      tokens = λ j us e. ⊎_elim (λ (h : get_elem? [] j ≡ some us). absurd (some-ne-none us (sym h)))
          (λ (h : newcomers key.config f m 0 m ≡ us). subst (Each (hall.Seated parts IsSoundTraced Fits (at_start f m) (replicate n 0))) h (all_seated f (replicate n 0) key.config m 0 m (omega arith) config)) (at_snoc [] (newcomers key.config f m 0 m) us j e);
      apart = λ k. let h = (numbered key.config f m 0 m k).0 in omega arith;
      served = λ k. let h = unserved key.config f m 0 m k in omega arith;
    }

-- ---- a closed table

each_map : {X : Type 0} {P Q : X → Type 0} → ((x : X) → P x → Q x) → (es : List X) → Each P es → Each Q es
each_map f [] h = tt
each_map f (e ∷ es) h = (f e h.0, each_map f es h.1)

same_lists : {X : Type 0} (xs ys : List X) → length xs ≡ length ys → ((k : ℕ) (y : X) → get_elem? ys k ≡ some y → get_elem? xs k ≡ some y) → xs ≡ ys
same_lists [] [] n h = refl
same_lists [] (y ∷ ys) n h = absurd (omega arith)
same_lists (x ∷ xs) [] n h = absurd (omega arith)
same_lists (x ∷ xs) (y ∷ ys) n h = let e = some-injective x y (h 0 y refl) in let r = same_lists xs ys (omega arith) (λ k z at. h (suc k) z at) in cc

same_config : (f : Fabric) (c : Config) → HasConfig f c → config_of f ≡ c
same_config f c h = λ i. record { requesters = h.requesters i; base = h.base i; size = h.size i; credits = h.credits i; block = h.block i }

-- where each word is 0, the slots are the parts of a sound fabric that the seat leaves
pub closes : (key : Start) (id : ℕ) (v : List Token) (ws : List ℕ) (xs : List (Option PartValue)) → 0 < length v → Final (Seen (Kept key) id v) ws xs → ((k : ℕ) → k < length xs → get_elem? ws (word_of k) ≡ some 0) → Left v xs
closes key id [] ws xs some_token (s, (r, at), words, count, home) free = absurd (omega arith)
closes key id (t ∷ ts) ws xs some_token (s, (r, at), words, count, home) free =
    let p : Traced = r.whole in
    let each : Each (hall.Seated parts IsSoundTraced Fits p s.words) (t ∷ ts) = r.tokens id (t ∷ ts) at in
    let story : (w : Knowledge) → Fits p w → IsStoryOf p.acts p.records p.fabric w = λ w f. record {
      tells = subst (λ (g : Fabric). Tells g p.acts p.records p.fabric) (sym f.opened) r.sound.tells;
      own = f.did;
      by = subst (λ (n : ℕ). Each (λ (a : Act). a.by < n) p.acts) (sym f.seats) r.sound.by;
      belongs = r.sound.belongs;
      made = f.made;
      records = f.records;
    } in
    let leaves : (w : Knowledge) → Fits p w → Leaves w p.fabric = λ w f. record {
      sound = r.sound.sound;
      config = f.config;
      right_config = subst IsConfig (same_config p.fabric w.config f.config) r.sound.sound.config;
      begins = f.seen;
      made = subst (Rattle.fabric_steps.specs.Trace.IsMade (suc w.number) (Rattle.fabric_steps.specs.Whole.view (whole_of p.fabric) (suc w.number))) (sym f.made) (r.sound.belongs.made (suc w.number));
      ran = record { acts = p.acts; told = p.records; tells = (story w f).tells; own = f.did; belongs = r.sound.belongs };
    } in (
      p.fabric,
      leaves t.knows each.0.1,
      record {
        leaves = each_map (λ (u : Token) (h : hall.Seated parts IsSoundTraced Fits p s.words u). leaves u.knows h.1) (t ∷ ts) each;
        below = each_map (λ (u : Token) (h : hall.Seated parts IsSoundTraced Fits p s.words u). h.1.seat) (t ∷ ts) each;
        apart = λ n. at_most_one (named n (t ∷ ts)) (hall.total (named n) s.views) (total_one (named n) s.views id (t ∷ ts) at) (r.apart n);
        acts = p.acts;
        told = p.records;
        ran = each_map (λ (u : Token) (h : hall.Seated parts IsSoundTraced Fits p s.words u). story u.knows h.1) (t ∷ ts) each;
      },
      same_lists xs (map Some (parts p)) (omega (arith, r.deep, count, length-map {A = PartValue} (parts p) Some))
          (λ k y e. let x : (v : PartValue) × (get_elem? (parts p) k ≡ some v) = there (parts p) k (omega (arith, at_length (map Some (parts p)) k y e, length-map {A = PartValue} (parts p) Some)) in
          let small : k < length (parts p) = at_length (parts p) k x.0 x.1 in
          let zero_word : get_elem? s.words (word_of k) ≡ some 0 = ap (λ (l : List ℕ). get_elem? l (word_of k)) words ∙ free k (omega (arith, r.deep, count)) in
          home k (Some x.0) (r.at_home k x.0 zero_word x.1) ∙ (sym (at_map Some (parts p) k x.0 x.1) ∙ e)),
    )
