-- Requests at words.
use Rattle.std.proofs.Common.{◌≡◌, ◌∙◌, ◌⊎◌, inl, inr, ℕ, ◌+◌, ◌*◌, ◌-◌, ◌<◌, ◌≤◌, Bool, true, List, [], ◌∷◌, ◌++◌, Some, None, Option, length, sym, ap, subst, arith}
use Rattle.std.specs.Prelude.{slice_get, slice_index}
use Rattle.std.proofs.lemmas.Bool.{cases_eq}
use Rattle.tlp_core.specs.Ops.{Op}
use Rattle.tlp_core.specs.Operation.{address_of}
use Rattle.seq_memory.specs.Entries.{Reply}
use Rattle.seq_memory.specs.Limits.{Extent}
use Rattle.seq_memory.specs.Step.{refusal, after}
use Rattle.search_effects.specs.Effects as effects
use Rattle.search_effects.specs.Effects.{Agrees}
use Rattle.log_runs.specs.EventView.{EventView}
use Rattle.log_runs.specs.EventView as events
use Rattle.log_runs.specs.LogView.{LogView}
use Rattle.search_words.specs.ListsView.{ListsView}
use Rattle.search_words.specs.Lists.{Has, InList, RisesTo, IsRising}
use Rattle.search_words.specs.WordsView.{WordsView}
use Rattle.search_words.specs.Words.{value_in, NeedsWord, LeavesWord, IsCareless, IsKnownAt, IsTaken, AllRise, Keeps, AreWords, key}
use Rattle.search_words.proofs.ListLemmas.{in_push, own_push, rises_push}

-- ---- four bytes

four : (a b c d e f g h : ℕ) → a ≡ e → b ≡ f → c ≡ g → d ≡ h → a + 256 * b + 65536 * c + 16777216 * d ≡ e + 256 * f + 65536 * g + 16777216 * h
four a b c d e f g h p q r s = omega (arith, p, q, r, s)

pub value_alike : (m n : List ℕ) (a b : ℕ) → ((i : ℕ) → i < 4 → slice_index m (a + i) ≡ slice_index n (b + i)) → value_in m a ≡ value_in n b
value_alike m n a b same =
    let here : slice_index m a ≡ slice_index n b = ap (slice_index m) (omega arith) ∙ same 0 (omega arith) ∙ ap (slice_index n) (omega arith) in
    four (slice_index m a) (slice_index m (a + 1)) (slice_index m (a + 2)) (slice_index m (a + 3)) (slice_index n b) (slice_index n (b + 1)) (slice_index n (b + 2)) (slice_index n (b + 3))
    here (same 1 (omega arith)) (same 2 (omega arith)) (same 3 (omega arith))

-- a word of which the operation's range has all
pub word_is : (m d : List ℕ) (address base at word : ℕ) → base ≤ address → address + at ≡ base + 4 * word
    → ((i : ℕ) → i < 4 → slice_index m (address - base + (at + i)) ≡ slice_index d (at + i)) → value_in m (4 * word) ≡ value_in d at
word_is m d address base at word low place same = value_alike m d (4 * word) at (λ i l. ap (slice_index m) (omega (arith, low, place)) ∙ same i l)

-- what an operation leaves at a word
pub leaves_by : (x : Extent) (base block word v : ℕ) (op : Op) (told : Option Reply) (d ds : List ℕ) → base ≡ x.base → block ≡ x.block → ds ≡ d
    → ((m : List ℕ) → ((at : ℕ) → at < length ds → effects.is_put op at ≡ true → slice_index m (address_of op - base + at) ≡ slice_index ds at) → value_in m (4 * word) ≡ v)
    → ((base at : ℕ) (m : List ℕ) → at < length d → effects.is_put op at ≡ true → refusal base (length m) block op ≡ None → Agrees base block m op told
    → slice_index (after base block m op) (address_of op - base + at) ≡ slice_index d at)
    → LeavesWord x op told word v
leaves_by x base block word v op told d ds eb ek es puts left m agrees served =
    puts_here (after x.base x.block m op) (λ at within put. left_here x.base at m within put served agrees)
  where
    puts_base : (m : List ℕ) → ((at : ℕ) → at < length ds → effects.is_put op at ≡ true → slice_index m (address_of op - x.base + at) ≡ slice_index ds at) → value_in m (4 * word) ≡ v
    puts_base = subst (λ z. (m : List ℕ) → ((at : ℕ) → at < length ds → effects.is_put op at ≡ true → slice_index m (address_of op - z + at) ≡ slice_index ds at) → value_in m (4 * word) ≡ v) eb puts

    puts_here : (m : List ℕ) → ((at : ℕ) → at < length d → effects.is_put op at ≡ true → slice_index m (address_of op - x.base + at) ≡ slice_index d at) → value_in m (4 * word) ≡ v
    puts_here = subst (λ z. (m : List ℕ) → ((at : ℕ) → at < length z → effects.is_put op at ≡ true → slice_index m (address_of op - x.base + at) ≡ slice_index z at) → value_in m (4 * word) ≡ v) es puts_base

    left_here : (base at : ℕ) (m : List ℕ) → at < length d → effects.is_put op at ≡ true → refusal base (length m) x.block op ≡ None → Agrees base x.block m op told
        → slice_index (after base x.block m op) (address_of op - base + at) ≡ slice_index d at
    left_here = subst (λ z. (base at : ℕ) (m : List ℕ) → at < length d → effects.is_put op at ≡ true → refusal base (length m) z op ≡ None → Agrees base z m op told
        → slice_index (after base z m op) (address_of op - base + at) ≡ slice_index d at) ek left

-- ---- gathering

pub keeps_all : (t : WordsView) → Keeps t t
keeps_all t = record { needed = λ k b h. h; careless = λ k b h. h; blind = λ k b h. h; left = λ k b h. h; loose = λ k b h. h; named = λ k b h. h; wide = λ b h. h }

pub keeps_then : (t u v : WordsView) → Keeps t u → Keeps u v → Keeps t v
keeps_then t u v one other = record {
  needed = λ k b h. other.needed k b (one.needed k b h);
  careless = λ k b h. other.careless k b (one.careless k b h);
  blind = λ k b h. other.blind k b (one.blind k b h);
  left = λ k b h. other.left k b (one.left k b h);
  loose = λ k b h. other.loose k b (one.loose k b h);
  named = λ k b h. other.named k b (one.named k b h);
  wide = λ b h. other.wide b (one.wide b h);
}

pub still_known : (x : Extent) (t u : WordsView) (b : ℕ) (op : Op) (told : Option Reply) (w : ℕ) → Keeps t u → IsKnownAt x t b op told w → IsKnownAt x u b op told w
still_known x t u b op told w keeps known = record {
  named = keeps.named w b known.named;
  need = elim known.need [
    | inl blind ↦ inl (keeps.blind w b blind)
    | inr (inl (has, careless)) ↦ inr (inl (keeps.careless w b has, careless))
    | inr (inr (v, has, needs)) ↦ inr (inr (v, keeps.needed (key w v) b has, needs))
  ];
  left = elim known.left [
    | inl loose ↦ inl (keeps.loose w b loose)
    | inr (v, has, leaves) ↦ inr (v, keeps.left (key w v) b has, leaves)
  ];
}

-- a request at a word, taken in three steps
pub known_by : (x : Extent) (t u v : WordsView) (b : ℕ) (op : Op) (told : Option Reply) (w : ℕ) (need left : Option ℕ) (blithe : Bool) → Keeps t u → Keeps u v → Has t.named w b
    → (Has u.blind w b ⊎ ((blithe ≡ true) × Has u.careless w b) ⊎ ((n : ℕ) × (need ≡ Some n) × Has u.needed (key w n) b)) → (Has v.loose w b ⊎ ((n : ℕ) × (left ≡ Some n) × Has v.left (key w n) b))
    → (blithe ≡ true → IsCareless x op told) → ((n : ℕ) → need ≡ Some n → NeedsWord x op told w n) → ((n : ℕ) → left ≡ Some n → LeavesWord x op told w n)
    → IsKnownAt x v b op told w
known_by x t u v b op told w need left blithe one other name has_need has_left careless needs leaves = record {
  named = other.named w b (one.named w b name);
  need = elim has_need [
    | inl blind ↦ inl (other.blind w b blind)
    | inr (inl (is, has)) ↦ inr (inl (other.careless w b has, careless is))
    | inr (inr (n, is, has)) ↦ inr (inr (n, other.needed (key w n) b has, needs n is))
  ];
  left = elim has_left [
    | inl loose ↦ inl loose
    | inr (n, is, has) ↦ inr (n, has, leaves n is)
  ];
}

pub still_taken : (x : Extent) (t u : WordsView) (b : ℕ) (op : Op) (told : Option Reply) → Keeps t u → IsTaken x t b op told → IsTaken x u b op told
still_taken x t u b op told keeps (inl many) = inl (keeps.wide b many)
still_taken x t u b op told keeps (inr (some, known)) = inr (some, λ w touches within. still_known x t u b op told w keeps (known w touches within))

-- one word more of a request
pub words_next : (x : Extent) (t u : WordsView) (b : ℕ) (op : Op) (told : Option Reply) (first word : ℕ) → Keeps t u
    → ((w : ℕ) → first ≤ w → w < word → IsKnownAt x t b op told w) → IsKnownAt x u b op told word
    → (w : ℕ) → first ≤ w → w < word + 1 → IsKnownAt x u b op told w
words_next x t u b op told first word keeps before now w low high = elim (cases_eq w word) [
  | inl same ↦ subst (IsKnownAt x u b op told) (sym same) now
  | inr other ↦ still_known x t u b op told w keeps (before w low (omega (arith, high, other)))
]

rises_more : (l : ListsView) (n : ℕ) → IsRising l n → IsRising l (n + 1)
rises_more l n h = record {
  one = λ k b e. omega (arith, h.one k b e);
  known = h.known;
  several = λ i. record { rises = (h.several i).rises; below = λ b there. omega (arith, (h.several i).below b there) };
}

pub all_rise_more : (t : WordsView) (n : ℕ) → AllRise t n → AllRise t (n + 1)
all_rise_more t n h = record {
  needed = rises_more t.needed n h.needed;
  careless = rises_more t.careless n h.careless;
  blind = rises_more t.blind n h.blind;
  left = rises_more t.left n h.left;
  loose = rises_more t.loose n h.loose;
  named = rises_more t.named n h.named;
  wide = record { rises = h.wide.rises; below = λ b there. omega (arith, h.wide.below b there) };
}

-- one event more
pub words_more : (log : LogView) (t u : WordsView) (n : ℕ) → Keeps t u → AllRise u n
    → ((i : ℕ) (op : Op) (told : Option Reply) → slice_get log.events n ≡ Some (events.Sub i op told) → IsTaken log.extent u n op told)
    → AreWords log t n → AreWords log u (n + 1)
words_more log t u n keeps rise own old = record {
  each = λ b i op told low there. elim (cases_eq b n) [
    | inl same ↦ subst (λ c. IsTaken log.extent u c op told) (sym same) (own i op told (ap (slice_get log.events) (sym same) ∙ there))
    | inr other ↦ still_taken log.extent t u b op told keeps (old.each b i op told (omega (arith, low, other)) there)
  ];
  rise = all_rise_more u n rise;
}

pub words_none : (log : LogView) (t : WordsView) → AllRise t 0 → AreWords log t 0
words_none log t rise = record { each = λ b i op told low there. absurd (omega (arith, low)); rise = rise }

-- a request that names no word or many
pub adds_wide : (t : WordsView) (needed careless blind left loose named : ListsView) (was now : List ℕ) (n : ℕ)
    → record { needed = needed; careless = careless; blind = blind; left = left; loose = loose; named = named; wide = was } ≡ t → now ≡ was ++ n ∷ [] → AllRise t n
    → Keeps t (record { needed = needed; careless = careless; blind = blind; left = left; loose = loose; named = named; wide = now })
    × AllRise (record { needed = needed; careless = careless; blind = blind; left = left; loose = loose; named = named; wide = now }) n
    × InList now n
adds_wide t needed careless blind left loose named was now n is more rise = (
  subst (λ z. Keeps z new) is (record {
    needed = λ k b h. h;
    careless = λ k b h. h;
    blind = λ k b h. h;
    left = λ k b h. h;
    loose = λ k b h. h;
    named = λ k b h. h;
    wide = λ b h. subst (λ xs. InList xs b) (sym more) (in_push was n b h);
  }),
  record {
    needed = old.needed;
    careless = old.careless;
    blind = old.blind;
    left = old.left;
    loose = old.loose;
    named = old.named;
    wide = subst (λ xs. RisesTo xs n) (sym more) (rises_push was n old.wide);
  },
  subst (λ xs. InList xs n) (sym more) (own_push was n),
)
  where
    new : WordsView
    new = record { needed = needed; careless = careless; blind = blind; left = left; loose = loose; named = named; wide = now }

    old : AllRise (record { needed = needed; careless = careless; blind = blind; left = left; loose = loose; named = named; wide = was }) n
    old = subst (λ z. AllRise z n) (sym is) rise
